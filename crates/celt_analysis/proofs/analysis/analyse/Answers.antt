use Rattle.std.proofs.Common.{◌≡◌, ◌∙◌, ◌*◌, ◌^◌, ◌<◌, ℕ, ap, subst, arith, rules, List, length, All}
use Rattle.std.specs.Prelude.{ℤ, unsigned_abs}
use Rattle.std.proofs.lemmas.List.{get_or_default}
use Rattle.celt_base.specs.declared.state.Setting.{Setting}
use Rattle.celt_tables.specs.Tables.{edge_of}
use Rattle.celt_analysis.specs.Analyses.{analysed, analysis_of, spectrum_in}
use Rattle.celt_analysis.specs.Energies.{heights_of, is_silent, targets_of}
use Rattle.celt_analysis.specs.Signals.{blocks_of, channel_values, is_stereo, off}
use Rattle.celt_analysis.proofs.MeasureLemmas.{spectrum_in_length, right_length, left_size, right_size, found_is}
use Rattle.celt_analysis.proofs.analysis.analyse.Goals as goal

pub measure-out-inside-requires-clause-left : goal.measure-out-inside-requires-clause-left
measure-out-inside-requires-clause-left c =
    let values : ℕ → List ℤ = channel_values c.args.kind c.args.settings.now c.args.window.now in
    ap length (c.left.ensures.value ∙ c.analyse-transient.ensures.left) ∙ spectrum_in_length c.args.kind values 0

pub measure-out-inside-requires-clause-right : goal.measure-out-inside-requires-clause-right
measure-out-inside-requires-clause-right c = λ two.
    let values : ℕ → List ℤ = channel_values c.args.kind c.args.settings.now c.args.window.now in
    right_length c.args.kind (spectrum_in c.args.kind values 1) c.right.result.now (c.right.ensures.value ∙ c.analyse-transient.ensures.right) (spectrum_in_length c.args.kind values 1) two

pub invariant_of-out : goal.invariant_of-out
invariant_of-out c =
    let kind = c.args.kind in
    let values : ℕ → List ℤ = channel_values kind c.args.settings.now c.args.window.now in
    record {
      left_size = left_size kind c.analyse-transient.new.self.left.spectrum (ap length c.analyse-transient.ensures.left ∙ spectrum_in_length kind values 0);
      right_size = right_size kind (spectrum_in kind values 1) c.analyse-transient.new.self.right.spectrum c.analyse-transient.ensures.right (spectrum_in_length kind values 1);
      left_items = subst (All (λ x. unsigned_abs x < 2 ^ 38)) c.left.ensures.value c.left.ensures.sizes;
      right_items = subst (All (λ x. unsigned_abs x < 2 ^ 38)) c.right.ensures.value c.right.ensures.sizes;
      target_rows = c.measure-out-inside.ensures.rows;
      bands = c.measure-out-inside.ensures.bands;
      targets_are = c.measure-out-inside.ensures.target_sizes;
      heights_are = c.measure-out-inside.ensures.height_sizes;
    }

pub returns : goal.returns
unfolding analysis_of analysed
returns c =
    let kind = c.args.kind in
    let s : List Setting = c.args.settings.now in
    let l = c.left.ensures.value in
    let r = c.right.ensures.value in
    let three : length s ≡ 3 = search rules in
    let e = get_or_default s 2 c.index-settings-2.result off (omega (arith, three)) in
    found_is c.args.kind _ _ c.analyse-transient.result _ c.analyse-transient.new.self.left.spectrum c.analyse-transient.new.self.right.spectrum _ _ c.measure-out-inside.result.silent c.measure-out-inside.result.targets c.measure-out-inside.result.heights
    e c.analyse-transient.ensures.transient c.analyse-transient.ensures.left c.analyse-transient.ensures.right
    (c.measure-out-inside.ensures.silent ∙ (λ k. is_silent (is_stereo kind) (blocks_of kind * edge_of kind.end) (l k) (r k)))
    (c.measure-out-inside.ensures.targets ∙ (λ k. targets_of (is_stereo kind) kind.end (blocks_of kind) (l k) (r k)))
    (c.measure-out-inside.ensures.heights ∙ (λ k. heights_of (is_stereo kind) kind.end (blocks_of kind) (l k) (r k)))
