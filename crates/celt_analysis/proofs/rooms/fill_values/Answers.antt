use Rattle.std.proofs.Common.{◌≡◌, ◌+◌, ◌*◌, ◌^◌, ◌<◌, ℕ, ap, ◌∙◌, sym, subst, All}
use Rattle.std.specs.Prelude.{unsigned_abs}
use Rattle.std.proofs.lemmas.List.Elements.{All-append, All-drop}
use Rattle.celt_analysis.specs.Signals.{frame_size, channel_in}
use Rattle.celt_analysis.proofs.SignalLemmas.{values_made}
use Rattle.celt_analysis.proofs.rooms.fill_values.Goals as goal

pub returns-clause-value : goal.returns-clause-value
returns-clause-value c =
    let n : ℕ = frame_size c.args.kind in
    let e : 120 * c.blocks-n.result + 120 ≡ n + 120 = ap (λ k. 120 * k + 120) c.blocks-n.ensures.value in
    values_made n _ c.args.settings.now (channel_in c.args.kind.channels c.args.window.now c.args.channel) c.emphasize.new.out c.prefilter.new.out c.split_at_mut-values.result.1.now (c.split_at_mut-values.ensures.front_len ∙ e) c.emphasize.ensures.value c.prefilter.ensures.value

pub returns-clause-sizes : goal.returns-clause-sizes
returns-clause-sizes c = All-append (λ v. unsigned_abs v < 2 ^ 29) c.prefilter.new.out c.split_at_mut-values.result.1.now c.prefilter.ensures.sizes (subst (All (λ v. unsigned_abs v < 2 ^ 29)) (sym c.split_at_mut-values.ensures.back) (All-drop (λ v. unsigned_abs v < 2 ^ 29) (120 * c.blocks-n.result + 120) c.args.out.now c.requires.kept))
