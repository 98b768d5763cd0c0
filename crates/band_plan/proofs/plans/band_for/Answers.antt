use Rattle.std.proofs.Common.{◌≡◌, ◌≤◌, ◌+◌, ◌*◌, ◌^◌, arith, ap, sym, subst, refl, ◌∙◌}
use Rattle.std.specs.Prelude.{pos, slice_index_or, FitsSigned}
use Rattle.std.specs.Int.{w32}
use Rattle.std.proofs.lemmas.Int.{to_z-of_z, fits_signed_from_abs}
use Rattle.celt_tables.specs.Tables.{width_of}
use Rattle.band_plan.specs.Channels.{IsBand}
use Rattle.band_plan.proofs.FrameSteps.{change_small}
use Rattle.band_plan.proofs.PlanSteps.{band_by, band_is, end_within}
use Rattle.band_plan.proofs.plans.band_for.Goals as goal

pub returns-clause-value : goal.returns-clause-value
returns-clause-value c =
    let e3 = c.from-3.ensures in
    let m = change_small c.args.frame.kind.lm c.args.frame.settings.now.transient _ c.args.frame.kind.sized (c.requires.settings.changes c.args.band c.requires.band) in
    let f : FitsSigned w32 (slice_index_or c.args.frame.settings.now.tf c.args.band (pos 0)) = fits_signed_from_abs w32 (slice_index_or c.args.frame.settings.now.tf c.args.band (pos 0)) (omega (arith, m)) in
    let n : c.width.result * c.size.result ≡ width_of c.args.band * 2 ^ c.args.frame.kind.lm =
    ap (λ x. x * c.size.result) (c.width.ensures.value ∙ ap width_of c.from-2.ensures) ∙ ap (λ x. width_of c.args.band * x) c.size.ensures.value in
    rw e3 (simp to_z-of_z (band_by c.args.frame.kind c.args.frame.settings.now c.args.frame.allocation.now c.args.band (c.from.result + 1) (c.width.result * c.size.result) c.blocks-2.result _ (ap (λ x. x + 1) c.from.ensures) n c.blocks-2.ensures.value refl))

pub returns-clause-is : goal.returns-clause-is
returns-clause-is c =
    let m = change_small c.args.frame.kind.lm c.args.frame.settings.now.transient _ c.args.frame.kind.sized (c.requires.settings.changes c.args.band c.requires.band) in
    let small = end_within c.args.frame.kind c.args.band c.requires.band in
    let b = c.blocks-2.ensures.value in
    let s = c.blocks-2.ensures.some in
    let t = c.blocks-2.ensures.most in
    subst IsBand (sym (returns-clause-value c)) (band_is c.args.frame.kind c.args.frame.settings.now c.args.frame.allocation.now c.args.band small m (subst (λ x. 1 ≤ x) b s) (subst (λ x. x ≤ 8) b t))
