use Rattle.std.proofs.Common.{◌≡◌}
use Rattle.std.specs.Prelude.{pos, ◌-ℤ◌}
use Rattle.band_plan.specs.Plans.{left_of, share_by}
use Rattle.band_plan.proofs.PlanSteps.{band_planned}
use Rattle.band_plan.proofs.plans.plan_band.Goals as goal

pub returns-clause-coded : goal.returns-clause-coded
returns-clause-coded g c =
    let s : c.share_for-share.result ≡ share_by c.args.frame.allocation.now (left_of c.args.frame.total c.tell_frac-now.result) (c.args.running.balance -ℤ pos c.tell_frac-now.result) c.args.band = rw c.from.ensures at c.share_for-share.ensures.value in
    λ first before e.
    band_planned c.args.frame.kind c.args.frame.settings.now c.args.frame.allocation.now c.args.frame.total c.args.running.balance first c.args.band c.tell_frac-now.result before c.band_for-place.result c.share_for-share.result
    c.tell_frac-now.ensures.value c.band_for-place.ensures.value s e c.code_band.ensures.coded
