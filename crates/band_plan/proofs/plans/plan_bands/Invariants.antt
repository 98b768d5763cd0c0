use Rattle.std.proofs.Common.{◌≤◌, ◌*◌}
use Rattle.arrayvec.specs.ArrayVec.{array_vec_len}
use Rattle.band_plan.proofs.PlanSteps.{AtPlan}
use Rattle.band_plan.proofs.plans.plan_bands.Given as goal

abbrev pub invariant-loop-band : goal.invariant-loop-band
invariant-loop-band g l = AtPlan g.C.Coder.calls g.H.Chooser.calls l.frame.kind l.frame.settings.now l.frame.allocation.now l.frame.total l.nodes.items l.amounts l.running.balance l.fn.coder l.fn.chooser l.coder l.chooser l.band × (array_vec_len l.nodes ≤ 63 * l.band)
