use Rattle.std.proofs.Common.{arith}
use Rattle.std.specs.Prelude.{FitsSigned}
use Rattle.std.specs.Int.{w32}
use Rattle.std.proofs.lemmas.Int.{to_z-of_z, fits_signed_from_abs}
use Rattle.celt_base.specs.Paces.{tell_frac_of}
use Rattle.band_plan.proofs.PlanSteps.{plan_start, plan_next, plan_end, end_within, none_inside}
use Rattle.band_plan.proofs.plans.plan_bands.Goals as goal

pub loop-band-init : goal.loop-band-init
loop-band-init g c = (
  plan_start c.args.frame.kind c.args.frame.settings.now c.args.frame.allocation.now c.args.frame.total c.running_at-running.result.balance c.tell_frac.result c.args.nodes.now.items c.args.amounts.now
      c.tell_frac.ensures.value c.running_at-running.ensures.value c.running_at-running.ensures.size c.requires.nodes c.requires.amounts,
  none_inside c.args.nodes.now.items c.requires.nodes,
)

pub loop-band-preserved : goal.loop-band-preserved
loop-band-preserved g c =
    let b = c.plan_band-share.ensures.bits in
    let f2 : FitsSigned w32 c.plan_band-share.result.bits = fits_signed_from_abs w32 c.plan_band-share.result.bits (omega (arith, b)) in
    let i = c.loop-band.invariant.0 in
    let w = c.plan_band-share.ensures.coded (tell_frac_of (g.C.Coder.calls.pace c.args.coder.now)) i.plans i.running_is in
    let n = c.running_after-running.ensures in
    let inside = end_within c.args.frame.kind c.loop-band.band c.loop-band-test.true in
    let room = c.loop-band.invariant.1 in
    let filled = c.plan_band-share.ensures.room in (
      rw (c.from.ensures, to_z-of_z w32 c.plan_band-share.result.bits f2)
          (plan_next c.args.frame.kind c.args.frame.settings.now c.args.frame.allocation.now c.args.frame.total c.loop-band.running.balance c.running_after-running.result.balance c.plan_band-share.result.bits c.loop-band.nodes.items c.plan_band-share.new.nodes.items c.loop-band.amounts c.loop-band.band
          c.loop-band-test.true inside i w n (c.requires.frame.pulses c.loop-band.band c.loop-band-test.true) c.plan_band-share.ensures.count),
      omega (arith, room, filled),
    )

pub returns-clause-walked : goal.returns-clause-walked
returns-clause-walked g c =
    let i = c.loop-band.invariant.0 in
    record {
      plans = i.plans;
      walked = plan_end c.args.frame.kind c.args.frame.settings.now c.args.frame.allocation.now c.args.frame.total c.loop-band.running.balance c.loop-band.nodes.items c.loop-band.amounts c.loop-band.band c.loop-band-test.false i;
      nodes_are = i.nodes_are;
      amounts_are = i.amounts_are;
    }
