use Rattle.pulse_search.proofs.PulseSteps.{best-next}
use Rattle.pulse_search.proofs.pulses.best.Goals as goal

pub loop-next-preserved : goal.loop-next-preserved
loop-next-preserved c =
    let i = c.loop-next.invariant in
    let n = c.next_better-next-in-loop-next.ensures in
    record {
      high = n.high;
      place = best-next c.args.sizes.now c.args.pulses.now c.loop-next.next c.next_better-next-in-loop-next.result c.loop-next.place i.place (i.better c.loop-next-test.true) n;
      better = n.better;
    }
