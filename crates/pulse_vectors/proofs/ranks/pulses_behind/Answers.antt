use Rattle.std.proofs.Common.{arith}
use Rattle.pulse_vectors.proofs.Counts.{below-next, below-end}
use Rattle.pulse_vectors.proofs.Places.{below-zero}
use Rattle.pulse_vectors.proofs.ranks.pulses_behind.Goals as goal

pub loop-place-init : goal.loop-place-init
loop-place-init c = (omega arith, omega (arith, below-zero c.args.row.now.numbers))

pub overflow_add-behind : goal.overflow_add-behind
overflow_add-behind c = omega (arith, c.ranges.most, below-end _ _ _ _ _ c.args.most c.loop-place.invariant.1 c.at.ensures (omega arith) c.requires.below)

pub loop-place-smaller : goal.loop-place-smaller
loop-place-smaller c =
    let more = below-end _ _ _ _ _ c.args.most c.loop-place.invariant.1 c.at.ensures (omega arith) c.requires.below in
    omega arith

pub loop-place-preserved : goal.loop-place-preserved
loop-place-preserved c = (
  below-end _ _ _ _ _ c.args.most c.loop-place.invariant.1 c.at.ensures (omega arith) c.requires.below,
  below-next _ _ _ _ _ c.loop-place.invariant.1 c.at-place.ensures (omega arith),
)
