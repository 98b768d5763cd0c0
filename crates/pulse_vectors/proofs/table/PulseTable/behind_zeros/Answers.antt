use Rattle.std.proofs.Common.{arith, sym, ◌∙◌}
use Rattle.pulse_vectors.proofs.RankSteps.{skipping-more, skipping-turn}
use Rattle.pulse_vectors.proofs.TableSteps.{place-of}
use Rattle.pulse_vectors.proofs.table.PulseTable.behind_zeros.Goals as goal

pub overflow_sub-left : goal.overflow_sub-left
overflow_sub-left c = skipping-more _ _ _ _ _ c.requires.pulses.0 c.loop-left.invariant

pub is_zero-requires : goal.is_zero-requires
is_zero-requires c =
    let some = skipping-more _ _ _ _ _ c.requires.pulses.0 c.loop-left.invariant in
    let most = c.loop-left.invariant.most in
    place-of c.args.numbers c.args.pulses _ _ (omega (arith, some, most)) c.requires.numbers c.requires.pulses.1 (omega arith) c.requires.fits

pub overflow_sub-left-in-loop-left : goal.overflow_sub-left-in-loop-left
overflow_sub-left-in-loop-left c = skipping-more _ _ _ _ _ c.requires.pulses.0 c.loop-left.invariant

pub sum_below-place-requires : goal.sum_below-place-requires
sum_below-place-requires c =
    let some = skipping-more _ _ _ _ _ c.requires.pulses.0 c.loop-left.invariant in
    let most = c.loop-left.invariant.most in
    place-of c.args.numbers c.args.pulses _ _ (omega (arith, some, most)) c.requires.numbers c.requires.pulses.1 (omega arith) c.requires.fits

pub loop-left-smaller : goal.loop-left-smaller
loop-left-smaller c =
    let some = skipping-more _ _ _ _ _ c.requires.pulses.0 c.loop-left.invariant in
    omega (arith, some)

pub loop-left-preserved : goal.loop-left-preserved
loop-left-preserved c =
    skipping-turn _ _ _ _ _ _ c.requires.pulses.0 c.loop-left.invariant c.sum_below-place.ensures (sym c.is_zero.ensures ∙ c.loop-left-test.true)

pub returns-clause-some : goal.returns-clause-some
returns-clause-some c = skipping-more _ _ _ _ _ c.requires.pulses.0 c.loop-left.invariant
