use Rattle.std.proofs.Common.{arith, refl, rules, ◌≡◌, ◌+◌, ◌-◌, length, get_or}
use Rattle.std.specs.Prelude.{pos}
use mir.Val.{SFits}
use mir.Syntax.{w32}
use Rattle.std.proofs.lemmas.Int.{to_z-of_z}
use Rattle.pulse_vectors.specs.Vectors.{pulse_sum}
use Rattle.pulse_vectors.proofs.Counts.{count_grows}
use Rattle.pulse_vectors.proofs.RankSteps.{ranked-start, next-fits, ranked_by-next, ranked-below, ranked-end, ranked-value, ranked-only}
use Rattle.pulse_vectors.proofs.ranks.rank.Goals as goal

pub loop-i-init : goal.loop-i-init
loop-i-init c = record { ranked = ranked-start _ _ refl; numbers_is = omega arith; pulses_is = omega arith }

pub step_over-place-requires-clause-pulses : goal.step_over-place-requires-clause-pulses
step_over-place-requires-clause-pulses c =
    let f : SFits w32 (get_or c.args.y.now (c.loop-i.i - 1) (pos 0)) = search rules in
    simp to_z-of_z (omega (arith, next-fits _ _ (c.loop-i.i - 1) _ _ (omega arith) c.loop-i.invariant.ranked))

pub step_over-place-requires-clause-fits : goal.step_over-place-requires-clause-fits
step_over-place-requires-clause-fits c =
    let e : c.loop-i.row.pulses ≡ pulse_sum c.args.y.now = c.loop-i.invariant.pulses_is in
    rw e (omega (arith, c.requires.fits, count_grows (c.loop-i.row.numbers + 1) (length c.args.y.now) (pulse_sum c.args.y.now) (omega arith)))

pub overflow_add-place : goal.overflow_add-place
overflow_add-place c =
    let f : SFits w32 (get_or c.args.y.now (c.loop-i.i - 1) (pos 0)) = search rules in
    let ahead = simp to_z-of_z at c.step_over-place.ensures.before in
    let next = ranked_by-next _ _ (c.loop-i.i - 1) _ _ _ _ _ _ _ _ (omega arith) c.loop-i.invariant refl ahead c.step_over-place.ensures.numbers c.step_over-place.ensures.pulses in
    omega (arith, c.requires.fits, ranked-below _ _ _ _ next.ranked (omega arith))

pub overflow_add-behind : goal.overflow_add-behind
overflow_add-behind c =
    let f : SFits w32 (get_or c.args.y.now (c.loop-i.i - 1) (pos 0)) = search rules in
    let size = simp to_z-of_z at c.unsigned_abs-behind.ensures.value in
    omega (arith, next-fits _ _ (c.loop-i.i - 1) _ _ (omega arith) c.loop-i.invariant.ranked)

pub loop-i-preserved : goal.loop-i-preserved
loop-i-preserved c =
    let f : SFits w32 (get_or c.args.y.now (c.loop-i.i - 1) (pos 0)) = search rules in
    let size = simp to_z-of_z at c.unsigned_abs-behind.ensures.value in
    let ahead = simp to_z-of_z at c.step_over-place.ensures.before in
    ranked_by-next _ _ _ _ _ _ _ _ _ _ _ (omega arith) c.loop-i.invariant size ahead c.step_over-place.ensures.numbers c.step_over-place.ensures.pulses

pub returns-clause-below : goal.returns-clause-below
returns-clause-below c = ranked-below _ _ _ _ c.loop-i.invariant.ranked (omega arith)

pub returns-clause-stands : goal.returns-clause-stands
returns-clause-stands c = ranked-end _ _ _ _ (omega arith) c.loop-i.invariant.ranked

pub returns-clause-only : goal.returns-clause-only
returns-clause-only c = λ i g. ranked-only _ _ _ _ i (omega arith) c.loop-i.invariant.ranked g

pub returns-clause-value : goal.returns-clause-value
returns-clause-value c = ranked-value _ _ _ _ (omega arith) c.loop-i.invariant.ranked
