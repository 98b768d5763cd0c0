use Rattle.std.proofs.Common.{arith, ◌≡◌, ◌+◌, ◌-◌, add-one}
use Rattle.std.specs.Prelude.{pos, ◌-ℤ◌}
use mir.Val.{to_z, of_z}
use mir.Syntax.{w32}
use Rattle.std.proofs.lemmas.Int.{ints}
use Rattle.pulse_vectors.specs.Vectors.{minus}
use Rattle.pulse_vectors.proofs.Counts.{count-by-sum}
use Rattle.pulse_vectors.proofs.Places.{below-suc}
use Rattle.pulse_vectors.proofs.RankSteps.{front-leads, back-leads}
use Rattle.pulse_vectors.proofs.TableSteps.{place-inside}
use Rattle.pulse_vectors.proofs.table.PulseTable.first_number.Goals as goal

pub overflow_cast-result : goal.overflow_cast-result
overflow_cast-result c = omega (arith, ints, place-inside _ _ c.requires.place)

pub pulses_behind-behind-requires-else-index-upper-clause-below : goal.pulses_behind-behind-requires-else-index-upper-clause-below
pulses_behind-behind-requires-else-index-upper-clause-below c =
    let upper = rw add-one at c.sum-upper.ensures in
    let some = c.requires.some in
    let all : c.args.pulses - 1 + 1 ≡ c.args.pulses = omega arith in
    rw all (omega (arith, c.requires.below, count-by-sum c.args.numbers c.args.pulses, below-suc c.args.numbers c.args.pulses))

pub overflow_cast-result-else-index-upper : goal.overflow_cast-result-else-index-upper
overflow_cast-result-else-index-upper c = omega (arith, ints, place-inside _ _ c.requires.place)

pub overflow_sub-result-else-index-upper-2 : goal.overflow_sub-result-else-index-upper-2
overflow_sub-result-else-index-upper-2 c = omega (arith, ints, place-inside _ _ c.requires.place)

pub returns-then-index-upper : goal.returns-then-index-upper
returns-then-index-upper c =
    let inside = place-inside _ _ c.requires.place in
    let e : to_z w32 (c.args.pulses - c.pulses_behind-behind.result) ≡ pos (c.args.pulses - c.pulses_behind-behind.result) = omega (arith, ints) in
    let to = rw add-one at c.pulses_behind-behind.ensures.to in
    rw e (front-leads _ _ _ _ _ c.pulses_behind-behind.ensures.most
    (omega (arith, c.pulses_behind-behind.ensures.from, c.sum_below.ensures))
    (omega (arith, c.pulses_behind-behind.ensures.from, c.sum_below.ensures, below-suc c.args.numbers c.pulses_behind-behind.result)))

pub returns-else-index-upper : goal.returns-else-index-upper
returns-else-index-upper c =
    let inside = place-inside _ _ c.requires.place in
    let upper = rw add-one at c.sum-upper.ensures in
    let some = c.requires.some in
    let to = rw add-one at c.pulses_behind-behind-else-index-upper.ensures.to in
    let e : to_z w32 (of_z w32 (pos 0 -ℤ to_z w32 (c.args.pulses - c.pulses_behind-behind-else-index-upper.result))) ≡ minus (c.args.pulses - c.pulses_behind-behind-else-index-upper.result) = omega (arith, ints, c.pulses_behind-behind-else-index-upper.ensures.most) in
    rw e (back-leads _ _ _ c.sum-upper.result _ _ (omega (arith, c.pulses_behind-behind-else-index-upper.ensures.most)) upper
    (omega (arith, c.pulses_behind-behind-else-index-upper.ensures.from, c.sum_below-else-index-upper.ensures))
    (omega (arith, c.pulses_behind-behind-else-index-upper.ensures.from, c.sum_below-else-index-upper.ensures, below-suc c.args.numbers c.pulses_behind-behind-else-index-upper.result)))
