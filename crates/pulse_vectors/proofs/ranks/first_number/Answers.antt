use Rattle.std.proofs.Common.{arith, ◌≡◌, ◌+◌, ◌-◌, ◌≤◌, ◌/◌, add-one}
use Rattle.std.specs.Prelude.{pos, ◌-ℤ◌}
use mir.Val.{to_z, of_z}
use mir.Syntax.{w32}
use Rattle.std.proofs.lemmas.Int.{ints}
use Rattle.pulse_vectors.specs.Vectors.{minus}
use Rattle.pulse_vectors.proofs.Counts.{raised-by-sum, below-positive}
use Rattle.pulse_vectors.proofs.Places.{below-suc}
use Rattle.pulse_vectors.proofs.RankSteps.{front-leads, back-leads}
use Rattle.pulse_vectors.proofs.ranks.first_number.Goals as goal

pub overflow_sub-upper : goal.overflow_sub-upper
overflow_sub-upper c = omega (arith, raised-by-sum _ _ _ _ _ c.at-zero.ensures (omega arith) c.at-whole.ensures)

pub pulses_behind-behind-requires-clause-below : goal.pulses_behind-behind-requires-clause-below
pulses_behind-behind-requires-clause-below c =
    rw add-one (omega (arith, raised-by-sum _ _ _ _ _ c.at-zero.ensures (omega arith) c.at-whole.ensures, below-suc c.down.new.self.numbers c.args.pulses))

pub overflow_sub-pulses : goal.overflow_sub-pulses
overflow_sub-pulses c =
    below-positive c.down.new.self.numbers _ (omega (arith, raised-by-sum _ _ _ _ _ c.at-zero.ensures (omega arith) c.at-whole.ensures))

pub pulses_behind-behind-requires-else-index-upper-clause-below : goal.pulses_behind-behind-requires-else-index-upper-clause-below
pulses_behind-behind-requires-else-index-upper-clause-below c =
    let sum = raised-by-sum _ _ _ _ _ c.at-zero.ensures (omega arith) c.at-whole.ensures in
    let some : 1 ≤ c.args.pulses = below-positive c.down.new.self.numbers _ (omega arith) in
    let all : c.args.pulses - 1 + 1 ≡ c.args.pulses = omega arith in
    rw all (omega arith)

pub returns-then-index-upper-clause-leads : goal.returns-then-index-upper-clause-leads
returns-then-index-upper-clause-leads c =
    let e : to_z w32 (c.args.pulses - c.pulses_behind-behind.result.0) ≡ pos (c.args.pulses - c.pulses_behind-behind.result.0) = omega (arith, ints) in
    rw (e, ← c.down.ensures.numbers)
    (front-leads _ _ _ _ _ c.pulses_behind-behind.ensures.pulses c.pulses_behind-behind.ensures.place c.pulses_behind-behind.ensures.within)

pub returns-else-index-upper-clause-leads : goal.returns-else-index-upper-clause-leads
returns-else-index-upper-clause-leads c =
    let sum = raised-by-sum _ _ _ _ _ c.at-zero.ensures (omega arith) c.at-whole.ensures in
    let some : 1 ≤ c.args.pulses = below-positive c.down.new.self.numbers _ (omega arith) in
    let t : c.pulses_behind-behind-else-index-upper.result.0 ≤ c.args.pulses - 1 = c.pulses_behind-behind-else-index-upper.ensures.pulses in
    let e : to_z w32 (of_z w32 (pos 0 -ℤ to_z w32 (c.args.pulses - c.pulses_behind-behind-else-index-upper.result.0))) ≡ minus (c.args.pulses - c.pulses_behind-behind-else-index-upper.result.0) = omega (arith, ints) in
    rw (e, ← c.down.ensures.numbers)
    (back-leads _ _ _ (c.at-zero.result + (c.at-whole.result - c.at-zero.result) / 2) _ _ (omega arith)
    (omega (arith, below-suc c.down.new.self.numbers c.args.pulses))
    (omega (arith, c.pulses_behind-behind-else-index-upper.ensures.place))
    c.pulses_behind-behind-else-index-upper.ensures.within)
