use Rattle.std.proofs.Common.{arith, ◌≡◌}
use Rattle.std.specs.Prelude.{pos, int_lt, false}
use mir.Val.{to_z, of_z}
use mir.Syntax.{w32}
use Rattle.std.proofs.lemmas.Int.{to_z-of_z, ints}
use Rattle.pulse_vectors.proofs.CostSteps.{last-most, halving-high, halving-end}
use Rattle.pulse_vectors.proofs.table.PulseTable.index_below.Goals as goal

pub overflow_add-high : goal.overflow_add-high
overflow_add-high c = omega (arith, last-most c.args.numbers, c.requires.last)

pub overflow_add-middle : goal.overflow_add-middle
overflow_add-middle c = omega (arith, last-most c.args.numbers, c.requires.last, c.loop-low.invariant.within, c.loop-low.invariant.ordered)

pub cost-requires-clause-index : goal.cost-requires-clause-index
cost-requires-clause-index c = (
  omega (arith, last-most c.args.numbers, c.requires.last, c.loop-low.invariant.within),
  omega (arith, c.requires.last, c.loop-low.invariant.within),
)

pub loop-low-preserved : goal.loop-low-preserved
loop-low-preserved c =
    let test : int_lt (pos c.cost.result) (to_z w32 (of_z w32 c.args.bits)) ≡ false = grind (arith, ints, c.cost.ensures.most) in
    let test' = rw c.cost.ensures.exact at test in
    halving-high _ _ _ _ _ _ (omega arith) c.requires.last c.loop-low.invariant (omega arith) (omega arith) test'

pub returns-clause-exact : goal.returns-clause-exact
returns-clause-exact c =
    let fits = c.ranges.bits in
    let halved = simp to_z-of_z at c.loop-low.invariant in
    halving-end _ _ _ _ _ c.requires.last halved (omega arith)
