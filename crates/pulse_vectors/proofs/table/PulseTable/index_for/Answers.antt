use Rattle.std.proofs.Common.{arith, ◌+◌}
use Rattle.std.specs.Prelude.{pos, ◌*ℤ◌, ◌≤ℤ◌, ◌<ℤ◌}
use Rattle.std.proofs.lemmas.Int.{to_z-of_z, ints}
use Rattle.pulse_vectors.proofs.CostSteps.{last-most, near-low, near-high}
use Rattle.pulse_vectors.proofs.table.PulseTable.index_for.Goals as goal

pub overflow_add-low : goal.overflow_add-low
overflow_add-low c = omega (arith, last-most c.args.numbers, c.last_index-last.ensures.exact, c.index_below-low.ensures.within)

pub cost-requires-clause-index : goal.cost-requires-clause-index
cost-requires-clause-index c = (
  omega (arith, last-most c.args.numbers, c.last_index-last.ensures.exact, c.index_below-low.ensures.within),
  omega (arith, c.last_index-last.ensures.exact, c.index_below-low.ensures.within),
)

pub cost-requires-2-clause-index : goal.cost-requires-2-clause-index
cost-requires-2-clause-index c =
    (omega (arith, last-most c.args.numbers, c.last_index-last.ensures.exact, c.min-high.ensures), omega (arith, c.last_index-last.ensures.exact, c.min-high.ensures))

pub returns-then-bits-sum-clause-exact : goal.returns-then-bits-sum-clause-exact
returns-then-bits-sum-clause-exact c =
    let fits = c.ranges.bits in
    let low = simp to_z-of_z at c.index_below-low.ensures.exact in
    let twice : (pos 2 *ℤ c.args.bits) ≤ℤ pos (c.cost.result + c.cost-2.result) = grind (arith, ints, fits, c.cost.ensures.most, c.cost-2.ensures.most) in
    near-low _ _ _ _ _ _ _ low c.last_index-last.ensures.exact c.min-high.ensures c.cost.ensures.exact c.cost-2.ensures.exact twice

pub returns-else-bits-sum-clause-exact : goal.returns-else-bits-sum-clause-exact
returns-else-bits-sum-clause-exact c =
    let fits = c.ranges.bits in
    let low = simp to_z-of_z at c.index_below-low.ensures.exact in
    let twice : pos (c.cost.result + c.cost-2.result) <ℤ (pos 2 *ℤ c.args.bits) = grind (arith, ints, fits, c.cost.ensures.most, c.cost-2.ensures.most) in
    near-high _ _ _ _ _ _ _ low c.last_index-last.ensures.exact c.min-high.ensures c.cost.ensures.exact c.cost-2.ensures.exact twice

pub returns-then-bits-sum-clause-within : goal.returns-then-bits-sum-clause-within
returns-then-bits-sum-clause-within c = (
  omega (arith, last-most c.args.numbers, c.last_index-last.ensures.exact, c.index_below-low.ensures.within),
  omega (arith, c.last_index-last.ensures.exact, c.index_below-low.ensures.within),
)

pub returns-else-bits-sum-clause-within : goal.returns-else-bits-sum-clause-within
returns-else-bits-sum-clause-within c =
    (omega (arith, last-most c.args.numbers, c.last_index-last.ensures.exact, c.min-high.ensures), omega (arith, c.last_index-last.ensures.exact, c.min-high.ensures))
