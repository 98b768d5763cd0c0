use Rattle.std.proofs.Common.{◌≡◌, ◌+◌, arith, ◌∙◌, ap}
use Rattle.std.specs.Prelude.{pos, ◌*ℤ◌, ◌-ℤ◌}
use Rattle.std.specs.Int.{w32, int_shr, cast_signed as to_z, cast_unsigned as of_z}
use Rattle.std.proofs.lemmas.Int.{ints}
use Rattle.bit_allocation.specs.Amounts.{offset_of, tilt_of}
use Rattle.bit_allocation.proofs.amounts.offset.Goals as goal

pub returns-clause-value : goal.returns-clause-value
unfolding offset_of
returns-clause-value c =
    let same : to_z w32 (of_z w32 (to_z w32 (of_z w32 c.tilted_by.result) -ℤ to_z w32 (of_z w32 c.less.result))) ≡ c.tilted_by.result -ℤ c.less.result =
    omega (arith, ints, c.less.ensures.value, c.less.ensures.most, c.tilted_by.ensures.size) in
    let steps : to_z w32 (of_z w32 c.steps.result) ≡ c.args.trim -ℤ pos (5 + c.args.kind.lm) =
    omega (arith, ints, c.steps.ensures.value, c.steps.ensures.size, c.ranges.trim) in
    same
    ∙ ap (λ z. z -ℤ c.less.result)
    (c.tilted_by.ensures.value
    ∙ ap (λ n. int_shr (pos n *ℤ to_z w32 (of_z w32 c.steps.result)) 6) c.tilt.ensures.value
    ∙ ap (λ s. int_shr (pos (tilt_of c.args.kind c.args.band) *ℤ s) 6) steps)
    ∙ ap (λ l. int_shr (pos (tilt_of c.args.kind c.args.band) *ℤ (c.args.trim -ℤ pos (5 + c.args.kind.lm))) 6 -ℤ l) c.less.ensures.value

pub returns-clause-size : goal.returns-clause-size
returns-clause-size c = omega (arith, ints, c.less.ensures.value, c.less.ensures.most, c.tilted_by.ensures.size)
