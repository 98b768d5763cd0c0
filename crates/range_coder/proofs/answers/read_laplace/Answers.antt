use Rattle.std.proofs.Common.{◌+◌, ◌*◌, pos, negsuc, min, refl, sym, ap, ◌∙◌, subst, w64, FitsSigned, arith}
use Rattle.std.proofs.lemmas.Int.{ints, to_z-of_z, fits_signed_from_abs}
use Rattle.celt_base.specs.declared.question.Question.TheVariants.{Laplace}
use Rattle.celt_base.specs.Questions.{laplace_row}
use Rattle.range_coder.specs.Windows.{TakesAnswer}
use Rattle.range_coder.proofs.LaplaceWalk.{zero_ends, minus_ends, plus_ends}
use Rattle.range_coder.proofs.Taking.{takes_row}
use Rattle.range_coder.proofs.answers.read_laplace.Goals as goal

pub returns-then-value-fs-clause-takes : goal.returns-then-value-fs-clause-takes
returns-then-value-fs-clause-takes c =
    let both = zero_ends c.args.fs c.args.decay c.requires.valid in
    takes_row c.args.frame.now c.args.window c.take_part.result (Laplace c.args.fs c.args.decay) (pos 0) (laplace_row c.args.fs c.args.decay) 0 _ _ _
    (omega arith) refl (λ i holds. (holds, tt)) both.0 both.1 c.binary-shares.ensures.total c.take_part.ensures.takes

minus_fits : (c : goal.After-take_part-then-value-middle) → FitsSigned w64 c.minus.result
minus_fits c =
    let few = c.sides_at-sides.ensures.few in
    let is = c.minus.ensures in
    fits_signed_from_abs w64 c.minus.result (omega (arith, ints))

plus_fits : (c : goal.After-take_part-else-value-middle) → FitsSigned w64 c.plus.result
plus_fits c =
    let few = c.sides_at-sides.ensures.few in
    let is = c.plus.ensures in
    fits_signed_from_abs w64 c.plus.result (omega (arith, ints))

pub returns-then-value-middle-clause-takes : goal.returns-then-value-middle-clause-takes
returns-then-value-middle-clause-takes c =
    let row = laplace_row c.args.fs c.args.decay in
    let sides = c.sides_at-sides.result in
    let is = c.sides_at-sides.ensures in
    let begins = is.from in
    let above = is.above in
    let below = c.value_of-value.ensures.below in
    let upper = minus_ends c.args.fs c.args.decay sides.smaller sides.from sides.spread is.from is.spread in
    subst (λ a. TakesAnswer c.args.frame.now c.args.window (Laplace c.args.fs c.args.decay) a c.take_part-then-value-middle.result) (sym (to_z-of_z w64 c.minus.result (minus_fits c) ∙ c.minus.ensures))
    (takes_row c.args.frame.now c.args.window c.take_part-then-value-middle.result (Laplace c.args.fs c.args.decay) (negsuc sides.smaller) row (2 * sides.smaller + 1) _ _ _
    (omega arith) refl (λ i holds. (holds, tt)) is.from (c.min-to.ensures ∙ ap (min (sides.from + sides.spread + 1)) c.binary-shares.ensures.total ∙ upper) c.binary-shares.ensures.total c.take_part-then-value-middle.ensures.takes)

pub returns-else-value-middle-clause-takes : goal.returns-else-value-middle-clause-takes
returns-else-value-middle-clause-takes c =
    let row = laplace_row c.args.fs c.args.decay in
    let sides = c.sides_at-sides.result in
    let is = c.sides_at-sides.ensures in
    let below = c.value_of-value.ensures.below in
    let both = plus_ends c.args.fs c.args.decay sides.smaller sides.from sides.spread is.from is.spread (omega arith) in
    let begins = both.0 in
    subst (λ a. TakesAnswer c.args.frame.now c.args.window (Laplace c.args.fs c.args.decay) a c.take_part-else-value-middle.result) (sym (to_z-of_z w64 c.plus.result (plus_fits c) ∙ c.plus.ensures))
    (takes_row c.args.frame.now c.args.window c.take_part-else-value-middle.result (Laplace c.args.fs c.args.decay) (pos (sides.smaller + 1)) row (2 * (sides.smaller + 1)) _ _ _
    (omega arith) refl (λ i holds. (holds, tt)) both.0 (c.min-to-else-value-middle.ensures ∙ ap (min (sides.from + sides.spread + 1 + sides.spread + 1)) c.binary-shares.ensures.total ∙ both.1) c.binary-shares.ensures.total c.take_part-else-value-middle.ensures.takes)
