use Rattle.std.proofs.Common.{◌-◌, ◌/◌, ◌<◌, pos, refl, sym, subst, ◌∙◌, arith}
use Rattle.celt_base.specs.declared.question.Question.TheVariants.{Triangle}
use Rattle.celt_base.specs.Questions.{triangle_row}
use Rattle.celt_base.proofs.Fillings.{triangle_part_low, triangle_part_high}
use Rattle.range_coder.proofs.Sums.{low_place, high_place, root_below}
use Rattle.range_coder.proofs.Taking.{takes_row}
use Rattle.range_coder.proofs.answers.read_triangle.Goals as goal

pub take_part-requires-clause-below : goal.take_part-requires-clause-below
take_part-requires-clause-below c =
    let place = low_place c.value_of-value.result c.root_of_sum-answer.result c.root_of_sum-answer.ensures.low c.root_of_sum-answer.ensures.high in
    let below = place.below in
    let value = c.value_of-value.ensures.value in
    omega arith

pub returns-then-value-half-clause-takes : goal.returns-then-value-half-clause-takes
returns-then-value-half-clause-takes c =
    let most = c.args.most in
    let n = c.root_of_sum-answer.result in
    let place = low_place c.value_of-value.result n c.root_of_sum-answer.ensures.low c.root_of_sum-answer.ensures.high in
    let less = root_below c.value_of-value.result n (most / 2) c.root_of_sum-answer.ensures.low (omega arith) in
    let at = triangle_part_low most n c.requires.valid less in
    takes_row c.args.frame.now c.args.window c.take_part.result (Triangle most) (pos n) (triangle_row most) n _ _ _
    (omega arith) refl (λ i holds. (holds, tt)) (place.begins ∙ sym at.0) (place.next ∙ sym at.1) c.of-shares.ensures.total c.take_part.ensures.takes

pub overflow_sub-result : goal.overflow_sub-result
overflow_sub-result c =
    let place = high_place (c.args.most / 2) c.value_of-value.result c.root_of_sum-left.result (subst (λ n. c.value_of-value.result < n) c.of-shares.ensures.total c.value_of-value.ensures.below) c.if-value-half.false c.root_of_sum-left.ensures.low c.root_of_sum-left.ensures.high in
    let few = place.few in
    omega arith

pub take_part-requires-else-value-half-clause-above : goal.take_part-requires-else-value-half-clause-above
take_part-requires-else-value-half-clause-above c =
    let place = high_place (c.args.most / 2) c.value_of-value.result c.root_of_sum-left.result (subst (λ n. c.value_of-value.result < n) c.of-shares.ensures.total c.value_of-value.ensures.below) c.if-value-half.false c.root_of_sum-left.ensures.low c.root_of_sum-left.ensures.high in
    let above = place.above in
    let value = c.value_of-value.ensures.value in
    omega arith

pub returns-else-value-half-clause-takes : goal.returns-else-value-half-clause-takes
returns-else-value-half-clause-takes c =
    let most = c.args.most in
    let left = c.root_of_sum-left.result in
    let n = most - left in
    let place = high_place (most / 2) c.value_of-value.result left (subst (λ n. c.value_of-value.result < n) c.of-shares.ensures.total c.value_of-value.ensures.below) c.if-value-half.false c.root_of_sum-left.ensures.low c.root_of_sum-left.ensures.high in
    let few = place.few in
    let at = triangle_part_high most left n c.requires.valid few (omega arith) in
    takes_row c.args.frame.now c.args.window c.take_part-else-value-half.result (Triangle most) (pos n) (triangle_row most) n _ _ _
    (omega arith) refl (λ i holds. (holds, tt)) (place.begins ∙ sym at.0) (place.ends ∙ sym at.1) c.of-shares.ensures.total c.take_part-else-value-half.ensures.takes
