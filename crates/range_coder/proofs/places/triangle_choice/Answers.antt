use Rattle.std.proofs.Common.{◌+◌, ◌-◌, pos, refl, arith}
use Rattle.celt_base.specs.declared.question.Question.TheVariants.{Triangle}
use Rattle.celt_base.specs.Questions.{triangle_row}
use Rattle.celt_base.proofs.Fillings.{triangle_part_low, triangle_part_high}
use Rattle.range_coder.proofs.Sums.{half_product}
use Rattle.range_coder.proofs.PlacesLemmas.{number_nearest, row_choice}
use Rattle.range_coder.proofs.places.triangle_choice.Goals as goal

pub returns-then-number-half-clause-choice : goal.returns-then-number-half-clause-choice
returns-then-number-half-clause-choice c =
    let most = c.args.most in
    let n = c.nearest_below-number.result in
    let at = triangle_part_low most n c.requires.valid (omega arith) in
    let lower = at.0 in
    let upper = at.1 in
    let half = half_product n in
    c.choice_of.ensures.choice (Triangle most) c.args.want
    (row_choice (Triangle most) c.args.want (pos n) (triangle_row most) n _ _ _
    (number_nearest (Triangle most) (most + 1) n c.args.want c.ranges.want (λ a. (λ is. is, λ is. is)) c.nearest_below-number.ensures.nearest)
    refl (omega arith) (omega arith) refl)

pub returns-else-number-half-clause-choice : goal.returns-else-number-half-clause-choice
returns-else-number-half-clause-choice c =
    let most = c.args.most in
    let n = c.nearest_below-number.result in
    let left = most - n in
    let even = c.requires.valid.0 in
    let below = c.nearest_below-number.ensures.below in
    let at = triangle_part_high most left n c.requires.valid (omega arith) (omega arith) in
    let lower = at.0 in
    let upper = at.1 in
    let half = half_product left in
    c.choice_of-else-number-half.ensures.choice (Triangle most) c.args.want
    (row_choice (Triangle most) c.args.want (pos n) (triangle_row most) n _ _ _
    (number_nearest (Triangle most) (most + 1) n c.args.want c.ranges.want (λ a. (λ is. is, λ is. is)) c.nearest_below-number.ensures.nearest)
    refl (omega arith) (omega arith) refl)
