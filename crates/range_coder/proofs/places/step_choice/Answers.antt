use Rattle.std.proofs.Common.{◌+◌, pos, refl, arith}
use Rattle.celt_base.specs.declared.question.Question.TheVariants.{Step}
use Rattle.celt_base.specs.Questions.{step_row}
use Rattle.celt_base.proofs.Fillings.{step_low, step_high}
use Rattle.range_coder.proofs.PlacesLemmas.{number_nearest, row_choice}
use Rattle.range_coder.proofs.places.step_choice.Goals as goal

pub returns-then-number-half-clause-choice : goal.returns-then-number-half-clause-choice
returns-then-number-half-clause-choice c =
    let n = c.nearest_below-number.result in
    let at = step_low c.args.most n c.requires.valid (omega arith) in
    let lower = at.0 in
    let upper = at.1 in
    c.choice_of.ensures.choice (Step c.args.most) c.args.want
    (row_choice (Step c.args.most) c.args.want (pos n) (step_row c.args.most) n _ _ _
    (number_nearest (Step c.args.most) (c.args.most + 1) n c.args.want c.ranges.want (λ a. (λ is. is, λ is. is)) c.nearest_below-number.ensures.nearest) refl (omega arith) (omega arith) refl)

pub returns-else-number-half-clause-choice : goal.returns-else-number-half-clause-choice
returns-else-number-half-clause-choice c =
    let n = c.nearest_below-number.result in
    let below = c.nearest_below-number.ensures.below in
    let at = step_high c.args.most n c.requires.valid (omega arith) (omega arith) in
    let lower = at.0 in
    let upper = at.1 in
    c.choice_of-else-number-half.ensures.choice (Step c.args.most) c.args.want
    (row_choice (Step c.args.most) c.args.want (pos n) (step_row c.args.most) n _ _ _
    (number_nearest (Step c.args.most) (c.args.most + 1) n c.args.want c.ranges.want (λ a. (λ is. is, λ is. is)) c.nearest_below-number.ensures.nearest) refl (omega arith) (omega arith) refl)
