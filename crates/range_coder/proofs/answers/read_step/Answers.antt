use Rattle.std.proofs.Common.{◌+◌, ◌-◌, ◌*◌, ◌/◌, pos, refl, arith}
use Rattle.celt_base.specs.declared.question.Question.TheVariants.{Step}
use Rattle.celt_base.specs.Questions.{step_row}
use Rattle.celt_base.proofs.Fillings.{step_low, step_high}
use Rattle.range_coder.proofs.Taking.{takes_row}
use Rattle.range_coder.proofs.answers.read_step.Goals as goal

pub returns-then-value-lower-clause-takes : goal.returns-then-value-lower-clause-takes
returns-then-value-lower-clause-takes c =
    let n = c.value_of-value.result / 3 in
    let at = step_low c.args.most n c.requires.valid (omega arith) in
    let lower = at.0 in
    let upper = at.1 in
    takes_row c.args.frame.now c.args.window c.take_part.result (Step c.args.most) (pos n) (step_row c.args.most) n _ _ _
    (omega arith) refl (λ i holds. (holds, tt)) (omega arith) (omega arith) (omega arith) c.take_part.ensures.takes

pub returns-else-value-lower-clause-takes : goal.returns-else-value-lower-clause-takes
returns-else-value-lower-clause-takes c =
    let value = c.value_of-value.result in
    let n = value - 3 * (c.args.most / 2 + 1) + c.args.most / 2 + 1 in
    let even = c.requires.valid.0 in
    let below = c.value_of-value.ensures.below in
    let at = step_high c.args.most n c.requires.valid (omega arith) (omega arith) in
    let lower = at.0 in
    let upper = at.1 in
    takes_row c.args.frame.now c.args.window c.take_part-else-value-lower.result (Step c.args.most) (pos n) (step_row c.args.most) n _ _ _
    (omega arith) refl (λ i holds. (holds, tt)) (omega arith) (omega arith) (omega arith) c.take_part-else-value-lower.ensures.takes
