use Rattle.std.proofs.Common.{w64, of_z, sym, ap}
use Rattle.celt_base.specs.WalkCalls.{small_value}
use Rattle.celt_base.proofs.WalkValues.{is_one_by, is_two_by, other_small}
use Rattle.celt_base.proofs.walk.value_of_small.Goals as goal

pub returns-then-answer-eq1 : goal.returns-then-answer-eq1
unfolding small_value
returns-then-answer-eq1 c = ap small_value (sym (is_one_by c.args.answer c.ranges.answer c.if-answer-eq1.true))

pub returns-then-answer-eq2 : goal.returns-then-answer-eq2
unfolding small_value
returns-then-answer-eq2 c = ap small_value (sym (is_two_by c.args.answer c.ranges.answer c.if-answer-eq2.true))

pub returns-else-answer-eq2 : goal.returns-else-answer-eq2
returns-else-answer-eq2 c =
    other_small c.args.answer (λ e. c.if-answer-eq1.false (ap (of_z w64) e)) (λ e. c.if-answer-eq2.false (ap (of_z w64) e))
