use Rattle.std.proofs.Common.{w64, of_z, sym, ap}
use Rattle.celt_base.specs.WalkCalls.{bit_value}
use Rattle.celt_base.proofs.WalkValues.{is_one_by, other_bit}
use Rattle.celt_base.proofs.walk.value_of_bit.Goals as goal

pub returns-then-answer-eq1 : goal.returns-then-answer-eq1
unfolding bit_value
returns-then-answer-eq1 c = ap bit_value (sym (is_one_by c.args.answer c.ranges.answer c.if-answer-eq1.true))

pub returns-else-answer-eq1 : goal.returns-else-answer-eq1
returns-else-answer-eq1 c = other_bit c.args.answer (λ e. c.if-answer-eq1.false (ap (of_z w64) e))
