use Rattle.range_coder.proofs.FrameLaws.{head_none, head_bit}
use Rattle.range_coder.proofs.laws.law_head.Goals as goal

pub returns-clause-none : goal.returns-clause-none
returns-clause-none c = head_none

pub returns-clause-more : goal.returns-clause-more
returns-clause-more c = head_bit
