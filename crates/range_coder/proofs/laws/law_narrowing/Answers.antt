use Rattle.range_coder.proofs.FrameLaws.{lowest_part, higher_part}
use Rattle.range_coder.proofs.laws.law_narrowing.Goals as goal

pub returns-clause-lowest : goal.returns-clause-lowest
returns-clause-lowest c = lowest_part

pub returns-clause-higher : goal.returns-clause-higher
returns-clause-higher c = higher_part
