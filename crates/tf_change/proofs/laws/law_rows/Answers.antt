use Rattle.tf_change.proofs.OrderLemmas.{doubled, first_row}
use Rattle.tf_change.proofs.laws.law_rows.Goals as goal

pub returns-clause-first : goal.returns-clause-first
returns-clause-first c = first_row

pub returns-clause-even : goal.returns-clause-even
returns-clause-even c = λ s m r b h. (doubled s m r b h).0

pub returns-clause-odd : goal.returns-clause-odd
returns-clause-odd c = λ s m r b h. (doubled s m r b h).1
