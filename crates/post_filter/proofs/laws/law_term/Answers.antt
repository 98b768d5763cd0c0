use Rattle.post_filter.proofs.EchoLemmas.{term_same, term_within}
use Rattle.post_filter.proofs.laws.law_term.Goals as goal

pub returns-clause-back : goal.returns-clause-back
returns-clause-back c = term_same

pub returns-clause-size : goal.returns-clause-size
returns-clause-size c = term_within
