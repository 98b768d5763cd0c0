use Rattle.bit_allocation.proofs.LawLemmas.{total_law, valid_law, blank_law}
use Rattle.bit_allocation.proofs.laws.law_total.Goals as goal

pub returns-clause-given : goal.returns-clause-given
returns-clause-given c = total_law

pub returns-clause-valid : goal.returns-clause-valid
returns-clause-valid c = valid_law

pub returns-clause-blank : goal.returns-clause-blank
returns-clause-blank c = blank_law
