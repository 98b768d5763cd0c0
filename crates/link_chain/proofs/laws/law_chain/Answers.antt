use Rattle.std.proofs.Common.{sym, ◌∙◌}
use Rattle.link_chain.proofs.laws.law_chain.Goals as goal

pub returns-clause-place : goal.returns-clause-place
returns-clause-place c = λ pages one other a b. a.place_is ∙ sym b.place_is

pub returns-clause-starts : goal.returns-clause-starts
returns-clause-starts c = λ pages one other a b. a.starts_is ∙ sym b.starts_is
