use Rattle.bit_allocation.proofs.TotalLemmas.{balance_all}
use Rattle.bit_allocation.proofs.laws.law_balance.Goals as goal

pub returns : goal.returns
returns c = balance_all
