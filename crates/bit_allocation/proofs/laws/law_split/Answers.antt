use Rattle.bit_allocation.proofs.TotalLemmas.{split_is}
use Rattle.bit_allocation.proofs.laws.law_split.Goals as goal

pub returns : goal.returns
returns c = λ kind t band bits before inside. (split_is kind t band bits before inside).all
