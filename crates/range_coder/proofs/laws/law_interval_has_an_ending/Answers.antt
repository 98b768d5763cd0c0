use Rattle.range_coder.proofs.CodeWidths.{list_ending}
use Rattle.range_coder.proofs.laws.law_interval_has_an_ending.Goals as goal

pub returns : goal.returns
returns c = λ list are words. let ending = list_ending list are words in (ending.bits, ending.first, ending.is)
