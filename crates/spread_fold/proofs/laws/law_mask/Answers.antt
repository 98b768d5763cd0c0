use Rattle.spread_fold.proofs.LawLemmas.{mask_bit}
use Rattle.spread_fold.proofs.laws.law_mask.Goals as goal

pub returns : goal.returns
returns c = mask_bit
