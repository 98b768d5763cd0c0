use Rattle.mdct_fixed.proofs.FifthLemmas.{third_is}
use Rattle.mdct_fixed.proofs.complex.one_third.Goals as goal

pub returns-clause-value : goal.returns-clause-value
returns-clause-value c = third_is
