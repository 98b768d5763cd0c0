use Rattle.mdct_fixed.proofs.FifthLemmas.{fifth_is}
use Rattle.mdct_fixed.proofs.complex.one_fifth.Goals as goal

pub returns-clause-value : goal.returns-clause-value
returns-clause-value c = fifth_is
