use Rattle.mdct_fixed.proofs.FifthLemmas.{two_fifths_are}
use Rattle.mdct_fixed.proofs.complex.two_fifths.Goals as goal

pub returns-clause-value : goal.returns-clause-value
returns-clause-value c = two_fifths_are
