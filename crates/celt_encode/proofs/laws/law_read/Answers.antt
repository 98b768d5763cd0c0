use Rattle.celt_encode.proofs.ReadSteps.{kept_read}
use Rattle.celt_encode.proofs.laws.law_read.Goals as goal

pub returns : goal.returns
returns c = kept_read
