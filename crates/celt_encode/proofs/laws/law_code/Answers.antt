use Rattle.celt_encode.proofs.CodeSteps.{code_is}
use Rattle.celt_encode.proofs.laws.law_code.Goals as goal

pub returns : goal.returns
returns c = code_is
