use Rattle.range_coder.proofs.CodeSpelled.{has_code}
use Rattle.range_coder.proofs.laws.law_code_exists.Goals as goal

pub returns : goal.returns
returns c = has_code
