use Rattle.celt_encode.proofs.NearestSteps.{is_nearest}
use Rattle.celt_encode.proofs.laws.law_nearest.Goals as goal

pub returns : goal.returns
returns c = is_nearest
