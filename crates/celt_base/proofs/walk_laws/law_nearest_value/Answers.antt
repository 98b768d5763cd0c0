use Rattle.celt_base.proofs.NearestValues.{small_nearest, bit_nearest}
use Rattle.celt_base.proofs.walk_laws.law_nearest_value.Goals as goal

pub returns : goal.returns
returns c = record { small = λ wanted. small_nearest wanted; bit = λ p wanted. bit_nearest p wanted }
