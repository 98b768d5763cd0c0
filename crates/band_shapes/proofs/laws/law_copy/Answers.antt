use Rattle.band_shapes.proofs.CopyLemmas.{copy_sign}
use Rattle.band_shapes.proofs.laws.law_copy.Goals as goal

pub returns : goal.returns
returns c = copy_sign
