use Rattle.pulse_vectors.proofs.Cover.{eighths_cover}
use Rattle.pulse_vectors.proofs.laws.law_eighths_cover.Goals as goal

pub returns : goal.returns
returns c = eighths_cover
