use Rattle.pulse_vectors.proofs.CostSteps.{index-fits}
use Rattle.pulse_vectors.proofs.laws.law_last_index_fits.Goals as goal

pub returns : goal.returns
returns c = index-fits
