use Rattle.pulse_vectors.proofs.CostSteps.{costs_rise}
use Rattle.pulse_vectors.proofs.laws.law_costs_never_fall.Goals as goal

pub returns : goal.returns
returns c = costs_rise
