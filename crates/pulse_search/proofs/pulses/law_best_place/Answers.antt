use Rattle.pulse_search.proofs.PulseSteps.{best_place-is}
use Rattle.pulse_search.proofs.pulses.law_best_place.Goals as goal

pub returns : goal.returns
returns c = best_place-is
