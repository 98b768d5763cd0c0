use Rattle.pulse_search.proofs.FrontSteps.{vector-sum}
use Rattle.pulse_search.proofs.pulses.law_pulses.Goals as goal

pub returns : goal.returns
returns c = vector-sum
