use Rattle.pulse_search.proofs.AngleSteps.{angle-is}
use Rattle.pulse_search.proofs.angles.law_angle.Goals as goal

pub returns : goal.returns
returns c = angle-is
