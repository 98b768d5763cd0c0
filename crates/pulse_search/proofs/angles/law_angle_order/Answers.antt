use Rattle.pulse_search.proofs.AngleSteps.{angle_order}
use Rattle.pulse_search.proofs.angles.law_angle_order.Goals as goal

pub returns : goal.returns
returns c = angle_order
