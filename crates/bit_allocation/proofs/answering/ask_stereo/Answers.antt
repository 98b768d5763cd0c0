use Rattle.bit_allocation.proofs.StereoSteps.{stereo_walked}
use Rattle.bit_allocation.proofs.answering.ask_stereo.Goals as goal

pub returns-clause-walked : goal.returns-clause-walked
returns-clause-walked g c =
    stereo_walked c.args.plan.now c.args.coded c.ask_intensity-intensity.result c.ask_dual-dual.result c.ask_intensity-intensity.ensures.walked c.ask_dual-dual.ensures.walked
