use Rattle.std.proofs.Common.{subst, sym}
use Rattle.celt_base.specs.Questions.{IsEven}
use Rattle.band_plan.proofs.AngleSteps.{steps_even, steps-is}
use Rattle.band_plan.proofs.angles.steps_at.Goals as goal

pub returns-clause-value : goal.returns-clause-value
returns-clause-value c = steps-is c.args.eighths

pub returns-clause-even : goal.returns-clause-even
returns-clause-even c = subst IsEven (sym (returns-clause-value c)) (steps_even c.args.eighths c.requires.0 c.requires.1)
