use Rattle.band_plan.proofs.FrameSteps.{change_long, change_short}
use Rattle.band_plan.proofs.laws.law_changes.Goals as goal

pub returns-clause-long : goal.returns-clause-long
returns-clause-long c = λ lm change low is. (change_long lm change low is).0

pub returns-clause-long_most : goal.returns-clause-long_most
returns-clause-long_most c = λ lm change low is. (change_long lm change low is).1

pub returns-clause-short : goal.returns-clause-short
returns-clause-short c = λ lm change low is. (change_short lm change low is).0

pub returns-clause-short_most : goal.returns-clause-short_most
returns-clause-short_most c = λ lm change low is. (change_short lm change low is).1
