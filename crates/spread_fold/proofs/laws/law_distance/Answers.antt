use Rattle.spread_fold.proofs.LawLemmas.{distance_short, distance_enough, distance_least}
use Rattle.spread_fold.proofs.laws.law_distance.Goals as goal

pub returns-clause-short : goal.returns-clause-short
returns-clause-short c = distance_short

pub returns-clause-enough : goal.returns-clause-enough
returns-clause-enough c = distance_enough

pub returns-clause-least : goal.returns-clause-least
returns-clause-least c = distance_least
