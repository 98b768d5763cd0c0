use Rattle.rate_change.proofs.SteadyLemmas.{steady}
use Rattle.rate_change.proofs.laws.law_steady.Goals as goal

pub returns : goal.returns
returns c = steady
