use Rattle.celt_analysis.proofs.BestLemmas.{lag_found, lag_one, lag_none}
use Rattle.celt_analysis.proofs.pitch_laws.law_best_lag.Goals as goal

pub returns-clause-found : goal.returns-clause-found
returns-clause-found c = lag_found

pub returns-clause-one : goal.returns-clause-one
returns-clause-one c = lag_one

pub returns-clause-none : goal.returns-clause-none
returns-clause-none c = lag_none
