use Rattle.celt_session.specs.EncoderPairs.{pair_work}
use Rattle.celt_session.proofs.GivenLaws.{given_joins, running_joins, full_joins}
use Rattle.celt_session.proofs.given_laws.law_given_goes_on.Goals as goal

pub returns-clause-more : goal.returns-clause-more
returns-clause-more c = λ settings bytes more ok. given_joins pair_work settings ok bytes more

pub returns-clause-running : goal.returns-clause-running
returns-clause-running c = λ settings bytes ok. running_joins pair_work settings ok bytes

pub returns-clause-full : goal.returns-clause-full
returns-clause-full c = λ settings bytes ok. full_joins pair_work settings ok bytes
