use Rattle.celt_session.proofs.LockstepLemmas.{in_step, are_in_step}
use Rattle.celt_session.proofs.lockstep_laws.law_in_step.Goals as goal

pub returns-clause-frames : goal.returns-clause-frames
returns-clause-frames c = in_step

pub returns-clause-files : goal.returns-clause-files
returns-clause-files c = are_in_step
