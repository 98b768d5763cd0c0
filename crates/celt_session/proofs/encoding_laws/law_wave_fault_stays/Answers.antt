use Rattle.celt_session.proofs.EncodingLemmas.{fault_stays, full_broken, running_broken}
use Rattle.celt_session.proofs.encoding_laws.law_wave_fault_stays.Goals as goal

pub returns-clause-fault : goal.returns-clause-fault
returns-clause-fault c = fault_stays

pub returns-clause-full : goal.returns-clause-full
returns-clause-full c = full_broken

pub returns-clause-running : goal.returns-clause-running
returns-clause-running c = running_broken
