use Rattle.celt_session.specs.Decoding.{decoding_function, start_of}
use Rattle.celt_session.proofs.Folding.{fault_stays, lasts}
use Rattle.celt_session.proofs.laws.law_fault_stays.Goals as goal

pub returns-clause-fault : goal.returns-clause-fault
returns-clause-fault c = λ settings bytes more fault h. fault_stays bytes more fault h

pub returns-clause-running : goal.returns-clause-running
returns-clause-running c = λ settings bytes more fault h. (lasts decoding_function (start_of settings) bytes more fault h).text
