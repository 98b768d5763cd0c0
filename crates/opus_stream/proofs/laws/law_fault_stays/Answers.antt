use Rattle.opus_stream.proofs.Prefixes.{stays}
use Rattle.opus_stream.proofs.laws.law_fault_stays.Goals as goal

pub returns-clause-fault : goal.returns-clause-fault
returns-clause-fault c = λ bytes more fault h lasts. (stays bytes more fault h lasts).fault_is

pub returns-clause-pages : goal.returns-clause-pages
returns-clause-pages c = λ bytes more fault h lasts. (stays bytes more fault h lasts).pages
