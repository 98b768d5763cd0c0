use Rattle.ogg_pages.proofs.Judged.{sound_of}
use Rattle.ogg_pages.proofs.Later.{whole_stays, fault_stays, page_of-take-append}
use Rattle.ogg_pages.proofs.laws.law_later_bytes.Goals as goal

pub returns-clause-page : goal.returns-clause-page
returns-clause-page c = whole_stays

pub returns-clause-fields : goal.returns-clause-fields
returns-clause-fields c = λ bytes more n h. page_of-take-append bytes more n (sound_of bytes n h).inside

pub returns-clause-fault : goal.returns-clause-fault
returns-clause-fault c = fault_stays
