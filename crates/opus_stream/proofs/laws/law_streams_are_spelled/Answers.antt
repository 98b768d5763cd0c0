use Rattle.opus_stream.proofs.Recovered.{recovered, only_pages}
use Rattle.opus_stream.proofs.laws.law_streams_are_spelled.Goals as goal

pub returns-clause-spelled : goal.returns-clause-spelled
returns-clause-spelled c = λ bytes small h.
    let r = recovered bytes small h in
    record { bytes_are = r.spelled; pages_are = r.pages; head = r.carried.head; tags = r.carried.tags; carries = r.carried.carries; sound = r.carried.sound }

pub returns-clause-only : goal.returns-clause-only
returns-clause-only c = only_pages
