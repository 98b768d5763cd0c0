use Rattle.std.proofs.Common.{[], refl}
use Rattle.opus_stream.proofs.Reading as reading
use Rattle.opus_stream.proofs.reader.StreamReader.new.Goals as goal

pub returns-clause-stands : goal.returns-clause-stands
returns-clause-stands c =
    let room = c.in-Ok-new.ensures in
    let page = c.in-Ok-page_room.ensures in
    let pages = c.in-Ok.ensures in
    reading.fresh _ [] reading.none_small c.new-3.ensures refl room page.empty pages refl refl (λ d. refl)
