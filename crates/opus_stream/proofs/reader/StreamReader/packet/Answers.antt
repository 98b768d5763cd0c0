use Rattle.std.proofs.Common.{◌<◌, sym, ◌∙◌, ap, subst}
use Rattle.std.specs.Prelude.{slice_get}
use Rattle.opus_stream.specs.Acceptance.{last_packets}
use Rattle.opus_stream.specs.Readers.{Reader, StandsFor}
use Rattle.opus_stream.specs.contracts.reader.StreamReader.{the_view}
use Rattle.ogg_pages.specs.Bounds.{lacing_of}
use Rattle.opus_stream.proofs.Reading as reading
use Rattle.opus_stream.proofs.Telling.{found_sound}
use Rattle.opus_stream.proofs.reader.StreamReader.packet.Goals as goal

pub returns-clause-is : goal.returns-clause-is
returns-clause-is c = λ bytes given s.
    let t = subst (λ r. StandsFor r bytes given) (sym c.self.view_is) s in
    ap (λ l. slice_get (last_packets l) c.args.i) (reading.given_is (the_view c.self.inside) bytes given t)
    ∙ reading.packet_found (the_view c.self.inside) bytes c.given-bytes.result.now t.front c.args.i c.min.result c.packet_at.result.now c.lacing_of.result.now c.given-bytes.ensures.value
    (subst (λ (r : Reader). c.args.i < r.given.packets) (sym c.self.view_is) c.requires) t.holds c.min.ensures (c.lacing_of.ensures.value ∙ ap lacing_of c.deref.ensures.value) c.packet_at.ensures

pub returns-clause-sound : goal.returns-clause-sound
returns-clause-sound c = λ bytes given s. found_sound bytes given c.args.i c.packet_at.result.now (returns-clause-is c bytes given s)
