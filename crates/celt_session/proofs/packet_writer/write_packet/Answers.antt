use Rattle.std.proofs.Common.{◌*◌, length, take, ap, sym, ◌∙◌, subst, arith}
use Rattle.std.proofs.lemmas.Nat.{mul-le}
use Rattle.celt_base.specs.Outside.{WritesAll}
use Rattle.opus_packets.specs.Cut.{equal_parts}
use Rattle.ogg_pages.specs.Spelling.{spelling}
use Rattle.celt_session.specs.Encoding.{audio_page}
use Rattle.celt_session.specs.Frames.{duration}
use Rattle.celt_session.specs.AudioPages.{packet_of}
use Rattle.celt_session.proofs.Rows.{frames-parts}
use Rattle.celt_session.proofs.PacketLemmas.{duration_is, lent_whole}
use Rattle.celt_session.proofs.packet_writer.write_packet.Goals as goal

pub pack_frames-len-requires-clause-short : goal.pack_frames-len-requires-clause-short
pack_frames-len-requires-clause-short g c =
    let p = c.args.plan in
    let each = duration_is p.toc p.celt ∙ sym (p.samples_is ∙ ap duration p.kind_is) in
    let less = mul-le c.args.packer.now.count p.samples p.group p.samples c.requires.few (omega arith) in
    let same = ap (λ n. c.args.packer.now.count * n) each in
    let short = p.short in
    omega arith

pub returns-clause-page : goal.returns-clause-page
returns-clause-page g c = λ frame done long h.
    let p = c.args.plan in
    let old = c.args.packer.now in
    let packet =
    c.split_at-2.ensures.front ∙ ap (take c.pack_frames-len.result) (c.deref-2.ensures.value ∙ lent_whole old.packet c.pack_frames-len.new.out (c.pack_frames-len.ensures.room ∙ ap length c.deref_mut.ensures.value)) ∙ c.pack_frames-len.ensures.packet
    ∙ ap (λ l. packet_of p.toc (equal_parts old.count l)) (c.split_at.ensures.front ∙ ap (take (old.count * p.bytes)) c.deref.ensures.value ∙ h.frames)
    ∙ ap (packet_of p.toc) (frames-parts frame p.bytes long (old.packets * p.group) old.count c.requires.some) in
    subst (λ l. WritesAll (g.K.Sink.held c.args.output.now) (g.K.Sink.held c.write_audio.new.output) c.write_audio.result (spelling (audio_page l c.args.flags c.args.granule old.packets))) packet c.write_audio.ensures.bytes
