use Rattle.ogg_pages.specs.Spelling.{spelling, packet_page}
use Rattle.std.proofs.Common.{pos, subst}
use Rattle.celt_base.specs.Outside.{AppendsFront, WritesAll}
use Rattle.std.specs.Io.KnownBytes.{Appends}
use Rattle.celt_base.proofs.Causes.{longer_front}
use Rattle.celt_session.specs.Encoding.{head_page, tags_page}
use Rattle.celt_session.proofs.WrittenPages.{writes_then}
use Rattle.celt_session.proofs.page_writer.write_headers.Goals as goal

pub returns-in_default-clause-bytes : goal.returns-in_default-clause-bytes
returns-in_default-clause-bytes g c =
    let old = g.K.Sink.held c.args.output.now in
    let now = g.K.Sink.held c.write_one.new.output in
    longer_front old now (spelling (head_page c.args.channels)) (spelling tags_page)
    (subst (λ l. AppendsFront old now (spelling (packet_page 2 (pos 0) 0 l))) c.write_head.ensures.bytes c.in_default.ensures.bytes)

pub returns-clause-bytes : goal.returns-clause-bytes
returns-clause-bytes g c =
    let old = g.K.Sink.held c.args.output.now in
    let now = g.K.Sink.held c.write_one.new.output in
    let after = g.K.Sink.held c.write_one-2.new.output in
    writes_then old now after (spelling (head_page c.args.channels)) (spelling tags_page) c.write_one-2.result
    (subst (λ l. Appends old now (spelling (packet_page 2 (pos 0) 0 l))) c.write_head.ensures.bytes c.in-Ok.ensures.bytes)
    (subst (λ l. WritesAll now after c.write_one-2.result (spelling (packet_page 0 (pos 0) 1 l))) c.write_tags.ensures c.write_one-2.ensures.bytes)
