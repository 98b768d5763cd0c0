use Rattle.std.proofs.Common.{◌≡◌, ◌+◌, ◌*◌, ◌<◌, ap, ◌∙◌, arith, take, drop}
use Rattle.celt_session.proofs.Rows.{frame-part}
use Rattle.celt_session.proofs.PacketLemmas.{wrote_start, wrote_more, wrote_stop, wrote_all, wrote_before}
use Rattle.celt_session.proofs.packet_writer.add_frames.Goals as goal

pub loop-made-init : goal.loop-made-init
loop-made-init g c = record {
  made_few = omega arith;
  rooms = c.requires.rooms;
  few = c.requires.few;
  some = λ h. absurd (omega arith);
  sum = omega arith;
  packed = λ frame done long h is. wrote_start c.args.plan frame (g.K.Sink.held c.args.output.now) done c.args.packer.now h;
  kept = omega arith;
}

pub returns-in_default-clause-packed : goal.returns-in_default-clause-packed
returns-in_default-clause-packed g c = λ frame done long h is.
    let p = c.args.plan in
    let made = c.loop-made.made in
    let part = c.split_at-in-loop-made.ensures.front ∙ ap (take p.bytes) (c.split_at.ensures.back ∙ ap (drop (made * p.bytes)) is) ∙ frame-part frame p.bytes long done made c.args.count c.loop-made-test.true in
    wrote_stop p frame (g.K.Sink.held c.args.output.now) done made c.args.count c.args.packer.now.packets c.loop-made.packer (g.K.Sink.held c.loop-made.output) (g.K.Sink.held c.add_frame.new.output) c.loop-made-test.true
    (c.loop-made.invariant.packed frame done long h is) (c.in_default.ensures.packed frame (done + made) long (c.loop-made.invariant.packed frame done long h is).packs part)

pub loop-made-preserved : goal.loop-made-preserved
loop-made-preserved g c =
    let i = c.loop-made.invariant in
    let e = c.in-Ok.ensures in
    let p = c.args.plan in
    let made = c.loop-made.made in
    let less : made < c.args.count = c.loop-made-test.true in
    record {
      made_few = omega arith;
      rooms = e.rooms;
      few = e.few;
      some = λ h. e.some;
      sum = let a = i.sum in let b = e.sum in omega arith;
      packed = λ frame done long h is.
          let part = c.split_at-in-loop-made.ensures.front ∙ ap (take p.bytes) (c.split_at.ensures.back ∙ ap (drop (made * p.bytes)) is) ∙ frame-part frame p.bytes long done made c.args.count less in
          wrote_more p frame (g.K.Sink.held c.args.output.now) done made c.args.packer.now.packets c.loop-made.packer c.add_frame.new.packer (g.K.Sink.held c.loop-made.output) (g.K.Sink.held c.add_frame.new.output)
          (i.packed frame done long h is) (e.packed frame (done + made) long (i.packed frame done long h is).packs part);
      kept = let a = i.kept in let b = e.cause in omega arith;
    }

pub returns-clause-packed : goal.returns-clause-packed
returns-clause-packed g c = λ frame done long h is.
    let all : c.loop-made.made ≡ c.args.count = let a = c.loop-made.invariant.made_few in let b = c.loop-made-test.false in omega arith in
    wrote_all c.args.plan frame (g.K.Sink.held c.args.output.now) done c.loop-made.made c.args.count c.args.packer.now.packets c.loop-made.packer (g.K.Sink.held c.loop-made.output) all (c.loop-made.invariant.packed frame done long h is)

pub returns-in_default-clause-failed : goal.returns-in_default-clause-failed
returns-in_default-clause-failed g c = λ frame done long h is.
    let p = c.args.plan in
    let made = c.loop-made.made in
    let w = c.loop-made.invariant.packed frame done long h is in
    wrote_before p frame (g.K.Sink.held c.args.output.now) done made c.args.count c.args.packer.now.packets c.loop-made.packer (g.K.Sink.held c.loop-made.output) (g.K.Sink.held c.add_frame.new.output) c.loop-made-test.true w
    (c.in_default.ensures.failed frame (done + made) long w.packs)
