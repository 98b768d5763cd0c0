use Rattle.std.proofs.Common.{◌≡◌, [], drop, refl, sym, ap, subst, ◌∙◌, arith, rules, Some}
use Rattle.std.specs.Prelude.{slice_get}
use Rattle.std.proofs.lemmas.List.{drop_all}
use Rattle.celt_session.specs.Frames.{framed, packet_frames}
use Rattle.celt_session.specs.FrameBatches.{frames_in}
use Rattle.celt_session.proofs.Framing.{frames-none, frames-count, frame_at}
use Rattle.celt_session.proofs.Gathering.{taken_more}
use Rattle.celt_session.proofs.frame_batch.FrameBatch.take_packet.Goals as goal

pub returns-in_default-clause-whole : goal.returns-in_default-clause-whole
returns-in_default-clause-whole c = λ less. ap (drop c.args.from) (frames-none c.args.packet.now c.in_default.field-0 c.in_default.ensures) ∙ drop_all c.args.from [] (omega arith)

pub loop-next-init : goal.loop-next-init
loop-next-init c = record { rooms = c.requires.rooms; frames = refl; count = omega arith; few = c.requires.from }

pub loop-next-preserved : goal.loop-next-preserved
loop-next-preserved c =
    let i = c.loop-next.invariant in
    let frames = packet_frames c.args.packet.now in
    let bytes = c.frame.result.now in
    let at : slice_get frames c.loop-next.next ≡ Some (framed c.kind_of-kind.result bytes) =
    subst (λ k. slice_get frames c.loop-next.next ≡ Some (framed k bytes)) (sym c.kind_of-kind.ensures)
    (frame_at c.args.packet.now c.in-Ok.frames c.loop-next.next bytes c.in-Ok.ensures c.frame.ensures.item) in
    record {
      rooms = c.push.ensures.rooms;
      frames = taken_more (frames_in c.args.self.now) (frames_in c.loop-next.self) (frames_in c.push.new.self) frames c.args.from c.loop-next.next (framed c.kind_of-kind.result bytes) at c.push.ensures.frames i.frames;
      count = search rules;
      few = search rules;
    }

pub returns-clause-whole : goal.returns-clause-whole
returns-clause-whole c = λ less.
    let many = frames-count c.args.packet.now c.in-Ok.frames c.in-Ok.ensures in
    let count = c.len.ensures.value in
    let past = c.loop-next-test.false in
    drop_all c.loop-next.next (packet_frames c.args.packet.now) (omega arith)
