use Rattle.std.proofs.Common.{◌<◌, ◌++◌, refl, sym, ap, ◌∙◌, arith, rules}
use Rattle.celt_session.specs.FrameBatches.{frames_in, left_from}
use Rattle.celt_session.proofs.Framing.{given_packet, given_count}
use Rattle.celt_session.proofs.Gathering.{gathered, gathered_whole, left_none}
use Rattle.celt_session.proofs.frame_batch.FrameBatch.gather.Goals as goal

pub loop-packet-init : goal.loop-packet-init
loop-packet-init c = record {
  rooms = c.empty.ensures.rooms;
  free = let e = c.empty.ensures.count in omega (arith, e);
  few = c.requires.few;
  ahead = let e = c.empty.ensures.count in omega (arith, e);
  fresh = λ some. let e = c.empty.ensures.count in absurd (omega (arith, e, some));
  inside = λ some. let e = c.empty.ensures.count in absurd (omega (arith, e, some));
  frames = λ heard is. sym (ap (λ l. l ++ left_from c.args.place heard.packets) c.empty.ensures.frames);
}

pub loop-packet-preserved : goal.loop-packet-preserved
loop-packet-preserved c =
    let i = c.loop-packet.invariant in
    let t = c.take_packet-frame.ensures in
    let k = c.loop-packet.packet in
    let free : c.take_packet-frame.new.self.count < 16 = let few = t.rooms.few in let test = c.if-self-eq-MOST.false in omega (arith, few, test) in
    record {
      rooms = t.rooms;
      free = free;
      few = omega arith;
      ahead = let a = i.ahead in let b = t.count in let d = t.few in omega (arith, a, b, d);
      fresh = λ some. refl;
      inside = λ some. search rules;
      frames = λ heard is.
          let at = given_packet c.args.reader.now heard k c.packet.result.now is c.packet.ensures.is in
          gathered_whole (left_from c.args.place heard.packets) (frames_in c.take_packet-frame.new.self) heard.packets k c.take_packet-frame.result c.packet.result.now at
          (gathered (left_from c.args.place heard.packets) (frames_in c.loop-packet.self) (frames_in c.take_packet-frame.new.self) heard.packets k c.loop-packet.frame c.take_packet-frame.result c.packet.result.now at (i.frames heard is) t.frames)
          (t.whole free);
    }

pub returns-then-self-eq-MOST-clause-frames : goal.returns-then-self-eq-MOST-clause-frames
returns-then-self-eq-MOST-clause-frames c = λ heard is.
    let i = c.loop-packet.invariant in
    let k = c.loop-packet.packet in
    gathered (left_from c.args.place heard.packets) (frames_in c.loop-packet.self) (frames_in c.take_packet-frame.new.self) heard.packets k c.loop-packet.frame c.take_packet-frame.result c.packet.result.now
    (given_packet c.args.reader.now heard k c.packet.result.now is c.packet.ensures.is) (i.frames heard is) c.take_packet-frame.ensures.frames

pub returns-clause-frames : goal.returns-clause-frames
returns-clause-frames c = λ heard is.
    let i = c.loop-packet.invariant in
    let count = given_count c.args.reader.now heard c.packets.result is c.packets.ensures.count in
    let end = given_count c.args.reader.now heard c.packets-packet-end.result is c.packets-packet-end.ensures.count in
    let past = c.loop-packet-test.false in
    i.frames heard is
    ∙ ap (λ l. frames_in c.loop-packet.self ++ l) (left_none c.loop-packet.packet c.loop-packet.frame heard.packets (omega (arith, end, past)) ∙ sym (left_none c.packets.result 0 heard.packets (omega (arith, count))))

pub returns-clause-none : goal.returns-clause-none
returns-clause-none c = λ none heard is.
    let count = given_count c.args.reader.now heard c.packets.result is c.packets.ensures.count in
    left_none c.packets.result 0 heard.packets (omega (arith, count))
