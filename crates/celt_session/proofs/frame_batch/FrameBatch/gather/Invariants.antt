use Rattle.std.proofs.Common.{◌≡◌, ◌+◌, ◌<◌, ◌≤◌, ◌*◌, ◌++◌}
use Rattle.opus_stream.specs.Readers.{packets_of}
use Rattle.celt_session.specs.Pages.{Heard, IsGiven}
use Rattle.celt_session.specs.FrameBatches.{HasBatchRooms, frames_in, left_from, position}
use Rattle.celt_session.proofs.frame_batch.FrameBatch.gather.Given as goal

abbrev pub invariant-loop-packet : goal.invariant-loop-packet
invariant-loop-packet l = record {
  rooms : HasBatchRooms l.self;
  free : l.self.count < 16;
  few : l.frame ≤ 48;
  ahead : position l.fn.place + l.self.count ≤ 48 * l.packet + l.frame;
  fresh : 0 < l.self.count → l.frame ≡ 0;
  inside : 0 < l.self.count → l.packet ≤ packets_of l.fn.reader;
  frames : (heard : Heard) → IsGiven l.fn.reader heard → left_from l.fn.place heard.packets ≡ frames_in l.self ++ left_from (record { packet = l.packet; frame = l.frame }) heard.packets;
}
