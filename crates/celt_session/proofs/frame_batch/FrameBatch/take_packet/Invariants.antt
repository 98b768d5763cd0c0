use Rattle.std.proofs.Common.{◌≡◌, ◌+◌, ◌-◌, ◌≤◌, ◌++◌, drop}
use Rattle.celt_session.specs.Frames.{packet_frames}
use Rattle.celt_session.specs.FrameBatches.{HasBatchRooms, frames_in}
use Rattle.celt_session.proofs.frame_batch.FrameBatch.take_packet.Given as goal

abbrev pub invariant-loop-next : goal.invariant-loop-next
invariant-loop-next l = record {
  rooms : HasBatchRooms l.self;
  frames : frames_in l.self ++ drop l.next (packet_frames l.fn.packet) ≡ frames_in l.fn.self ++ drop l.fn.from (packet_frames l.fn.packet);
  count : l.next + l.fn.self.count ≡ l.fn.from + l.self.count;
  few : l.next ≤ 48;
}

abbrev pub decreases-loop-next : goal.decreases-loop-next
decreases-loop-next l = 48 - l.next
