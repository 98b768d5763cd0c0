use Rattle.std.proofs.Common.{length, ◌-◌, ◌≡◌, ◌≤◌, false, None}
use Rattle.wav_edge.specs.Readers.{bytes_fed, has_started, fault_of}
use Rattle.wav_edge.proofs.tests.read_in_pieces.Given as goal

abbrev pub invariant-loop-next : goal.invariant-loop-next
invariant-loop-next l = record {
  within : l.next ≤ length l.bytes;
  fed : bytes_fed l.reader ≡ l.next;
  unread : has_started l.reader ≡ false;
  sound : fault_of l.reader ≡ None;
}

abbrev pub decreases-loop-next : goal.decreases-loop-next
decreases-loop-next l = length l.bytes - l.next
