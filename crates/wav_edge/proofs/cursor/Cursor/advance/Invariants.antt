use Rattle.std.proofs.Common.{length, ◌-◌, ◌≡◌, ◌≤◌, ◌+◌, ◌++◌, ℕ, List, drop}
use Rattle.wav_edge.specs.Cursors.{resumed, place_of}
use Rattle.wav_edge.proofs.cursor.Cursor.advance.Given as goal

abbrev pub invariant-loop-next : goal.invariant-loop-next
invariant-loop-next l = record {
  within : l.next ≤ length l.piece;
  place : place_of l.cursor ≡ place_of l.fn.self + l.next;
  resumes : (more : List ℕ) → resumed l.fn.self (l.piece ++ more) ≡ resumed l.cursor (drop l.next l.piece ++ more);
}

abbrev pub decreases-loop-next : goal.decreases-loop-next
decreases-loop-next l = length l.piece - l.next
