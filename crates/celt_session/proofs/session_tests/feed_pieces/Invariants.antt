use Rattle.std.proofs.Common.{◌≡◌, ◌+◌, ◌≤◌, ◌^◌, length, false}
use Rattle.celt_session.specs.Decoders.{is_ended, taken_by}
use Rattle.celt_session.proofs.session_tests.feed_pieces.Given as goal

abbrev pub invariant-loop-rest : goal.invariant-loop-rest
invariant-loop-rest g l = record { going : is_ended l.session ≡ false; limit : taken_by l.session + length l.rest ≤ 2 ^ 40 }

abbrev pub decreases-loop-rest : goal.decreases-loop-rest
decreases-loop-rest g l = length l.rest
