use Rattle.std.proofs.Common.{◌≡◌, ℕ, ◌<◌, length}
use Rattle.std.specs.Prelude.{pos, slice_index_or}
use Rattle.bit_allocation.specs.Requests.{IsBoost}
use Rattle.bit_allocation.proofs.tests.boosts_of.Given as goal

abbrev pub invariant-loop-band : goal.invariant-loop-band
invariant-loop-band l = record {
  whole : length l.boosts ≡ 21;
  done : (k : ℕ) → k < l.band → IsBoost l.kind k (slice_index_or l.boosts k (pos 0));
}
