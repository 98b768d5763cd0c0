use Rattle.std.proofs.Common.{◌≡◌, ℕ, ◌+◌, ◌*◌, ◌≤◌}
use Rattle.std.specs.Prelude.{length, slice_index, nat_lt, if◌then◌else◌}
use Rattle.bit_allocation.specs.Counts.{count_of, counts_of, sum_below, is_reached}
use Rattle.bit_allocation.proofs.counting.count.Given as goal

-- the bands from l.band on are done
abbrev pub invariant-loop-band : goal.invariant-loop-band
invariant-loop-band l = record {
  inside : l.band ≤ l.bands.request.kind.end;
  reached : l.reached ≡ is_reached l.bands.request.kind (slice_index l.amounts) l.band;
  sum : l.sum + sum_below (count_of l.bands.request.kind (slice_index l.amounts)) l.band ≡ counts_of l.bands.request.kind (slice_index l.amounts);
  most : l.sum + 26752 * l.band ≤ 26752 * l.bands.request.kind.end;
  whole : length l.bits ≡ 21;
  done : (k : ℕ) → l.band ≤ k → slice_index l.bits k ≡ (if nat_lt k l.bands.request.kind.end then count_of l.bands.request.kind (slice_index l.amounts) k else 0);
}

abbrev pub decreases-loop-band : goal.decreases-loop-band
decreases-loop-band l = l.band
