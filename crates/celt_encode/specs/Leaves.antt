-- What is wanted of the pulses of a part (RFC 6716, section 5.3.8): it is spread, the vector of pulses is searched for, and its
-- place in the order of all vectors is its number.
use Rattle.std.specs.Prelude.{ℕ, ◌%◌, Bool, true, ◌&&◌, if◌then◌else◌, nat_eq, nat_le, ℤ, pos, List, length}
use Rattle.pulse_search.specs.Pulses.{vector_of}
use Rattle.pulse_vectors.specs.Costs.{pulses_at, last_of}
use Rattle.pulse_vectors.specs.Rows.{rank_of}
use Rattle.spread_fold.specs.Spreading.{spread_by}

-- A part of n coefficients may have k pulses.
unfoldable pub may_have : ℕ → ℕ → Bool
may_have n k = nat_le 2 n && (nat_le n 176 && (nat_le 1 k && nat_le k (pulses_at (last_of n))))

-- A part of n coefficients has so many equal blocks.
unfoldable pub are_blocks : ℕ → ℕ → Bool
are_blocks n blocks = nat_le 1 blocks && (nat_le blocks 16 && nat_eq (n % blocks) 0)

-- the vector of k pulses for a part, spread in so many blocks
unfoldable pub pulses_for : ℕ → ℕ → ℕ → List ℤ → List ℤ
pulses_for blocks k spread part = vector_of (spread_by blocks k spread true part) k

-- No frame has another part, other pulses or other blocks.
unfoldable pub pulses_wanted : ℕ → ℕ → ℕ → List ℤ → ℤ
pulses_wanted blocks k spread part =
    if may_have (length part) k && are_blocks (length part) blocks then pos (rank_of (pulses_for blocks k spread part)) else pos 0
