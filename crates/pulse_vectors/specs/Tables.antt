-- The table of the sums S(m, t) = V(m, 0) + .. + V(m, t), ragged, with a 0 before each row, and the table of the costs;
-- where the rows stand in them.
use Rattle.std.specs.Prelude.{ℕ, suc, ◌+◌, ◌<◌, slice_index}
use Rattle.pulse_vectors.specs.declared.constants.TheConstants.{STARTS, SUMS, COST_STARTS, COSTS}

-- where the sums of m numbers begin: 0, S(m, 0), S(m, 1), ..
unfoldable pub start_of : ℕ → ℕ
start_of m = slice_index STARTS m

unfoldable pub sum_at : ℕ → ℕ
sum_at place = slice_index SUMS place

-- where the costs of vectors of m + 1 numbers begin, index 0 first
unfoldable pub cost_start_of : ℕ → ℕ
cost_start_of m = slice_index COST_STARTS m

unfoldable pub cost_entry : ℕ → ℕ
cost_entry place = slice_index COSTS place

-- the table has a place for S(m, t)
pub record HasPlace (m t : ℕ) : Type 0 where
  pub numbers : m < 176
  pub within : start_of m + suc t < start_of (suc m)
