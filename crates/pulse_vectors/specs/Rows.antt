-- A row of the counts: V(n, 0), V(n, 1), .., for one n, and its sums (RFC 6716, 4.3.4.2).
use Rattle.std.specs.Prelude.{◌≡◌, ℕ, zero, suc, ◌+◌, ◌<◌, ℤ, pos, negsuc, ◌∷◌, unsigned_abs, slice_get, Some, List, [], length, slice_index}
use Rattle.pulse_vectors.specs.Vectors.{count_of, vectors, pulse_sum}

-- V(n, 0) + .. + V(n, t - 1): how many vectors of n numbers hold fewer than t pulses
unfoldable pub count_below : ℕ → ℕ → ℕ
count_below n zero = 0
count_below n (suc t) = count_below n t + count_of n t

-- the list is V(n, 0), V(n, 1), ..
pub record IsRow (n : ℕ) (counts : List ℕ) : Type 0 where
  pub each : (j : ℕ) → j < length counts → slice_index counts j ≡ count_of n j

-- which counts a Row holds: those of so many numbers, from 0 to so many pulses
pub record RowShape : Type 0 where
  pub numbers : ℕ
  pub pulses : ℕ

-- how many vectors stand before those that begin with x, where the n numbers behind x hold t pulses:
-- behind an x that is not negative, those with fewer pulses behind the first number; behind a
-- negative x also all those that begin with no negative number
unfoldable pub stand_before : ℕ → ℕ → ℤ → ℕ
stand_before n t (pos c) = count_below n t
stand_before n t (negsuc c) = count_below n (suc (suc c + t)) + count_below n t

-- the place of a vector in the order of all vectors of its length and its number of pulses: those that
-- stand before the ones that begin like it, and the place of the rest
unfoldable pub rank_of : List ℤ → ℕ
rank_of [] = 0
rank_of (x ∷ rest) = stand_before (length rest) (pulse_sum rest) x + rank_of rest

-- the vector of n + 1 numbers and k pulses at this place begins with x, and goes on with the vector
-- of n numbers and t pulses at place r
pub record Leads (n k place : ℕ) (x : ℤ) (t r : ℕ) : Type 0 where
  pub pulses : unsigned_abs x + t ≡ k
  pub within : r < count_of n t
  pub joined : (rest : List ℤ) → slice_get (vectors n t) r ≡ Some rest
      → slice_get (vectors (suc n) k) place ≡ Some (x ∷ rest)
