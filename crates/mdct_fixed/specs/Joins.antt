-- Runs that are joined (RFC 6716, 4.3.7): column by column, and whole.
use Rattle.std.specs.Prelude.{◌≡◌, ◌≢◌, ◌⊎◌, ℕ, ◌+◌, ◌-◌, ◌*◌, ◌/◌, ◌<◌, ◌≤◌}
use Rattle.mdct_fixed.specs.declared.complex.Complex.{Complex}
use Rattle.mdct_fixed.specs.Transform.{turned_sum, joined}

-- Of `count` runs of `len` items the rows that begin at `start`, in the first run, and at the same place of each other run
-- are joined. All other items are as they were.
pub record IsColumnJoined (r m start len count a : ℕ) (old new : ℕ → Complex) : Type 0 where
  pub sums : (b q : ℕ) → b < count → q < r → new (start + b * len + q * m) ≡ turned_sum (λ j. old (start + b * len + j * m)) (a + 15360 / r * q) (r - 1)
  pub others : (i : ℕ) → ((b q : ℕ) → b < count → q < r → i ≢ start + b * len + q * m) → new i ≡ old i

-- of `count` runs of r * m items, from `from` on, each is r runs of m items joined; all other items are as they were
pub record AreJoined (r m from count : ℕ) (old new : ℕ → Complex) : Type 0 where
  pub each : (b k : ℕ) → b < count → k < r * m → new (from + b * (r * m) + k) ≡ joined r m (from + b * (r * m)) old k
  pub others : (i : ℕ) → (i < from) ⊎ (from + count * (r * m) ≤ i) → new i ≡ old i
