-- Weights as numbers of three digits to the base 4095, which have a sign. No public contract cites this.
use Rattle.std.specs.Prelude.{◌≡◌, ℕ, ◌<◌, ◌≤◌, ℤ, pos, ◌+ℤ◌, ◌*ℤ◌, unsigned_abs, List, length}
use Rattle.fixed_math.specs.Items.{item}

abbrev pub joined : ℤ → ℤ → ℤ → ℤ
joined high middle low = pos 4095 *ℤ (pos 4095 *ℤ high +ℤ middle) +ℤ low

-- those of the first n of 32 weights
pub record AreDigits (n : ℕ) (weights high middle low : List ℤ) : Type 0 where
  pub count_high : length high ≡ 32
  pub count_middle : length middle ≡ 32
  pub count_low : length low ≡ 32
  pub value : (t : ℕ) → t < n → joined (item high t) (item middle t) (item low t) ≡ item weights t
  pub small_high : (t : ℕ) → t < n → unsigned_abs (item high t) ≤ 2047
  pub small_middle : (t : ℕ) → t < n → unsigned_abs (item middle t) ≤ 2047
  pub small_low : (t : ℕ) → t < n → unsigned_abs (item low t) ≤ 2047
