-- The spectrum of a frame (RFC 6716, 4.3.7): one MDCT, or in a transient one of each block of 120 samples.
use Rattle.std.specs.Prelude.{◌≡◌, ◌≢◌, ℕ, ◌+◌, ◌*◌, ◌/◌, ◌%◌, ◌<◌, Bool, if◌then◌else◌, ℤ, List, length}
use Rattle.fixed_math.specs.Items.{item, listed}
use Rattle.mdct_fixed.specs.Mdct.{forward_of}

-- the values of a short block, with the 120 before them
abbrev pub block : List ℤ → ℕ → List ℤ
block vs b = listed 240 (λ t. item vs (120 * b + t))

-- of m blocks the items of block b stand at places j*m + b
unfoldable pub spectrum : ℕ → Bool → List ℤ → List ℤ
spectrum m transient vs =
    if transient
    then listed (120 * m) (λ p. item (forward_of 120 (block vs (p % m))) (p / m))
    else forward_of (120 * m) vs

-- the first n items of block b of m stand at the block's places, and all other items are as they were
pub record IsSpread (xs : List ℤ) (m b n : ℕ) (old new : List ℤ) : Type 0 where
  pub count : length new ≡ length old
  pub here : (j : ℕ) → j < n → item new (j * m + b) ≡ item xs j
  pub others : (p : ℕ) → ((j : ℕ) → j < n → p ≢ j * m + b) → item new p ≡ item old p
