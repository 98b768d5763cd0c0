-- Sums of products in four lanes, modulo 2^32: of eight products the first two are in the first lane, and so on.
use Rattle.std.specs.Prelude.{ℕ, ◌+◌, ℤ, ◌+ℤ◌, ◌*ℤ◌, List, [], ◌∷◌}
use Rattle.std.specs.Int.{int_wrap, w32}

-- two products
abbrev pub pair_at : (ℕ → ℤ) → ℕ → ℕ → ℤ
pair_at s i j = s i *ℤ s j +ℤ s (i + 1) *ℤ s (j + 1)

abbrev pub in_lanes : ℤ → ℤ → ℤ → ℤ → List ℤ
in_lanes a b c d = int_wrap w32 a ∷ int_wrap w32 b ∷ int_wrap w32 c ∷ int_wrap w32 d ∷ []

-- eight products
abbrev pub pairs : (ℕ → ℤ) → ℕ → ℕ → List ℤ
pairs s i j = in_lanes (pair_at s i j) (pair_at s (i + 2) (j + 2)) (pair_at s (i + 4) (j + 4)) (pair_at s (i + 6) (j + 6))
