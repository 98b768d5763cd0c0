-- The vectors that N numbers and K pulses can form, in the order in which they are numbered
-- (RFC 6716, 4.3.4.2): N whole numbers whose sizes add up to K.
use Rattle.std.specs.Prelude.{ℕ, zero, suc, ◌-◌, ℤ, pos, neg_ℤ, unsigned_abs, List, [], ◌∷◌, ◌++◌, map, length}
use Rattle.std.specs.List.{flat_map, sum_by}

-- how many pulses a vector holds: the sum of the sizes of its numbers
unfoldable pub pulse_sum : List ℤ → ℕ
pulse_sum xs = sum_by unsigned_abs xs

-- minus m
abbrev pub minus : ℕ → ℤ
minus m = neg_ℤ (pos m)

-- f m, .., f 2, f 1
abbrev pub down_from : (ℕ → ℤ) → ℕ → List ℤ
down_from f zero = []
down_from f (suc m) = f (suc m) ∷ down_from f m

-- the values of the first number, with k pulses for it and those behind it, in their order:
-- k, .., 2, 1, 0, -k, .., -2, -1
abbrev pub coordinates : ℕ → List ℤ
coordinates k = down_from pos k ++ (pos 0 ∷ down_from minus k)

-- all vectors of n numbers with k pulses: under each value of the first number, those of the rest
unfoldable pub vectors : ℕ → ℕ → List (List ℤ)
vectors zero zero = [] ∷ []
vectors zero (suc k) = []
vectors (suc n) k =
    flat_map (λ x. map (λ rest. x ∷ rest) (vectors n (k - unsigned_abs x))) (coordinates k)

-- V(n, k), how many vectors there are
unfoldable pub count_of : ℕ → ℕ → ℕ
count_of n k = length (vectors n k)
