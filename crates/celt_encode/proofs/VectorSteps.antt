-- Sums of squares of a band's vector, and their roots.
use Rattle.std.proofs.Common.{Bool, true, false, ◌≡◌, ℕ, ℤ, pos, ◌-ℤ◌, ◌*ℤ◌, refl, sym, ◌∙◌, ap, List, length, ◌+◌, ◌^◌, ◌<◌, ◌≤◌, arith, get_or, unsigned_abs, All, take, sum_by}
use Rattle.std.specs.Int.{w64, cast_unsigned as of_z, cast_signed as to_z}
use Rattle.std.specs.Prelude.{int_lt, FitsSigned}
use Rattle.std.proofs.lemmas.Int.{ints, to_z-of_z, fits_signed_from_abs}
use Rattle.fixed_math.proofs.RoundingLemmas.{product_within}
use Rattle.std.proofs.lemmas.List.Elements.{All-weaker}
use Rattle.std.proofs.lemmas.List.Sums.{sum_by_more_le, sum_by-take-le}
use Rattle.celt_encode.specs.Vectors.{part_of, steps_wanted, split_wanted, beside, stereo_wanted}
use Rattle.celt_encode.specs.Outsets.{Outset}
use Rattle.fixed_math.specs.Unit.{square, energy}
use Rattle.fixed_math.specs.Root.{root}
use Rattle.fixed_math.proofs.UnitLemmas.{energy_within}
use Rattle.fixed_math.proofs.RootLemmas.{root-is, root_small}

pub energy_small : (xs : List ℤ) → length xs ≤ 176 → All (λ v. unsigned_abs v < 2 ^ 20) xs → energy xs < 2 ^ 48
energy_small xs h a =
    let weak : All (λ x. unsigned_abs x ≤ 2 ^ 20) xs = All-weaker (λ x. unsigned_abs x < 2 ^ 20) (λ x. unsigned_abs x ≤ 2 ^ 20) (λ x p. omega arith) xs a in
    omega (arith, energy_within xs (2 ^ 20) h weak)

pub more_small : (xs : List ℤ) (i : ℕ) → length xs ≤ 176 → All (λ v. unsigned_abs v < 2 ^ 20) xs → i < length xs
    → sum_by square (take i xs) + square (get_or xs i (pos 0)) < 2 ^ 48
more_small xs i h a below = omega (arith, energy_small xs h a, sum_by_more_le square xs i (pos 0) below)

pub front_small : (xs : List ℤ) (i : ℕ) → length xs ≤ 176 → All (λ v. unsigned_abs v < 2 ^ 20) xs
    → sum_by square (take i xs) < 2 ^ 48
front_small xs i h a = omega (arith, energy_small xs h a, sum_by-take-le square xs i)

pub root_within : (v : ℕ) → v < 2 ^ 48 → root v < 2 ^ 48
root_within v h =
    let is = root-is v (omega arith) in
    let low = is.low in
    let e : root v < 2 ^ 24 = root_small v (root v) (2 ^ 24) (omega arith) low in
    omega (arith, e)

pub split_is : (xs a b : List ℤ) (offset n qn m s : ℕ)
    → a ≡ part_of xs offset n
    → b ≡ part_of xs (offset + n) n
    → m ≡ root (energy a)
    → s ≡ root (energy b)
    → steps_wanted qn m s ≡ split_wanted xs offset n qn
unfolding split_wanted
split_is xs a b offset n qn m s ea eb em es =
    ap (λ m. steps_wanted qn m s) (em ∙ ap (λ x. root (energy x)) ea)
    ∙ ap (steps_wanted qn (root (energy (part_of xs offset n)))) (es ∙ ap (λ x. root (energy x)) eb)

pub stereo_is : (f : Outset) (band qn m s x y : ℕ)
    → x ≡ energy (beside f band false)
    → y ≡ energy (beside f band true)
    → m ≡ root x
    → s ≡ root y
    → steps_wanted qn m s ≡ stereo_wanted f band qn
unfolding stereo_wanted
stereo_is f band qn m s x y ex ey em es =
    ap (λ m. steps_wanted qn m s) (em ∙ ap root ex)
    ∙ ap (steps_wanted qn (root (energy (beside f band false)))) (es ∙ ap root ey)

less_is : (p q : ℤ) → int_lt p q ≡ int_lt (p -ℤ q) (pos 0)
less_is p q = by (int_lt p q) refl
  where
    by : (t : Bool) → int_lt p q ≡ t → int_lt p q ≡ int_lt (p -ℤ q) (pos 0)
    by true e = e ∙ sym (let h : int_lt (p -ℤ q) (pos 0) ≡ true = grind (arith, ints, e) in h)
    by false e = e ∙ sym (let h : int_lt (p -ℤ q) (pos 0) ≡ false = grind (arith, ints, e) in h)

-- a product of two numbers of 15 bits is one of 64 bits
wrapped_product : (x y : ℤ) → unsigned_abs x ≤ 2 ^ 15 → unsigned_abs y ≤ 2 ^ 15
    → to_z w64 (of_z w64 (to_z w64 (of_z w64 x) *ℤ to_z w64 (of_z w64 y))) ≡ x *ℤ y
wrapped_product x y lx ly =
    let fx : FitsSigned w64 x = fits_signed_from_abs w64 x (omega (arith, lx)) in
    let fy : FitsSigned w64 y = fits_signed_from_abs w64 y (omega (arith, ly)) in
    let s = product_within x y (2 ^ 15) (2 ^ 15) lx ly in
    let fs : FitsSigned w64 (x *ℤ y) = fits_signed_from_abs w64 (x *ℤ y) (omega (arith, s)) in
    ap (λ a. to_z w64 (of_z w64 (a *ℤ to_z w64 (of_z w64 y)))) (to_z-of_z w64 x fx)
    ∙ ap (λ b. to_z w64 (of_z w64 (x *ℤ b))) (to_z-of_z w64 y fy)
    ∙ to_z-of_z w64 (x *ℤ y) fs

pub products_test : (a b c d : ℤ) → unsigned_abs a ≤ 2 ^ 15 → unsigned_abs b ≤ 2 ^ 15 → unsigned_abs c ≤ 2 ^ 15 → unsigned_abs d ≤ 2 ^ 15
    → int_lt (to_z w64 (of_z w64 (to_z w64 (of_z w64 a) *ℤ to_z w64 (of_z w64 b)))) (to_z w64 (of_z w64 (to_z w64 (of_z w64 c) *ℤ to_z w64 (of_z w64 d))))
    ≡ int_lt (a *ℤ b -ℤ c *ℤ d) (pos 0)
products_test a b c d la lb lc ld =
    ap (λ p. int_lt p (to_z w64 (of_z w64 (to_z w64 (of_z w64 c) *ℤ to_z w64 (of_z w64 d))))) (wrapped_product a b la lb)
    ∙ ap (int_lt (a *ℤ b)) (wrapped_product c d lc ld)
    ∙ less_is (a *ℤ b) (c *ℤ d)
