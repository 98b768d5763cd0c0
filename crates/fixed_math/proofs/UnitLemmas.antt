-- Vectors of unit length: the sum of squares, the size of the root, and the product by a reciprocal, which is
-- the truncated quotient.
use Rattle.std.proofs.Common.{◌≡◌, ℕ, zero, suc, ◌+◌, ◌-◌, ◌*◌, ◌/◌, ◌%◌, ◌^◌, ◌<◌, ◌≤◌, refl, sym, ap, subst, inl, inr, arith, ◌∙◌, List, [], ◌∷◌, get_or, length}
use Rattle.std.specs.Prelude.{ℤ, pos, negsuc, neg_ℤ, ◌+ℤ◌, ◌*ℤ◌, ◌≤ℤ◌, unsigned_abs, int_div, All, map, FitsSigned, nat_eq}
use Rattle.std.specs.Int.{int_shr, w64, w128, cast_unsigned as of_z, cast_signed as to_z}
use Rattle.std.proofs.lemmas.Int.{ints, fits_signed_from_abs, to_z_pos}
use Rattle.std.proofs.lemmas.Nat.{mul-le, div_below}
use Rattle.std.proofs.lemmas.Bool.{cases_lt, ne_eqb, cond-false, cond-true, eq-eqb}
use Rattle.std.proofs.lemmas.List.Sums.{sum_by-cons, sum_by-le, get_or-le-sum_by}
use Rattle.std.proofs.lemmas.List.Elements.{All-head, All-tail, All-weaker, All-map}
use Rattle.std.proofs.Math.IntN.{negsuc-*ℤ-pos}
use Rattle.std.proofs.Math.Nat.{mul_assoc, lt-mul-div-succ, div-mul-le_self, mod-eq_of_lt, zero-div}
use Rattle.fixed_math.specs.Root.{IsRoot, root}
use Rattle.fixed_math.specs.Unit.{square, energy, norm, over, unit_of, reciprocal_of, by_reciprocal}
use Rattle.fixed_math.proofs.RootLemmas.{root-is, root_small, root_least}
use Rattle.fixed_math.proofs.RoundingLemmas.{product_within}

-- ---- the sum of squares

pub energy_within : (xs : List ℤ) (m : ℕ) → length xs ≤ 176 → All (λ x. unsigned_abs x ≤ m) xs → energy xs ≤ 176 * (m * m)
energy_within xs m h a =
    let b : energy xs ≤ length xs * (m * m) = sum_by-le square (m * m) xs (All-weaker (λ x. unsigned_abs x ≤ m) (λ x. square x ≤ m * m) (λ x p. mul-le (unsigned_abs x) (unsigned_abs x) m m p p) xs a) in
    let d : length xs * (m * m) ≤ 176 * (m * m) = mul-le (length xs) (m * m) 176 (m * m) h (omega arith) in
    omega arith

pub below_within : (xs : List ℤ) → All (λ x. unsigned_abs x < 2 ^ 40) xs → All (λ x. unsigned_abs x ≤ 2 ^ 40) xs
below_within xs a = All-weaker (λ x. unsigned_abs x < 2 ^ 40) (λ x. unsigned_abs x ≤ 2 ^ 40) (λ x p. omega arith) xs a

pub energy_wide : (xs : List ℤ) → length xs ≤ 176 → All (λ x. unsigned_abs x < 2 ^ 40) xs → energy xs < 2 ^ 88
energy_wide xs h a = omega (arith, energy_within xs (2 ^ 40) h (below_within xs a))

-- an item whose bits are few
pub small_item : (x : ℤ) → unsigned_abs x < 2 ^ 40 → of_z w64 (x +ℤ pos 131072) < 2 ^ 18 → unsigned_abs x ≤ 2 ^ 17
small_item x h b = by_sum x (x +ℤ pos 131072) refl h b
  where
    by_sum : (x z : ℤ) → x +ℤ pos 131072 ≡ z → unsigned_abs x < 2 ^ 40 → of_z w64 z < 2 ^ 18 → unsigned_abs x ≤ 2 ^ 17
    by_sum x (pos n) e h b = omega (arith, ints)
    by_sum x (negsuc n) e h b = omega (arith, ints)

zero_from_square : (x : ℤ) → square x ≡ 0 → x ≡ pos 0
zero_from_square (pos zero) e = refl
zero_from_square (pos (suc n)) e = absurd (omega arith)
zero_from_square (negsuc n) e = absurd (omega arith)

-- a vector without length has zeros alone
pub zeros_from_energy : (xs : List ℤ) → energy xs ≡ 0 → xs ≡ map (λ x. pos 0) xs
zeros_from_energy [] e = refl
zeros_from_energy (x ∷ xs) e =
    let d : energy (x ∷ xs) ≡ square x + energy xs = sum_by-cons square x xs in
    let a : square x ≡ 0 = omega arith in
    let b : energy xs ≡ 0 = omega arith in
    ap (λ y. y ∷ xs) (zero_from_square x a) ∙ ap (λ ys. pos 0 ∷ ys) (zeros_from_energy xs b)

pub unit-zero : (g : ℤ) (xs : List ℤ) → energy xs ≡ 0 → xs ≡ unit_of g xs
unfolding unit_of
unit-zero g xs e = zeros_from_energy xs e ∙ sym (cond-true (nat_eq (energy xs) 0) (map (λ x. pos 0) xs) (map (over g (norm xs)) xs) (eq-eqb (energy xs) 0 e))

pub unit-some : (g : ℤ) (xs : List ℤ) → 0 < energy xs → map (over g (norm xs)) xs ≡ unit_of g xs
unfolding unit_of
unit-some g xs h = sym (cond-false (nat_eq (energy xs) 0) (map (λ x. pos 0) xs) (map (over g (norm xs)) xs) (ne_eqb (energy xs) 0 (λ e. omega arith)))

-- ---- the length

pub norm-is : (xs : List ℤ) → energy xs < 2 ^ 88 → IsRoot (energy xs * 2 ^ 24) (norm xs)
unfolding norm
norm-is xs h = root-is (energy xs * 2 ^ 24) (omega arith)

pub norm_low : (xs : List ℤ) → energy xs < 2 ^ 88 → 0 < energy xs → 4096 ≤ norm xs
norm_low xs h p = root_least (energy xs * 2 ^ 24) (norm xs) 4096 (norm-is xs h) (omega arith)

pub norm_share : (xs : List ℤ) (k : ℕ) (d : ℤ) → energy xs < 2 ^ 88 → k < length xs → unsigned_abs (get_or xs k d) * 4096 ≤ norm xs
norm_share xs k d h l =
    let n : ℕ = unsigned_abs (get_or xs k d) in
    let s : n * n ≤ energy xs = get_or-le-sum_by square xs k d l in
    root_least (energy xs * 2 ^ 24) (norm xs) (n * 4096) (norm-is xs h) (omega arith)

pub norm_small : (xs : List ℤ) → energy xs < 2 ^ 36 → norm xs < 2 ^ 30
norm_small xs h = root_small (energy xs * 2 ^ 24) (norm xs) (2 ^ 30) (omega arith) (norm-is xs (omega arith)).low

pub norm_wide : (xs : List ℤ) → energy xs < 2 ^ 88 → norm xs < 2 ^ 56
norm_wide xs h = root_small (energy xs * 2 ^ 24) (norm xs) (2 ^ 56) (omega arith) (norm-is xs h).low

-- ---- the reciprocal

cancel : (x y r : ℕ) → x * r < y * r → x < y
cancel x y r h =
    elim (cases_lt x y) [
      | inl p ↦ p
      | inr p ↦ let m : y * r ≤ x * r = mul-le y r x r p (omega arith) in absurd (omega arith)
    ]

pub reciprocal_above : (g r : ℕ) → 0 < r → g * 2 ^ 59 < reciprocal_of g r * r
reciprocal_above g r p = omega (arith, lt-mul-div-succ (g * 2 ^ 59) p)

pub reciprocal_below : (g r : ℕ) → reciprocal_of g r * r ≤ g * 2 ^ 59 + r
reciprocal_below g r = omega (arith, div-mul-le_self (g * 2 ^ 59) r)

-- the product lies strictly between the quotient and the next whole number
pub product_above : (g r m n k : ℕ) → 0 < n → g * 2 ^ 59 < m * r → k * r ≤ n * g * 2048 → k * 2 ^ 48 < n * m
product_above g r m n k p a b =
    let s : n * (g * 2 ^ 59 + 1) ≤ n * (m * r) = mul-le n (g * 2 ^ 59 + 1) n (m * r) (omega arith) (omega arith) in
    cancel (k * 2 ^ 48) (n * m) r (omega arith)

pub product_below : (g r m n k : ℕ) → n * 4096 ≤ r → r < 2 ^ 30 → m * r ≤ g * 2 ^ 59 + r → n * g * 2048 < (k + 1) * r → n * m < (k + 1) * 2 ^ 48
product_below g r m n k h l a b =
    let s : n * (m * r) ≤ n * (g * 2 ^ 59 + r) = mul-le n (m * r) n (g * 2 ^ 59 + r) (omega arith) a in
    let t : n * 4096 * r ≤ (2 ^ 30 - 1) * (2 ^ 30 - 1) = mul-le (n * 4096) r (2 ^ 30 - 1) (2 ^ 30 - 1) (omega arith) (omega arith) in
    cancel (n * m) ((k + 1) * 2 ^ 48) r (omega arith)

neg-*ℤ-pos : (a b : ℕ) → neg_ℤ (pos a) *ℤ pos b ≡ neg_ℤ (pos (a * b))
neg-*ℤ-pos zero b = omega (arith, ints)
neg-*ℤ-pos (suc a) b = negsuc-*ℤ-pos a b

neg-div : (a r : ℕ) → int_div (neg_ℤ (pos a)) (pos r) ≡ neg_ℤ (pos (a / r))
neg-div zero r = ap pos (zero-div r) ∙ sym (ap (λ n. neg_ℤ (pos n)) (zero-div r))
neg-div (suc a) r = refl

-- the two signs of a quotient
pub over-pos : (g r n : ℕ) → over (pos g) r (pos n) ≡ pos (n * g * 2048 / r)
over-pos g r n = refl

pub over-negsuc : (g r a : ℕ) → over (pos g) r (negsuc a) ≡ neg_ℤ (pos (suc a * g * 2048 / r))
over-negsuc g r a =
    ap (λ z. int_div (z *ℤ pos 2048) (pos r)) (negsuc-*ℤ-pos a g) ∙ ap (λ z. int_div z (pos r)) (neg-*ℤ-pos (suc a * g) 2048) ∙ neg-div (suc a * g * 2048) r

neg-shift : (p k : ℕ) → k * 2 ^ 48 < p → p < (k + 1) * 2 ^ 48 → int_shr (neg_ℤ (pos p)) 48 +ℤ pos 1 ≡ neg_ℤ (pos k)
neg-shift zero k a b = absurd (omega arith)
neg-shift (suc p) k a b =
    let q : p / 2 ^ 48 ≡ k = omega arith in
    ap (λ n. negsuc n +ℤ pos 1) q ∙ back k
  where
    back : (k : ℕ) → negsuc k +ℤ pos 1 ≡ neg_ℤ (pos k)
    back k = omega (arith, ints)

quotient_high : (a r : ℕ) → 0 < r → a < (a / r + 1) * r
quotient_high a r p = omega (arith, lt-mul-div-succ a p)

-- the product by the reciprocal is the quotient
pub by_reciprocal-over : (g r : ℕ) (x : ℤ) → 4096 ≤ r → r < 2 ^ 30 → unsigned_abs x * 4096 ≤ r → by_reciprocal (reciprocal_of g r) x ≡ over (pos g) r x
by_reciprocal-over g r (pos zero) h l s =
    let m : ℕ = reciprocal_of g r in
    let e : 0 * m / 2 ^ 48 + 0 ≡ 0 = omega arith in
    let z : 0 * g * 2048 ≡ 0 = omega arith in
    ap pos (e ∙ sym (ap (λ n. n / r) z ∙ zero-div r))
by_reciprocal-over g r (pos (suc a)) h l s =
    let n : ℕ = suc a in
    let m : ℕ = reciprocal_of g r in
    let k : ℕ = n * g * 2048 / r in
    let low : k * 2 ^ 48 < n * m = product_above g r m n k (omega arith) (reciprocal_above g r (omega arith)) (div-mul-le_self (n * g * 2048) r) in
    let high : n * m < (k + 1) * 2 ^ 48 = product_below g r m n k s l (reciprocal_below g r) (quotient_high (n * g * 2048) r (omega arith)) in
    let q : n * m / 2 ^ 48 ≡ k = omega arith in
    let e : n * m / 2 ^ 48 + 0 ≡ k = omega arith in
    ap pos e
by_reciprocal-over g r (negsuc a) h l s =
    let n : ℕ = suc a in
    let m : ℕ = reciprocal_of g r in
    let k : ℕ = n * g * 2048 / r in
    let low : k * 2 ^ 48 < n * m = product_above g r m n k (omega arith) (reciprocal_above g r (omega arith)) (div-mul-le_self (n * g * 2048) r) in
    let high : n * m < (k + 1) * 2 ^ 48 = product_below g r m n k s l (reciprocal_below g r) (quotient_high (n * g * 2048) r (omega arith)) in
    ap (λ z. int_shr z 48 +ℤ pos 1) (negsuc-*ℤ-pos a m) ∙ neg-shift (n * m) k low high ∙ sym (over-negsuc g r a)

-- ---- sizes

cancel_le : (x y r : ℕ) → 0 < r → x * r ≤ y * r → x ≤ y
cancel_le x y r p h =
    elim (cases_lt y x) [
      | inl q ↦ let m : suc y * r ≤ x * r = mul-le (suc y) r x r q (omega arith) in absurd (omega arith)
      | inr q ↦ q
    ]

half_of_gain : (g r n : ℕ) → 0 < r → n * 4096 ≤ r → 2 * (n * g * 2048 / r) ≤ g
half_of_gain g r n p h =
    let k : ℕ = n * g * 2048 / r in
    let a : k * r ≤ n * g * 2048 = div-mul-le_self (n * g * 2048) r in
    let b : n * 4096 * g ≤ r * g = mul-le (n * 4096) g r g h (omega arith) in
    cancel_le (2 * k) g r p (omega arith)

pub over_size : (g r : ℕ) (x : ℤ) → 0 < r → unsigned_abs x * 4096 ≤ r → 2 * unsigned_abs (over (pos g) r x) ≤ g
over_size g r (pos n) p h = half_of_gain g r n p h
over_size g r (negsuc a) p h =
    let b : 2 * (suc a * g * 2048 / r) ≤ g = half_of_gain g r (suc a) p h in
    subst (λ z. 2 * unsigned_abs z ≤ g) (sym (over-negsuc g r a)) (omega (arith, ints))

pub product_fits : (g r n : ℕ) → g ≤ 2 ^ 15 → r < 2 ^ 30 → n * 4096 ≤ r → n * reciprocal_of g r < 2 ^ 63
product_fits g r n h l s =
    let m : ℕ = reciprocal_of g r in
    let a : n * 4096 * m ≤ r * m = mul-le (n * 4096) m r m s (omega arith) in
    let b : m * r ≤ g * 2 ^ 59 + r = reciprocal_below g r in
    omega arith

-- ---- maps

-- two maps agree where the functions agree on the items
pub map_agreeing : (f g : ℤ → ℤ) (xs : List ℤ) → All (λ x. f x ≡ g x) xs → map f xs ≡ map g xs
map_agreeing f g [] a = refl
map_agreeing f g (x ∷ xs) a = ap (λ y. y ∷ map f xs) (All-head (λ y. f y ≡ g y) x xs a) ∙ ap (λ ys. g x ∷ ys) (map_agreeing f g xs (All-tail (λ y. f y ≡ g y) x xs a))

-- ---- the code's quotient

ratio_within : (a : ℤ) (r m : ℕ) → 0 < r → unsigned_abs a ≤ m * r → unsigned_abs (int_div a (pos r)) ≤ m
ratio_within (pos a) r m p h =
    let b : a < (m + 1) * r = omega arith in
    omega (arith, div_below a r (m + 1) p b)
ratio_within (negsuc a) r m p h =
    let b : suc a < (m + 1) * r = omega arith in
    let d : suc a / r < m + 1 = div_below (suc a) r (m + 1) p b in
    omega (arith, ints)

pub record QuotientSteps (x g r : ℤ) : Type 0 where
  pub x_wide : FitsSigned w128 x
  pub g_wide : FitsSigned w128 g
  pub r_wide : FitsSigned w128 r
  pub product : FitsSigned w128 (x *ℤ g)
  pub narrow_product : unsigned_abs x < 2 ^ 37 → FitsSigned w64 (x *ℤ g)
  pub quotient : FitsSigned w64 (int_div (x *ℤ g) r)
  pub wide_quotient : FitsSigned w128 (int_div (x *ℤ g) r)

pub quotient_steps : (x g r : ℤ) → FitsSigned w64 r → pos 0 ≤ℤ g → g ≤ℤ pos 67108864 → pos 4096 ≤ℤ r → unsigned_abs x < 2 ^ 40 → unsigned_abs x * 4096 ≤ unsigned_abs r → QuotientSteps x g r
quotient_steps x g (negsuc n) f a b h s t = absurd (omega (arith, ints))
quotient_steps x g (pos n) f a b h s t =
    let l : unsigned_abs g ≤ 2 ^ 26 = omega (arith, ints) in
    let m : unsigned_abs (x *ℤ g) ≤ unsigned_abs x * 2 ^ 26 = product_within x g (unsigned_abs x) (2 ^ 26) (omega arith) l in
    let q : unsigned_abs (int_div (x *ℤ g) (pos n)) ≤ 2 ^ 14 = ratio_within (x *ℤ g) n (2 ^ 14) (omega (arith, ints)) (omega arith) in
    record {
      x_wide = fits_signed_from_abs w128 x (omega arith);
      g_wide = fits_signed_from_abs w128 g (omega arith);
      r_wide = fits_signed_from_abs w128 (pos n) (omega (arith, f.sfits));
      product = fits_signed_from_abs w128 (x *ℤ g) (omega arith);
      narrow_product = λ p. fits_signed_from_abs w64 (x *ℤ g) (omega arith);
      quotient = fits_signed_from_abs w64 (int_div (x *ℤ g) (pos n)) (omega arith);
      wide_quotient = fits_signed_from_abs w128 (int_div (x *ℤ g) (pos n)) (omega arith);
    }

-- the code's product of the gain
pub over-gain : (g r : ℕ) (x : ℤ) → int_div (x *ℤ (pos g *ℤ pos 2048)) (pos r) ≡ over (pos g) r x
over-gain g r (pos a) = ap (λ n. pos (n / r)) (sym (mul_assoc a g 2048))
over-gain g r (negsuc a) =
    ap (λ z. int_div z (pos r)) (negsuc-*ℤ-pos a (g * 2048) ∙ ap (λ n. neg_ℤ (pos n)) (sym (mul_assoc (suc a) g 2048)) ∙ sym (neg-*ℤ-pos (suc a * g) 2048) ∙ sym (ap (λ z. z *ℤ pos 2048) (negsuc-*ℤ-pos a g)))

-- the code's reciprocal
pub reciprocal-is : (g r : ℕ) → g ≤ 2 ^ 15 → 4096 ≤ r → to_z w64 (g * 2 ^ 59 % 2 ^ 128 / r + 1) ≡ pos (reciprocal_of g r)
reciprocal-is g r h l =
    let s : g * 2 ^ 59 < 2 ^ 128 = omega arith in
    let e : g * 2 ^ 59 % 2 ^ 128 ≡ g * 2 ^ 59 = mod-eq_of_lt s in
    let b : g * 2 ^ 59 / r < 2 ^ 63 - 1 = div_below (g * 2 ^ 59) r (2 ^ 63 - 1) (omega arith) (omega arith) in
    rw e (to_z_pos w64 (reciprocal_of g r) (omega arith))

-- ---- the vector

pub norm-from : (xs : List ℤ) (n r : ℕ) → n ≡ energy xs → energy xs < 2 ^ 88 → r ≡ root (n * 2 ^ 24 % 2 ^ 128) → r ≡ norm xs
unfolding norm
norm-from xs n r e h i =
    let s : n * 2 ^ 24 < 2 ^ 128 = omega arith in
    i ∙ ap root (mod-eq_of_lt s ∙ ap (λ k. k * 2 ^ 24) e)

shares : (xs : List ℤ) → energy xs < 2 ^ 88 → All (λ x. unsigned_abs x * 4096 ≤ norm xs) xs
shares xs h = λ k d l. norm_share xs k d h l

pub unit_reciprocal : (g : ℤ) (xs : List ℤ) → pos 0 ≤ℤ g → 0 < energy xs → energy xs < 2 ^ 36 → map (by_reciprocal (reciprocal_of (unsigned_abs g) (norm xs))) xs ≡ unit_of g xs
unit_reciprocal (negsuc n) xs a p h = absurd (omega (arith, ints))
unit_reciprocal (pos g) xs a p h =
    let r : ℕ = norm xs in
    let low : 4096 ≤ r = norm_low xs (omega arith) p in
    let high : r < 2 ^ 30 = norm_small xs h in
    let same : All (λ x. by_reciprocal (reciprocal_of g r) x ≡ over (pos g) r x) xs = All-weaker (λ x. unsigned_abs x * 4096 ≤ norm xs) (λ x. by_reciprocal (reciprocal_of g r) x ≡ over (pos g) r x) (λ x s. by_reciprocal-over g r x low high s) xs (shares xs (omega arith)) in
    map_agreeing (by_reciprocal (reciprocal_of g r)) (over (pos g) r) xs same ∙ unit-some (pos g) xs p

pub unit_division : (g : ℤ) (xs : List ℤ) → pos 0 ≤ℤ g → 0 < energy xs → map (λ x. int_div (x *ℤ (g *ℤ pos 2048)) (pos (norm xs))) xs ≡ unit_of g xs
unit_division (negsuc n) xs a p = absurd (omega (arith, ints))
unit_division (pos g) xs a p =
    let r : ℕ = norm xs in
    map_agreeing (λ x. int_div (x *ℤ (pos g *ℤ pos 2048)) (pos r)) (over (pos g) r) xs (λ k d l. over-gain g r (get_or xs k d)) ∙ unit-some (pos g) xs p

-- each item has at most half of the gain
pub unit_size : (g : ℤ) (xs : List ℤ) → pos 0 ≤ℤ g → 0 < energy xs → energy xs < 2 ^ 88 → All (λ y. 2 * unsigned_abs y ≤ unsigned_abs g) (unit_of g xs)
unit_size (negsuc n) xs a p h = absurd (omega (arith, ints))
unit_size (pos g) xs a p h =
    let r : ℕ = norm xs in
    let low : 4096 ≤ r = norm_low xs h p in
    let sizes : All (λ x. 2 * unsigned_abs (over (pos g) r x) ≤ g) xs = All-weaker (λ x. unsigned_abs x * 4096 ≤ norm xs) (λ x. 2 * unsigned_abs (over (pos g) r x) ≤ g) (λ x s. over_size g r x (omega arith) s) xs (shares xs h) in
    subst (λ ys. All (λ y. 2 * unsigned_abs y ≤ g) ys) (unit-some (pos g) xs p) (All-map (λ y. 2 * unsigned_abs y ≤ g) (over (pos g) r) xs sizes)
