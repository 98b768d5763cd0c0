-- Sizes of products, quotients and rounding shifts, for every signed number.
use Rattle.std.proofs.Common.{◌≡◌, ℕ, zero, suc, ◌+◌, ◌-◌, ◌*◌, ◌/◌, ◌%◌, ◌^◌, ◌<◌, ◌≤◌, sym, subst, inl, inr, arith, ap, ◌∙◌}
use Rattle.std.specs.Prelude.{ℤ, pos, negsuc, ◌+ℤ◌, ◌*ℤ◌, ◌≤ℤ◌, ◌<ℤ◌, unsigned_abs, FitsSigned, int_div}
use Rattle.std.specs.Int.{int_shr, w64, cast_signed as to_z}
use Rattle.std.proofs.lemmas.Nat.{mul-le, div_below, pow_pos, one_shl}
use Rattle.std.proofs.lemmas.Int.{ints, unsigned_abs-mul, fits_signed_from_abs, to_z_pos}
use Rattle.std.proofs.Math.IntN.{pos-*ℤ-negsuc}
use Rattle.std.proofs.Math.Nat.{lt-mul-div-succ, mul-div-le, pow-suc, pow-le-pow_right, div-le_self}
use Rattle.std.proofs.lemmas.Bool.{cases_lt}
use Rattle.fixed_math.specs.Rounding.{rounded}

-- a product is within the product of the bounds
pub product_within : (a b : ℤ) (m n : ℕ) → unsigned_abs a ≤ m → unsigned_abs b ≤ n → unsigned_abs (a *ℤ b) ≤ m * n
product_within a b m n p q = subst (λ x. x ≤ m * n) (sym (unsigned_abs-mul a b)) (mul-le (unsigned_abs a) (unsigned_abs b) m n p q)

-- a shift is the greatest number whose multiple is not above
pub shr_low : (z : ℤ) (k : ℕ) → (pos (2 ^ k) *ℤ int_shr z k) ≤ℤ z
shr_low (pos a) k = omega (arith, ints, mul-div-le a (2 ^ k))
shr_low (negsuc a) k = omega (arith, ints, lt-mul-div-succ a (pow_pos k), pos-*ℤ-negsuc (2 ^ k) (a / 2 ^ k))

pub shr_high : (z : ℤ) (k : ℕ) → z <ℤ (pos (2 ^ k) *ℤ int_shr z k +ℤ pos (2 ^ k))
shr_high (pos a) k = omega (arith, ints, lt-mul-div-succ a (pow_pos k))
shr_high (negsuc a) k = omega (arith, ints, mul-div-le a (2 ^ k), pos-*ℤ-negsuc (2 ^ k) (a / 2 ^ k))

-- a shift does not grow a number
pub shr_within : (z : ℤ) (k m : ℕ) → unsigned_abs z ≤ m → unsigned_abs (int_shr z k) ≤ m
shr_within (pos a) k m h = omega (arith, div-le_self a (2 ^ k))
shr_within (negsuc a) k m h = omega (arith, div-le_self a (2 ^ k))

-- a shift of a number within m * 2^k is within m
pub shr_scaled : (z : ℤ) (k m : ℕ) → unsigned_abs z ≤ m * 2 ^ k → unsigned_abs (int_shr z k) ≤ m
shr_scaled (pos a) k m h =
    let p : a < (m + 1) * 2 ^ k = omega (arith, pow_pos k) in
    omega (arith, div_below a (2 ^ k) (m + 1) (pow_pos k) p)
shr_scaled (negsuc a) k m h =
    let p : a < m * 2 ^ k = omega arith in
    omega (arith, div_below a (2 ^ k) m (pow_pos k) p)

-- a quotient does not grow a number
pub quotient_within : (a b : ℤ) (m : ℕ) → unsigned_abs a ≤ m → unsigned_abs (int_div a b) ≤ m
quotient_within (pos a) (pos b) m h = omega (arith, div-le_self a b)
quotient_within (pos a) (negsuc b) m h = omega (arith, ints, div-le_self a (suc b))
quotient_within (negsuc a) (pos b) m h = omega (arith, ints, div-le_self (suc a) b)
quotient_within (negsuc a) (negsuc b) m h = omega (arith, div-le_self (suc a) (suc b))

-- a rounded quotient is the nearest whole number, the greater one of two
pub rounded_low : (z : ℤ) (s : ℕ) → (pos (2 ^ s) *ℤ rounded z s) ≤ℤ (z +ℤ pos (2 ^ (s - 1)))
rounded_low z s = shr_low (z +ℤ pos (2 ^ (s - 1))) s

pub rounded_high : (z : ℤ) (s : ℕ) → 1 ≤ s → z <ℤ (pos (2 ^ s) *ℤ rounded z s +ℤ pos (2 ^ (s - 1)))
rounded_high z s h =
    let e : suc (s - 1) ≡ s = omega arith in
    let d : 2 ^ suc (s - 1) ≡ 2 ^ (s - 1) * 2 = pow-suc 2 (s - 1) in
    let f : 2 ^ s ≡ 2 ^ (s - 1) * 2 = sym (ap (λ k. 2 ^ k) e) ∙ d in
    nearest z (pos (2 ^ s) *ℤ rounded z s) (2 ^ s) (2 ^ (s - 1)) f (shr_high (z +ℤ pos (2 ^ (s - 1))) s)
  where
    nearest : (z r : ℤ) (p h : ℕ) → p ≡ h * 2 → (z +ℤ pos h) <ℤ (r +ℤ pos p) → z <ℤ (r +ℤ pos h)
    nearest z r p h e l = omega (arith, ints)

round_cases : (z r : ℤ) (p h m : ℕ) → h + h ≡ p → 0 < h → unsigned_abs z ≤ m * p → (pos p *ℤ r) ≤ℤ (z +ℤ pos h) → (z +ℤ pos h) <ℤ (pos p *ℤ r +ℤ pos p) → unsigned_abs r ≤ m
round_cases z (pos k) p h m e t w low high =
    elim (cases_lt m k) [
      | inl q ↦ let s : (m + 1) * p ≤ k * p = mul-le (m + 1) p k p (omega arith) (omega arith) in absurd (omega (arith, ints))
      | inr q ↦ q
    ]
round_cases z (negsuc k) p h m e t w low high =
    elim (cases_lt k m) [
      | inl q ↦ omega arith
      | inr q ↦ let s : m * p ≤ k * p = mul-le m p k p q (omega arith) in absurd (omega (arith, ints, pos-*ℤ-negsuc p k))
    ]

-- a rounded product or sum of products is within m where what is rounded is within m * 2^s
pub round_within : (z : ℤ) (s m : ℕ) → 1 ≤ s → unsigned_abs z ≤ m * 2 ^ s → unsigned_abs (rounded z s) ≤ m
round_within z (suc s) m p h =
    let e : 2 ^ s + 2 ^ s ≡ 2 ^ suc s = omega (arith, pow-suc 2 s) in
    let i : suc s - 1 ≡ s = omega arith in
    subst (λ k. unsigned_abs (int_shr (z +ℤ pos (2 ^ k)) (suc s)) ≤ m) (sym i)
    (round_cases z (int_shr (z +ℤ pos (2 ^ s)) (suc s)) (2 ^ suc s) (2 ^ s) m e (pow_pos s) h
    (shr_low (z +ℤ pos (2 ^ s)) (suc s)) (shr_high (z +ℤ pos (2 ^ s)) (suc s)))
round_within z zero m p h = absurd (omega arith)

-- ---- the code's steps at 64 bits

fits : (z : ℤ) → unsigned_abs z < 2 ^ 63 → FitsSigned w64 z
fits z h = fits_signed_from_abs w64 z h

pub record ProductSteps (a b : ℤ) (s : ℕ) : Type 0 where
  pub product : FitsSigned w64 (a *ℤ b)
  pub half : to_z w64 (1 * 2 ^ (s - 1) % 2 ^ 64) ≡ pos (2 ^ (s - 1))
  pub sum : FitsSigned w64 (a *ℤ b +ℤ pos (2 ^ (s - 1)))
  pub shifted : FitsSigned w64 (rounded (a *ℤ b) s)

pub product_steps : (a b : ℤ) (s : ℕ) → 1 ≤ s → s ≤ 62 → unsigned_abs (a *ℤ b) < 2 ^ 62 → ProductSteps a b s
product_steps a b s low high h =
    let i : s - 1 ≤ 61 = omega arith in
    let p : 2 ^ (s - 1) ≤ 2 ^ 61 = pow-le-pow_right {n = 2} (omega arith) i in
    let e : 1 * 2 ^ (s - 1) % 2 ^ 64 ≡ 2 ^ (s - 1) = one_shl (s - 1) 64 (omega arith) in
    let q : unsigned_abs (a *ℤ b +ℤ pos (2 ^ (s - 1))) ≤ 2 ^ 63 - 1 = omega (arith, ints) in
    record {
      product = fits (a *ℤ b) (omega arith);
      half = rw e (to_z_pos w64 (2 ^ (s - 1)) (omega arith));
      sum = fits (a *ℤ b +ℤ pos (2 ^ (s - 1))) (omega arith);
      shifted = fits (rounded (a *ℤ b) s) (omega (arith, shr_within (a *ℤ b +ℤ pos (2 ^ (s - 1))) s (2 ^ 63 - 1) q));
    }

pub record SumSteps (x c y s : ℤ) : Type 0 where
  pub first : FitsSigned w64 (x *ℤ c)
  pub second : FitsSigned w64 (y *ℤ s)
  pub sum : FitsSigned w64 (x *ℤ c +ℤ y *ℤ s)
  pub half : FitsSigned w64 (x *ℤ c +ℤ y *ℤ s +ℤ pos 16384)
  pub shifted : FitsSigned w64 (rounded (x *ℤ c +ℤ y *ℤ s) 15)

pub sum_steps : (x c y s : ℤ) → unsigned_abs (x *ℤ c) ≤ 2 ^ 61 → unsigned_abs (y *ℤ s) ≤ 2 ^ 61 → SumSteps x c y s
sum_steps x c y s p q =
    let h : unsigned_abs (x *ℤ c +ℤ y *ℤ s) ≤ 2 ^ 62 = omega (arith, ints) in
    let t : unsigned_abs (x *ℤ c +ℤ y *ℤ s +ℤ pos 16384) ≤ 2 ^ 63 - 1 = omega (arith, ints) in
    record {
      first = fits (x *ℤ c) (omega arith);
      second = fits (y *ℤ s) (omega arith);
      sum = fits (x *ℤ c +ℤ y *ℤ s) (omega arith);
      half = fits (x *ℤ c +ℤ y *ℤ s +ℤ pos 16384) (omega arith);
      shifted = fits (rounded (x *ℤ c +ℤ y *ℤ s) 15) (omega (arith, shr_within (x *ℤ c +ℤ y *ℤ s +ℤ pos 16384) 15 (2 ^ 63 - 1) t));
    }

-- a number of a turned pair is at most twice the greater of the pair
pub turn_within : (x c y s : ℤ) (m : ℕ) → unsigned_abs x ≤ m → unsigned_abs y ≤ m → unsigned_abs c ≤ 2 ^ 15 → unsigned_abs s ≤ 2 ^ 15 → unsigned_abs (rounded (x *ℤ c +ℤ y *ℤ s) 15) ≤ 2 * m
turn_within x c y s m p q u v =
    let a : unsigned_abs (x *ℤ c) ≤ m * 2 ^ 15 = product_within x c m (2 ^ 15) p u in
    let b : unsigned_abs (y *ℤ s) ≤ m * 2 ^ 15 = product_within y s m (2 ^ 15) q v in
    round_within (x *ℤ c +ℤ y *ℤ s) 15 (2 * m) (omega arith) (omega (arith, ints))

-- a rounded product of bounded numbers
pub product_rounded : (a b : ℤ) (s m n k : ℕ) → 1 ≤ s → unsigned_abs a ≤ m → unsigned_abs b ≤ n → m * n ≤ k * 2 ^ s → unsigned_abs (rounded (a *ℤ b) s) ≤ k
product_rounded a b s m n k h p q r =
    let d : unsigned_abs (a *ℤ b) ≤ m * n = product_within a b m n p q in
    round_within (a *ℤ b) s k h (omega arith)
