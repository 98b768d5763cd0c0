-- Sums: their bounds, one place on, and term by term.
use Rattle.std.proofs.Common.{◌≡◌, ℕ, zero, suc, ◌+◌, ◌-◌, ◌*◌, ◌^◌, ◌<◌, ◌≤◌, inl, inr, refl, sym, ap, subst, arith, ◌∙◌, List, length}
use Rattle.std.specs.Prelude.{ℤ, pos, ◌+ℤ◌, ◌*ℤ◌, unsigned_abs, All, FitsSigned}
use Rattle.std.specs.Int.{w64}
use Rattle.std.proofs.lemmas.Int.{ints, unsigned_abs-mul, fits_signed_from_abs}
use Rattle.std.proofs.lemmas.Nat.{mul-le}
use Rattle.std.proofs.lemmas.List.{get_or_past}
use Rattle.std.proofs.lemmas.Bool.{cases_lt}
use Rattle.fixed_math.specs.Items.{item}
use Rattle.celt_analysis.specs.Sums.{sum_from, signed_sum, squared, energy, correlation}

-- one place on
pub sum_from-back : (f : ℕ → ℕ) (a n : ℕ) → sum_from f a n + f (a + n) ≡ f a + sum_from f (a + 1) n
unfolding sum_from
sum_from-back f a zero = omega (arith, ap f (same a))
  where
    same : (a : ℕ) → a + 0 ≡ a
    same a = omega arith
sum_from-back f a (suc n) = omega (arith, sum_from-back f a n, ap f (same a n))
  where
    same : (a n : ℕ) → a + suc n ≡ a + 1 + n
    same a n = omega arith

pub sum_from-le : (f : ℕ → ℕ) (m a n : ℕ) → ((i : ℕ) → f i ≤ m) → sum_from f a n ≤ n * m
unfolding sum_from
sum_from-le f m a zero h = omega arith
sum_from-le f m a (suc n) h = omega (arith, sum_from-le f m a n h, h (a + n))

pub signed_sum-le : (f : ℕ → ℤ) (m n : ℕ) → ((i : ℕ) → unsigned_abs (f i) ≤ m) → unsigned_abs (signed_sum f n) ≤ n * m
unfolding signed_sum
signed_sum-le f m zero h = omega arith
signed_sum-le f m (suc n) h = omega (arith, ints, signed_sum-le f m n h, h n)

-- what holds of a list's items holds of the 0 behind it
pub items_below : (d : List ℤ) (m i : ℕ) → 0 < m → All (λ x. unsigned_abs x < m) d → unsigned_abs (item d i) < m
items_below d m i p h =
    elim (cases_lt i (length d)) [
      | inl q ↦ h i (pos 0) q
      | inr q ↦ subst (λ x. unsigned_abs x < m) (sym (get_or_past d i (pos 0) q)) p
    ]

pub square_below : (d : List ℤ) (i : ℕ) → All (λ x. unsigned_abs x < 2 ^ 16) d → squared (item d i) ≤ 2 ^ 32
square_below d i h =
    let s : unsigned_abs (item d i) < 2 ^ 16 = items_below d (2 ^ 16) i (omega arith) h in
    mul-le (unsigned_abs (item d i)) (unsigned_abs (item d i)) (2 ^ 16) (2 ^ 16) (omega arith) (omega arith)

pub energy-fits : (d : List ℤ) (a n : ℕ) → n ≤ 960 → All (λ x. unsigned_abs x < 2 ^ 16) d → energy (item d) a n ≤ 2 ^ 42
energy-fits d a n c h =
    let b : energy (item d) a n ≤ n * 2 ^ 32 = sum_from-le (λ i. squared (item d i)) (2 ^ 32) a n (λ i. square_below d i h) in
    omega arith

pub product_below : (d : List ℤ) (i j : ℕ) → All (λ x. unsigned_abs x < 2 ^ 16) d → unsigned_abs (item d i *ℤ item d j) ≤ 2 ^ 32
product_below d i j h =
    let s : unsigned_abs (item d i) < 2 ^ 16 = items_below d (2 ^ 16) i (omega arith) h in
    let t : unsigned_abs (item d j) < 2 ^ 16 = items_below d (2 ^ 16) j (omega arith) h in
    subst (λ x. x ≤ 2 ^ 32) (sym (unsigned_abs-mul (item d i) (item d j))) (mul-le (unsigned_abs (item d i)) (unsigned_abs (item d j)) (2 ^ 16) (2 ^ 16) (omega arith) (omega arith))

pub correlation-fits : (d : List ℤ) (a b n : ℕ) → n ≤ 960 → All (λ x. unsigned_abs x < 2 ^ 16) d → unsigned_abs (correlation (item d) (item d) a b n) ≤ 2 ^ 42
correlation-fits d a b n c h =
    let t : unsigned_abs (correlation (item d) (item d) a b n) ≤ n * 2 ^ 32 = signed_sum-le (λ i. item d (a + i) *ℤ item d (b + i)) (2 ^ 32) n (λ i. product_below d (a + i) (b + i) h) in
    omega arith

pub sum_from-more : (f : ℕ → ℕ) (a n : ℕ) → sum_from f a (n + 1) ≡ sum_from f a n + f (a + n)
unfolding sum_from
sum_from-more f a n =
    let e : n + 1 ≡ suc n = omega arith in
    ap (sum_from f a) e

pub signed_sum-more : (f : ℕ → ℤ) (n : ℕ) → signed_sum f (n + 1) ≡ signed_sum f n +ℤ f n
unfolding signed_sum
signed_sum-more f n =
    let e : n + 1 ≡ suc n = omega arith in
    ap (signed_sum f) e

pub sum_from-none : (f : ℕ → ℕ) (a : ℕ) → sum_from f a 0 ≡ 0
unfolding sum_from
sum_from-none f a = refl

pub signed_sum-none : (f : ℕ → ℤ) → signed_sum f 0 ≡ pos 0
unfolding signed_sum
signed_sum-none f = refl

-- a slide's step
pub slid : (s : ℕ → ℤ) (a n : ℕ) → 1 ≤ a → energy s a n + squared (s (a - 1)) ≡ squared (s (a - 1 + n)) + energy s (a - 1) n
slid s a n h =
    let e : a - 1 + 1 ≡ a = omega arith in
    let b : energy s (a - 1) n + squared (s (a - 1 + n)) ≡ squared (s (a - 1)) + energy s (a - 1 + 1) n = sum_from-back (λ i. squared (s i)) (a - 1) n in
    omega (arith, ap (λ k. energy s k n) e)

pub record CorrelationStep (d : List ℤ) (a b i : ℕ) : Type 0 where
  pub x_fits : FitsSigned w64 (item d (a + i))
  pub y_fits : FitsSigned w64 (item d (b + i))
  pub product : FitsSigned w64 (item d (a + i) *ℤ item d (b + i))
  pub sum : FitsSigned w64 (correlation (item d) (item d) a b i +ℤ item d (a + i) *ℤ item d (b + i))

pub correlation_step : (d : List ℤ) (a b i : ℕ) → i < 960 → All (λ x. unsigned_abs x < 2 ^ 16) d → CorrelationStep d a b i
correlation_step d a b i p h =
    let x : unsigned_abs (item d (a + i)) < 2 ^ 16 = items_below d (2 ^ 16) (a + i) (omega arith) h in
    let y : unsigned_abs (item d (b + i)) < 2 ^ 16 = items_below d (2 ^ 16) (b + i) (omega arith) h in
    let m : unsigned_abs (item d (a + i) *ℤ item d (b + i)) ≤ 2 ^ 32 = product_below d (a + i) (b + i) h in
    let s : unsigned_abs (correlation (item d) (item d) a b i) ≤ 2 ^ 42 = correlation-fits d a b i (omega arith) h in
    record {
      x_fits = fits_signed_from_abs w64 _ (omega arith);
      y_fits = fits_signed_from_abs w64 _ (omega arith);
      product = fits_signed_from_abs w64 _ (omega arith);
      sum = fits_signed_from_abs w64 _ (sum_below (correlation (item d) (item d) a b i) (item d (a + i) *ℤ item d (b + i)) s m);
    }
  where
    sum_below : (x y : ℤ) → unsigned_abs x ≤ 2 ^ 42 → unsigned_abs y ≤ 2 ^ 32 → unsigned_abs (x +ℤ y) < 2 ^ 63
    sum_below x y p q = omega (arith, ints)

-- ---- sums term by term

pub signed_sum-same : (f g : ℕ → ℤ) (n : ℕ) → ((i : ℕ) → i < n → f i ≡ g i) → signed_sum f n ≡ signed_sum g n
unfolding signed_sum
signed_sum-same f g zero h = refl
signed_sum-same f g (suc n) h = ap (λ z. z +ℤ f n) (signed_sum-same f g n (λ i p. h i (omega arith))) ∙ ap (λ z. signed_sum g n +ℤ z) (h n (omega arith))

pub signed_sum-add : (f g : ℕ → ℤ) (n : ℕ) → signed_sum f n +ℤ signed_sum g n ≡ signed_sum (λ i. f i +ℤ g i) n
unfolding signed_sum
signed_sum-add f g zero = refl
signed_sum-add f g (suc n) = shuffled (signed_sum f n) (f n) (signed_sum g n) (g n) ∙ ap (λ z. z +ℤ (f n +ℤ g n)) (signed_sum-add f g n)
  where
    shuffled : (a b c d : ℤ) → (a +ℤ b) +ℤ (c +ℤ d) ≡ (a +ℤ c) +ℤ (b +ℤ d)
    shuffled a b c d = omega (arith, ints)

pub signed_sum-join : (f : ℕ → ℤ) (m n : ℕ) → signed_sum f (m + n) ≡ signed_sum f m +ℤ signed_sum (λ i. f (m + i)) n
unfolding signed_sum
signed_sum-join f m zero =
    let e : m + 0 ≡ m = omega arith in
    ap (signed_sum f) e ∙ same (signed_sum f m)
  where
    same : (z : ℤ) → z ≡ z +ℤ pos 0
    same z = omega (arith, ints)
signed_sum-join f m (suc n) =
    let e : m + suc n ≡ suc (m + n) = omega arith in
    ap (signed_sum f) e ∙ ap (λ z. z +ℤ f (m + n)) (signed_sum-join f m n) ∙ regrouped (signed_sum f m) (signed_sum (λ i. f (m + i)) n) (f (m + n))
  where
    regrouped : (a b c : ℤ) → (a +ℤ b) +ℤ c ≡ a +ℤ (b +ℤ c)
    regrouped a b c = omega (arith, ints)

pub sum_from-same : (f g : ℕ → ℕ) (a b n : ℕ) → ((i : ℕ) → i < n → f (a + i) ≡ g (b + i)) → sum_from f a n ≡ sum_from g b n
unfolding sum_from
sum_from-same f g a b zero h = refl
sum_from-same f g a b (suc n) h = ap (λ z. z + f (a + n)) (sum_from-same f g a b n (λ i p. h i (omega arith))) ∙ ap (λ z. sum_from g b n + z) (h n (omega arith))

-- the same samples at other places
pub correlation-moved : (r s u v : ℕ → ℤ) (a b x y n : ℕ) → ((i : ℕ) → i < n → r (a + i) ≡ u (x + i)) → ((i : ℕ) → i < n → s (b + i) ≡ v (y + i)) → correlation r s a b n ≡ correlation u v x y n
correlation-moved r s u v a b x y n h k = signed_sum-same (λ i. r (a + i) *ℤ s (b + i)) (λ i. u (x + i) *ℤ v (y + i)) n (λ i p. ap (λ z. z *ℤ s (b + i)) (h i p) ∙ ap (λ z. u (x + i) *ℤ z) (k i p))

pub correlation-join : (r s : ℕ → ℤ) (a b m n : ℕ) → correlation r s a b (m + n) ≡ correlation r s a b m +ℤ correlation r s (a + m) (b + m) n
correlation-join r s a b m n = signed_sum-join (λ i. r (a + i) *ℤ s (b + i)) m n ∙ ap (λ z. correlation r s a b m +ℤ z) (signed_sum-same (λ i. r (a + (m + i)) *ℤ s (b + (m + i))) (λ i. r (a + m + i) *ℤ s (b + m + i)) n (λ i p. ap (λ k. r k *ℤ s (b + (m + i))) (on a m i) ∙ ap (λ k. r (a + m + i) *ℤ s k) (on b m i)))
  where
    on : (a m i : ℕ) → a + (m + i) ≡ a + m + i
    on a m i = omega arith
