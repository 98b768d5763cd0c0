-- Sums of samples by weights: step by step, and of functions that agree.
use Rattle.std.proofs.Common.{refl, ◌≡◌, ℕ, zero, suc, ◌+◌, ◌*◌, ◌^◌, ◌<◌, ◌≤◌, sym, arith, ap, ◌∙◌, List}
use Rattle.std.specs.Prelude.{ℤ, pos, ◌+ℤ◌, ◌-ℤ◌, ◌*ℤ◌, unsigned_abs, FitsSigned}
use Rattle.std.specs.Int.{w32, w64}
use Rattle.std.proofs.lemmas.Int.{ints, fits_signed_from_abs}
use Rattle.fixed_math.specs.Items.{item}
use Rattle.fixed_math.proofs.IntLemmas.{+ℤ-*ℤ, *ℤ_assoc}
use Rattle.fixed_math.proofs.RoundingLemmas.{product_within}
use Rattle.rate_change.specs.Digits.{joined}
use Rattle.rate_change.specs.Resampling.{first_sum, sum_around, in_window, weighted, weight}
use Rattle.rate_change.specs.Tables.{IsRow}
use Rattle.rate_change.specs.declared.row.Row.{Row}

-- functions that agree at the first n places have one sum
pub same_sum : (g h : ℤ → ℤ) (n : ℕ) → ((t : ℕ) → t < n → g (pos t -ℤ pos 15) ≡ h (pos t -ℤ pos 15)) → first_sum g n ≡ first_sum h n
unfolding first_sum
same_sum g h zero e = refl
same_sum g h (suc n) e = ap (λ z. z +ℤ g (pos n -ℤ pos 15)) (same_sum g h n (λ t l. e t (omega arith))) ∙ ap (λ z. first_sum h n +ℤ z) (e n (omega arith))

-- a bound of each term bounds the sum
pub sum_within : (g : ℤ → ℤ) (m n : ℕ) → ((t : ℕ) → t < n → unsigned_abs (g (pos t -ℤ pos 15)) ≤ m) → unsigned_abs (first_sum g n) ≤ n * m
unfolding first_sum
sum_within g m zero h = omega arith
sum_within g m (suc n) h = omega (arith, ints, sum_within g m n (λ t l. h t (omega arith)), h n (omega arith))

-- one place of a window
pub window_place : (xs : List ℤ) (t : ℕ) → in_window xs (pos t -ℤ pos 15) ≡ item xs t
window_place xs t = ap (item xs) (place t)
  where
    place : (t : ℕ) → unsigned_abs (pos t -ℤ pos 15 +ℤ pos 15) ≡ t
    place t = omega (arith, ints)

pub first_more : (g : ℤ → ℤ) (n : ℕ) → first_sum g (n + 1) ≡ first_sum g n +ℤ g (pos n -ℤ pos 15)
unfolding first_sum
first_more g n = ap (first_sum g) (one_more n)
  where
    one_more : (n : ℕ) → n + 1 ≡ suc n
    one_more n = omega arith

-- one item more
pub sum_step : (xs : List ℤ) (n : ℕ) (s : ℤ) → s ≡ first_sum (in_window xs) n → s +ℤ item xs n ≡ first_sum (in_window xs) (n + 1)
sum_step xs n s e = ap (λ z. z +ℤ item xs n) e ∙ ap (λ z. first_sum (in_window xs) n +ℤ z) (sym (window_place xs n)) ∙ sym (first_more (in_window xs) n)

-- one product more
pub product_step : (ws xs : List ℤ) (n : ℕ) (s : ℤ) → s ≡ first_sum (weighted ws xs) n → s +ℤ item ws n *ℤ item xs n ≡ first_sum (weighted ws xs) (n + 1)
product_step ws xs n s e =
    ap (λ z. z +ℤ item ws n *ℤ item xs n) e
    ∙ ap (λ z. first_sum (weighted ws xs) n +ℤ z *ℤ item xs n) (sym (window_place ws n))
    ∙ ap (λ z. first_sum (weighted ws xs) n +ℤ in_window ws (pos n -ℤ pos 15) *ℤ z) (sym (window_place xs n))
    ∙ sym (first_more (weighted ws xs) n)

pub record ProductSteps (s w x : ℤ) (n : ℕ) : Type 0 where
  pub product : FitsSigned w32 (w *ℤ x)
  pub sum : FitsSigned w32 (s +ℤ w *ℤ x)
  pub size : unsigned_abs (s +ℤ w *ℤ x) ≤ (n + 1) * 67076096

pub product_steps : (s w x : ℤ) (n : ℕ) → n < 32 → unsigned_abs s ≤ n * 67076096 → unsigned_abs w ≤ 2047 → unsigned_abs x ≤ 2 ^ 15 → ProductSteps s w x n
product_steps s w x n l h p q =
    let a : unsigned_abs (w *ℤ x) ≤ 2047 * 2 ^ 15 = product_within w x 2047 (2 ^ 15) p q in
    let b : unsigned_abs (s +ℤ w *ℤ x) ≤ (n + 1) * 67076096 = omega (arith, ints) in
    record {
      product = fits_signed_from_abs w32 (w *ℤ x) (omega arith);
      sum = fits_signed_from_abs w32 (s +ℤ w *ℤ x) (omega arith);
      size = b;
    }

-- ---- digits

three : (h m l x : ℤ) → joined h m l *ℤ x ≡ pos 16769025 *ℤ (h *ℤ x) +ℤ pos 4095 *ℤ (m *ℤ x) +ℤ l *ℤ x
three h m l x =
    let a = +ℤ-*ℤ (pos 4095 *ℤ (pos 4095 *ℤ h +ℤ m)) l x in
    let b = *ℤ_assoc (pos 4095) (pos 4095 *ℤ h +ℤ m) x in
    let d = +ℤ-*ℤ (pos 4095 *ℤ h) m x in
    let e = *ℤ_assoc (pos 4095) h x in
    omega (arith, ints)

pub joined_sum : (high middle low window : List ℤ) (n : ℕ) → first_sum (λ j. joined (in_window high j) (in_window middle j) (in_window low j) *ℤ in_window window j) n ≡ joined (first_sum (weighted high window) n) (first_sum (weighted middle window) n) (first_sum (weighted low window) n)
unfolding first_sum
joined_sum high middle low window zero = refl
joined_sum high middle low window (suc n) =
    let j : ℤ = pos n -ℤ pos 15 in
    let t = three (in_window high j) (in_window middle j) (in_window low j) (in_window window j) in
    let r = joined_sum high middle low window n in
    more (first_sum (weighted high window) n) (first_sum (weighted middle window) n) (first_sum (weighted low window) n) (weighted high window j) (weighted middle window j) (weighted low window j) _ _ r t
  where
    more : (h m l a b d s p : ℤ) → s ≡ joined h m l → p ≡ pos 16769025 *ℤ a +ℤ pos 4095 *ℤ b +ℤ d → s +ℤ p ≡ joined (h +ℤ a) (m +ℤ b) (l +ℤ d)
    more h m l a b d s p e f = omega (arith, ints)

pub record JoinSteps (h m l : ℤ) : Type 0 where
  pub first : FitsSigned w64 (pos 4095 *ℤ h)
  pub second : FitsSigned w64 (pos 4095 *ℤ h +ℤ m)
  pub third : FitsSigned w64 (pos 4095 *ℤ (pos 4095 *ℤ h +ℤ m))
  pub fourth : FitsSigned w64 (joined h m l)
  pub size : unsigned_abs (joined h m l) ≤ 2 ^ 57

pub join_steps : (h m l : ℤ) → unsigned_abs h ≤ 2 ^ 32 → unsigned_abs m ≤ 2 ^ 32 → unsigned_abs l ≤ 2 ^ 32 → JoinSteps h m l
join_steps h m l p q r =
    let z : unsigned_abs (joined h m l) ≤ 2 ^ 57 = omega (arith, ints) in
    record {
      first = fits_signed_from_abs w64 (pos 4095 *ℤ h) (omega (arith, ints));
      second = fits_signed_from_abs w64 (pos 4095 *ℤ h +ℤ m) (omega (arith, ints));
      third = fits_signed_from_abs w64 (pos 4095 *ℤ (pos 4095 *ℤ h +ℤ m)) (omega (arith, ints));
      fourth = fits_signed_from_abs w64 (joined h m l) (omega arith);
      size = z;
    }

-- what the sums of the digits come to
pub product_from : (up f : ℕ) (row : Row) (window : List ℤ) (h m l : ℤ) → IsRow up f row → h ≡ sum_around (weighted row.high window) → m ≡ sum_around (weighted row.middle window) → l ≡ sum_around (weighted row.low window) → joined h m l ≡ sum_around (λ j. weight up f j *ℤ in_window window j)
product_from up f row window h m l r a b d =
    ap (λ z. joined z m l) a
    ∙ ap (λ z. joined (sum_around (weighted row.high window)) z l) b
    ∙ ap (joined (sum_around (weighted row.high window)) (sum_around (weighted row.middle window))) d
    ∙ sym (joined_sum row.high row.middle row.low window 32)
    ∙ same_sum (λ j. joined (in_window row.high j) (in_window row.middle j) (in_window row.low j) *ℤ in_window window j) (λ j. weight up f j *ℤ in_window window j) 32 same
  where
    same : (t : ℕ) → t < 32 → joined (in_window row.high (pos t -ℤ pos 15)) (in_window row.middle (pos t -ℤ pos 15)) (in_window row.low (pos t -ℤ pos 15)) *ℤ in_window window (pos t -ℤ pos 15) ≡ weight up f (pos t -ℤ pos 15) *ℤ in_window window (pos t -ℤ pos 15)
    same t s =
        let x : ℤ = in_window window (pos t -ℤ pos 15) in
        ap (λ z. joined z (in_window row.middle (pos t -ℤ pos 15)) (in_window row.low (pos t -ℤ pos 15)) *ℤ x) (window_place row.high t)
        ∙ ap (λ z. joined (item row.high t) z (in_window row.low (pos t -ℤ pos 15)) *ℤ x) (window_place row.middle t)
        ∙ ap (λ z. joined (item row.high t) (item row.middle t) z *ℤ x) (window_place row.low t)
        ∙ ap (λ z. z *ℤ x) (r.weights_are t s)
