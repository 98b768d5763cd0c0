-- Samples that are cut, and how near the sums of their products are.
use Rattle.std.proofs.Common.{◌≡◌, ℕ, zero, suc, ◌+◌, ◌-◌, ◌*◌, ◌/◌, ◌%◌, ◌^◌, ◌<◌, ◌≤◌, refl, sym, ap, subst, arith, ◌∙◌, true, false}
use Rattle.std.specs.Prelude.{ℤ, pos, negsuc, neg_ℤ, ◌+ℤ◌, ◌-ℤ◌, ◌*ℤ◌, ◌≤ℤ◌, ◌<ℤ◌, unsigned_abs, FitsSigned}
use Rattle.std.specs.Int.{w16, w32, w64, int_wrap, int_shr, cast_signed as to_z, cast_unsigned as of_z}
use Rattle.std.proofs.lemmas.Int.{ints, int_wrap_fits, fits_signed_from_abs, to_z-of_z, wrapping_sub-bits, int_wrap-sub_right, int_wrap-add_left}
use Rattle.std.proofs.lemmas.Nat.{mul-le}
use Rattle.std.proofs.lemmas.Bool.{false≢true, ltb-false}
use lib.Signed.{lt_z}
use mir.ValLaws as laws
use Rattle.std.proofs.Math.IntN.{*ℤ_comm, zero-*ℤ, *ℤ-zero}
use Rattle.std.proofs.Math.Nat.{pow-suc, pow-le-pow_right, mod-lt}
use Rattle.fixed_math.proofs.IntLemmas.{+ℤ-*ℤ, -ℤ-*ℤ, *ℤ_assoc}
use Rattle.fixed_math.proofs.RoundingLemmas.{product_within, shr_low, shr_high, shr_scaled}
use Rattle.celt_analysis.specs.Pitch.{positive_part}
use Rattle.celt_analysis.specs.Search.{IsNear}
use Rattle.celt_analysis.specs.Sums.{sum_from, signed_sum, correlation, magnitude}
use Rattle.celt_analysis.proofs.LaneLemmas.{times-is}
use Rattle.celt_analysis.proofs.SumLemmas.{signed_sum-join, signed_sum-le}

-- a product is near that of two numbers that are within h of its factors
pub near-product : (x y u w : ℤ) (h : ℕ) → unsigned_abs (x -ℤ u) ≤ h → unsigned_abs (y -ℤ w) ≤ h → unsigned_abs (x *ℤ y -ℤ u *ℤ w) ≤ h * unsigned_abs x + h * unsigned_abs y + h * h
near-product x y u w h p q =
    let a : ℤ = x -ℤ u in
    let b : ℤ = y -ℤ w in
    let f1 : a *ℤ y ≡ x *ℤ y -ℤ u *ℤ y = -ℤ-*ℤ x u y in
    let f2 : b *ℤ u ≡ y *ℤ u -ℤ w *ℤ u = -ℤ-*ℤ y w u in
    let f3 : a *ℤ b ≡ x *ℤ b -ℤ u *ℤ b = -ℤ-*ℤ x u b in
    let c1 : y *ℤ u ≡ u *ℤ y = *ℤ_comm y u in
    let c2 : w *ℤ u ≡ u *ℤ w = *ℤ_comm w u in
    let c3 : b *ℤ u ≡ u *ℤ b = *ℤ_comm b u in
    let b1 : unsigned_abs (a *ℤ y) ≤ h * unsigned_abs y = product_within a y h (unsigned_abs y) p (omega arith) in
    let b2 : unsigned_abs (x *ℤ b) ≤ unsigned_abs x * h = product_within x b (unsigned_abs x) h (omega arith) q in
    let b3 : unsigned_abs (a *ℤ b) ≤ h * h = product_within a b h h p q in
    let m : unsigned_abs x * h ≡ h * unsigned_abs x = omega arith in
    closing (x *ℤ y) (u *ℤ y) (u *ℤ w) (u *ℤ b) (a *ℤ y) (x *ℤ b) (a *ℤ b) (h * unsigned_abs x) (h * unsigned_abs y) (h * h) f1 (sym c3 ∙ f2 ∙ ap (λ z. z -ℤ w *ℤ u) c1 ∙ ap (λ z. u *ℤ y -ℤ z) c2) f3 b1 (omega arith) b3
  where
    closing : (xy uy uw ub ay xb ab : ℤ) (k l m : ℕ) → ay ≡ xy -ℤ uy → ub ≡ uy -ℤ uw → ab ≡ xb -ℤ ub → unsigned_abs ay ≤ l → unsigned_abs xb ≤ k → unsigned_abs ab ≤ m → unsigned_abs (xy -ℤ uw) ≤ k + l + m
    closing xy uy uw ub ay xb ab k l m e f g p q r = omega (arith, ints)

-- sums of terms that are near each other
pub signed_sum-near : (f g : ℕ → ℤ) (k : ℕ → ℕ) (n : ℕ) → ((i : ℕ) → i < n → unsigned_abs (f i -ℤ g i) ≤ k i) → unsigned_abs (signed_sum f n -ℤ signed_sum g n) ≤ sum_from k 0 n
unfolding signed_sum sum_from
signed_sum-near f g k zero h = omega (arith, ints)
signed_sum-near f g k (suc n) h =
    let e : k (0 + n) ≡ k n = ap k (same n) in
    closing (signed_sum f n) (f n) (signed_sum g n) (g n) (sum_from k 0 n) (k n) (k (0 + n)) e (signed_sum-near f g k n (λ i p. h i (omega arith))) (h n (omega arith))
  where
    same : (n : ℕ) → 0 + n ≡ n
    same n = omega arith

    closing : (a b c d : ℤ) (k l m : ℕ) → m ≡ l → unsigned_abs (a -ℤ c) ≤ k → unsigned_abs (b -ℤ d) ≤ l → unsigned_abs ((a +ℤ b) -ℤ (c +ℤ d)) ≤ k + m
    closing a b c d k l m e p q = omega (arith, ints)

-- a common factor
pub signed_sum-scaled : (f : ℕ → ℤ) (p : ℤ) (n : ℕ) → signed_sum (λ i. f i *ℤ p) n ≡ signed_sum f n *ℤ p
unfolding signed_sum
signed_sum-scaled f p zero = sym (zero-*ℤ p)
signed_sum-scaled f p (suc n) = ap (λ z. z +ℤ f n *ℤ p) (signed_sum-scaled f p n) ∙ sym (+ℤ-*ℤ (signed_sum f n) (f n) p)

pub scaled-product : (x y p : ℤ) → (x *ℤ p) *ℤ (y *ℤ p) ≡ (x *ℤ y) *ℤ (p *ℤ p)
scaled-product x y p = *ℤ_assoc x p (y *ℤ p) ∙ ap (λ z. x *ℤ z) (sym (*ℤ_assoc p y p) ∙ ap (λ z. z *ℤ p) (*ℤ_comm p y) ∙ *ℤ_assoc y p p) ∙ sym (*ℤ_assoc x y (p *ℤ p))

pub sum_from-join : (f : ℕ → ℕ) (a m n : ℕ) → sum_from f a (m + n) ≡ sum_from f a m + sum_from f (a + m) n
unfolding sum_from
sum_from-join f a m zero = ap (sum_from f a) (same m) ∙ here (sum_from f a m)
  where
    same : (m : ℕ) → m + 0 ≡ m
    same m = omega arith

    here : (x : ℕ) → x ≡ x + 0
    here x = omega arith
sum_from-join f a m (suc n) =
    let e : m + suc n ≡ suc (m + n) = omega arith in
    let g : a + (m + n) ≡ a + m + n = omega arith in
    ap (sum_from f a) e ∙ closing (sum_from f a (m + n)) (sum_from f a m) (sum_from f (a + m) n) (f (a + (m + n))) (f (a + m + n)) (sum_from-join f a m n) (ap f g)
  where
    closing : (x y z v w : ℕ) → x ≡ y + z → v ≡ w → x + v ≡ y + (z + w)
    closing x y z v w p q = omega arith

-- the sum of all that two samples and their cuts can be apart
pub sum_from-error : (s : ℕ → ℤ) (h a b n : ℕ) → sum_from (λ i. h * unsigned_abs (s (a + i)) + h * unsigned_abs (s (b + i)) + h * h) 0 n ≡ h * magnitude s a n + h * magnitude s b n + n * (h * h)
unfolding sum_from
sum_from-error s h a b zero = omega arith
sum_from-error s h a b (suc n) =
    let e : 0 + n ≡ n = omega arith in
    let ea : unsigned_abs (s (a + (0 + n))) ≡ unsigned_abs (s (a + n)) = ap (λ k. unsigned_abs (s (a + k))) e in
    let eb : unsigned_abs (s (b + (0 + n))) ≡ unsigned_abs (s (b + n)) = ap (λ k. unsigned_abs (s (b + k))) e in
    let i = sum_from-error s h a b n in
    closing h (magnitude s a n) (magnitude s b n) n (unsigned_abs (s (a + n))) (unsigned_abs (s (b + n))) (unsigned_abs (s (a + (0 + n)))) (unsigned_abs (s (b + (0 + n)))) _ i ea eb
  where
    closing : (h x y n v w v2 w2 z : ℕ) → z ≡ h * x + h * y + n * (h * h) → v2 ≡ v → w2 ≡ w → z + (h * v2 + h * w2 + h * h) ≡ h * (x + v) + h * (y + w) + suc n * (h * h)
    closing h x y n v w v2 w2 z e p q =
        let ep : h * v2 ≡ h * v = ap (λ k. h * k) p in
        let eq : h * w2 ≡ h * w = ap (λ k. h * k) q in
        omega arith

-- a part's magnitude is at most that of all
pub magnitude-part : (s : ℕ → ℤ) (b n m : ℕ) → b + n ≤ m → magnitude s b n ≤ magnitude s 0 m
magnitude-part s b n m h =
    let k : b + (n + (m - (b + n))) ≡ m = omega arith in
    let j1 : magnitude s 0 (b + (n + (m - (b + n)))) ≡ magnitude s 0 b + magnitude s (0 + b) (n + (m - (b + n))) = sum_from-join (λ i. unsigned_abs (s i)) 0 b (n + (m - (b + n))) in
    let e : 0 + b ≡ b = omega arith in
    let j2 : magnitude s b (n + (m - (b + n))) ≡ magnitude s b n + magnitude s (b + n) (m - (b + n)) = sum_from-join (λ i. unsigned_abs (s i)) b n (m - (b + n)) in
    omega (arith, ap (magnitude s 0) k, ap (λ z. magnitude s z (n + (m - (b + n)))) e)

-- ---- cutting

abbrev pub cut_of : ℕ → ℤ → ℤ
cut_of k x = int_shr (x +ℤ pos (2 ^ k / 2)) k

pub half-twice : (k : ℕ) → 1 ≤ k → 2 ^ k / 2 + 2 ^ k / 2 ≡ 2 ^ k
half-twice zero h = absurd (omega arith)
half-twice (suc k) h =
    let d : 2 ^ suc k ≡ 2 ^ k * 2 = pow-suc 2 k in
    omega arith

-- a cut sample's multiple is within half a step of the sample
pub cut-near : (k : ℕ) (x : ℤ) → unsigned_abs (x -ℤ cut_of k x *ℤ pos (2 ^ k)) ≤ 2 ^ k / 2
cut-near zero x = omega (arith, ints, shr_low (x +ℤ pos 0) 0, shr_high (x +ℤ pos 0) 0, *ℤ_comm (cut_of 0 x) (pos 1))
cut-near (suc k) x =
    let c = *ℤ_comm (cut_of (suc k) x) (pos (2 ^ suc k)) in
    let l = shr_low (x +ℤ pos (2 ^ suc k / 2)) (suc k) in
    let u = shr_high (x +ℤ pos (2 ^ suc k / 2)) (suc k) in
    closing x (cut_of (suc k) x *ℤ pos (2 ^ suc k)) (pos (2 ^ suc k) *ℤ cut_of (suc k) x) (2 ^ suc k) (2 ^ suc k / 2) c (half-twice (suc k) (omega arith)) l u
  where
    closing : (x z y : ℤ) (p h : ℕ) → z ≡ y → h + h ≡ p → y ≤ℤ (x +ℤ pos h) → (x +ℤ pos h) <ℤ (y +ℤ pos p) → unsigned_abs (x -ℤ z) ≤ h
    closing x z y p h e f l u = omega (arith, ints)

pub positive_part-le : (x y : ℤ) → x ≤ℤ y → positive_part x ≤ positive_part y
positive_part-le (pos m) (pos n) h = omega (arith, ints)
positive_part-le (pos m) (negsuc n) h = absurd (omega (arith, ints))
positive_part-le (negsuc m) y h = omega arith

-- the correlation of samples is at most the error from the scaled sum of products of the quantized ones
pub match-near : (s x v : ℕ → ℤ) (k f b w n m : ℕ) → b + n ≤ m → ((i : ℕ) → i < n → x (b + i) ≡ cut_of k (s (b + i))) → ((i : ℕ) → i < n → v (w + i) ≡ cut_of k (s (f + i))) → unsigned_abs (correlation s s f b n -ℤ correlation x v b w n *ℤ pos (2 ^ k * 2 ^ k)) ≤ 2 ^ k / 2 * (magnitude s f n + magnitude s 0 m) + n * (2 ^ k / 2 * (2 ^ k / 2))
match-near s x v k f b w n m le hx hv =
    let h : ℕ = 2 ^ k / 2 in
    let p : ℤ = pos (2 ^ k) in
    let g : ℕ → ℤ = λ i. x (b + i) *ℤ v (w + i) in
    let near : unsigned_abs (signed_sum (λ i. s (f + i) *ℤ s (b + i)) n -ℤ signed_sum (λ i. g i *ℤ pos (2 ^ k * 2 ^ k)) n) ≤ sum_from (λ i. h * unsigned_abs (s (f + i)) + h * unsigned_abs (s (b + i)) + h * h) 0 n = signed_sum-near _ _ _ n each in
    let scaled : signed_sum (λ i. g i *ℤ pos (2 ^ k * 2 ^ k)) n ≡ signed_sum g n *ℤ pos (2 ^ k * 2 ^ k) = signed_sum-scaled g (pos (2 ^ k * 2 ^ k)) n in
    let error = sum_from-error s h f b n in
    let part : magnitude s b n ≤ magnitude s 0 m = magnitude-part s b n m le in
    let prod : h * magnitude s b n ≤ h * magnitude s 0 m = mul-le h (magnitude s b n) h (magnitude s 0 m) (omega arith) part in
    closing _ _ _ _ h (magnitude s f n) (magnitude s b n) (magnitude s 0 m) (n * (h * h)) near scaled error prod
  where
    each : (i : ℕ) → i < n → unsigned_abs (s (f + i) *ℤ s (b + i) -ℤ (x (b + i) *ℤ v (w + i)) *ℤ pos (2 ^ k * 2 ^ k)) ≤ 2 ^ k / 2 * unsigned_abs (s (f + i)) + 2 ^ k / 2 * unsigned_abs (s (b + i)) + 2 ^ k / 2 * (2 ^ k / 2)
    each i q =
        let cf : ℤ = cut_of k (s (f + i)) in
        let cb : ℤ = cut_of k (s (b + i)) in
        let near = near-product (s (f + i)) (s (b + i)) (cf *ℤ pos (2 ^ k)) (cb *ℤ pos (2 ^ k)) (2 ^ k / 2) (cut-near k (s (f + i))) (cut-near k (s (b + i))) in
        let e : (cf *ℤ pos (2 ^ k)) *ℤ (cb *ℤ pos (2 ^ k)) ≡ (x (b + i) *ℤ v (w + i)) *ℤ pos (2 ^ k * 2 ^ k) =
        scaled-product cf cb (pos (2 ^ k)) ∙ ap (λ z. z *ℤ (pos (2 ^ k) *ℤ pos (2 ^ k))) (*ℤ_comm cf cb ∙ ap (λ z. z *ℤ cf) (sym (hx i q)) ∙ ap (λ z. x (b + i) *ℤ z) (sym (hv i q))) in
        subst (λ z. unsigned_abs (s (f + i) *ℤ s (b + i) -ℤ z) ≤ 2 ^ k / 2 * unsigned_abs (s (f + i)) + 2 ^ k / 2 * unsigned_abs (s (b + i)) + 2 ^ k / 2 * (2 ^ k / 2)) e near

    closing : (a b c : ℤ) (m h u v w t : ℕ) → unsigned_abs (a -ℤ b) ≤ m → b ≡ c → m ≡ h * u + h * v + t → h * v ≤ h * w → unsigned_abs (a -ℤ c) ≤ h * (u + w) + t
    closing a b c m h u v w t p e f q = omega (arith, ints)

-- ---- sums that end in zeros, and that fit

zeros-signed_sum : (f : ℕ → ℤ) (n : ℕ) → ((i : ℕ) → i < n → f i ≡ pos 0) → signed_sum f n ≡ pos 0
unfolding signed_sum
zeros-signed_sum f zero h = refl
zeros-signed_sum f (suc n) h = omega (arith, ints, zeros-signed_sum f n (λ i p. h i (omega arith)), h n (omega arith))

pub signed_sum-ended : (f : ℕ → ℤ) (m n : ℕ) → n ≤ m → ((i : ℕ) → n ≤ i → i < m → f i ≡ pos 0) → signed_sum f m ≡ signed_sum f n
signed_sum-ended f m n h z =
    let e : n + (m - n) ≡ m = omega arith in
    sym (ap (signed_sum f) e) ∙ signed_sum-join f n (m - n) ∙ closing (signed_sum f n) (signed_sum (λ i. f (n + i)) (m - n)) (zeros-signed_sum (λ i. f (n + i)) (m - n) (λ i p. z (n + i) (omega arith) (omega arith)))
  where
    closing : (a b : ℤ) → b ≡ pos 0 → a +ℤ b ≡ a
    closing a b e = omega (arith, ints)

pub wrapped-exact : (s : ℕ → ℤ) (t w m n : ℕ) → n ≤ m → m ≤ 1024 → ((i : ℕ) → unsigned_abs (s i) ≤ 1448) → ((i : ℕ) → n ≤ i → i < m → s (w + i) ≡ pos 0) → int_wrap w32 (correlation s s t w m) ≡ correlation s s t w n
wrapped-exact s t w m n le most h z =
    let b : unsigned_abs (correlation s s t w m) ≤ m * (1448 * 1448) = signed_sum-le (λ i. s (t + i) *ℤ s (w + i)) (1448 * 1448) m (λ i. product_within (s (t + i)) (s (w + i)) 1448 1448 (h (t + i)) (h (w + i))) in
    let f : FitsSigned w32 (correlation s s t w m) = fits_signed_from_abs w32 _ (omega arith) in
    int_wrap_fits w32 (correlation s s t w m) f ∙ signed_sum-ended (λ i. s (t + i) *ℤ s (w + i)) m n le (λ i p q. ap (λ y. s (t + i) *ℤ y) (z i p q) ∙ *ℤ-zero (s (t + i)))

-- ---- gain_steps of the code

pub pow-most : (k : ℕ) → k ≤ 5 → 2 ^ k ≤ 32
pow-most k h = pow-le-pow_right {n = 2} (omega arith) h

pub record CutSteps (x h : ℤ) (k : ℕ) : Type 0 where
  pub wide : FitsSigned w32 x
  pub half : FitsSigned w32 h
  pub sum : FitsSigned w32 (x +ℤ h)
  pub shifted : FitsSigned w32 (int_shr (x +ℤ h) k)
  pub narrow : FitsSigned w16 (int_shr (x +ℤ h) k)
  pub size : unsigned_abs (int_shr (x +ℤ h) k) ≤ 1448

pub cut_steps : (x h : ℤ) (k : ℕ) → k ≤ 5 → h ≡ pos (2 ^ k / 2) → unsigned_abs x + 2 ^ k / 2 < 1448 * 2 ^ k → CutSteps x h k
cut_steps x h k le e b =
    let m : 2 ^ k ≤ 32 = pow-most k le in
    let hs : unsigned_abs h ≡ 2 ^ k / 2 = ap unsigned_abs e in
    let s : unsigned_abs (x +ℤ h) ≤ 1448 * 2 ^ k = within x h (2 ^ k / 2) (1448 * 2 ^ k) hs b in
    let t : unsigned_abs (int_shr (x +ℤ h) k) ≤ 1448 = shr_scaled (x +ℤ h) k 1448 s in
    record {
      wide = fits_signed_from_abs w32 _ (omega arith);
      half = fits_signed_from_abs w32 _ (omega arith);
      sum = fits_signed_from_abs w32 _ (omega arith);
      shifted = fits_signed_from_abs w32 _ (omega arith);
      narrow = fits_signed_from_abs w16 _ (omega arith);
      size = t;
    }
  where
    within : (x h : ℤ) (a m : ℕ) → unsigned_abs h ≡ a → unsigned_abs x + a < m → unsigned_abs (x +ℤ h) ≤ m
    within x h a m e l = omega (arith, ints)

pub record BoundSteps (x q s : ℤ) : Type 0 where
  pub number : FitsSigned w64 x
  pub factor : FitsSigned w64 q
  pub product : FitsSigned w64 (x *ℤ q)
  pub more : FitsSigned w64 s
  pub sum : FitsSigned w64 (x *ℤ q +ℤ s)
  pub size : unsigned_abs (x *ℤ q +ℤ s) < 2 ^ 43

pub bound_steps : (x q s : ℤ) → unsigned_abs x ≤ 2 ^ 31 → unsigned_abs q ≤ 2 ^ 10 → unsigned_abs s < 2 ^ 32 → BoundSteps x q s
bound_steps x q s a b c =
    let p : unsigned_abs (x *ℤ q) ≤ 2 ^ 31 * 2 ^ 10 = product_within x q (2 ^ 31) (2 ^ 10) a b in
    let t : unsigned_abs (x *ℤ q +ℤ s) < 2 ^ 43 = within (x *ℤ q) s p c in
    record {
      number = fits_signed_from_abs w64 _ (omega arith);
      factor = fits_signed_from_abs w64 _ (omega arith);
      product = fits_signed_from_abs w64 _ (omega arith);
      more = fits_signed_from_abs w64 _ (omega arith);
      sum = fits_signed_from_abs w64 _ (omega arith);
      size = t;
    }
  where
    within : (y z : ℤ) → unsigned_abs y ≤ 2 ^ 31 * 2 ^ 10 → unsigned_abs z < 2 ^ 32 → unsigned_abs (y +ℤ z) < 2 ^ 43
    within y z p q = omega (arith, ints)

pub positive_part-size : (z : ℤ) (n m : ℕ) → n ≡ positive_part z → unsigned_abs z < m → n < m
positive_part-size (pos k) n m e h = omega arith
positive_part-size (negsuc k) n m e h = omega arith

pub positive_part-pos : (z : ℤ) → lt_z (pos 0) z ≡ true → unsigned_abs z ≡ positive_part z
positive_part-pos (pos k) h = refl
positive_part-pos (negsuc k) h = absurd (false≢true h)

pub positive_part-none : (z : ℤ) → lt_z (pos 0) z ≡ false → 0 ≡ positive_part z
positive_part-none (pos k) h = omega (arith, ltb-false 0 k h)
positive_part-none (negsuc k) h = refl

pub fits-size : (z : ℤ) → FitsSigned w32 z → unsigned_abs z ≤ 2 ^ 31
fits-size (pos n) f =
    let p : n < 2 ^ 31 = f.sfits in
    omega arith
fits-size (negsuc n) f =
    let p : n < 2 ^ 31 = f.sfits in
    omega arith

pub near-over : (s x : ℕ → ℤ) (k n i : ℕ) (sum scale error : ℤ) → i < 1008 → scale ≡ pos (2 ^ k * 2 ^ k) → error ≡ pos (2 ^ k / 2 * (magnitude s 1022 n + magnitude s 0 (1022 + n)) + n * (2 ^ k / 2 * (2 ^ k / 2))) → sum ≡ correlation x x (1022 - (15 + i)) 2048 n → ((j : ℕ) → j < 1022 + n → x j ≡ cut_of k (s j)) → ((j : ℕ) → j < n → x (2048 + j) ≡ cut_of k (s (1022 + j))) → IsNear s n i sum scale error
near-over s x k n i sum scale error l e f g hx hv =
    let b : ℕ = 1022 - (15 + i) in
    let m = match-near s x x k 1022 b 2048 n (1022 + n) (omega arith) (λ j p. hx (b + j) (omega arith)) hv in
    let t : unsigned_abs (correlation s s 1022 b n -ℤ sum *ℤ scale) ≤ 2 ^ k / 2 * (magnitude s 1022 n + magnitude s 0 (1022 + n)) + n * (2 ^ k / 2 * (2 ^ k / 2)) =
    subst (λ z. unsigned_abs (correlation s s 1022 b n -ℤ sum *ℤ z) ≤ 2 ^ k / 2 * (magnitude s 1022 n + magnitude s 0 (1022 + n)) + n * (2 ^ k / 2 * (2 ^ k / 2))) (sym e)
    (subst (λ z. unsigned_abs (correlation s s 1022 b n -ℤ z *ℤ pos (2 ^ k * 2 ^ k)) ≤ 2 ^ k / 2 * (magnitude s 1022 n + magnitude s 0 (1022 + n)) + n * (2 ^ k / 2 * (2 ^ k / 2))) (sym g) m) in
    subst (λ z. unsigned_abs (correlation s s 1022 b n -ℤ sum *ℤ scale) ≤ unsigned_abs z) (sym f) t

-- an upper bound from an estimate
pub bound-over : (c a error : ℤ) → pos 0 ≤ℤ error → unsigned_abs (c -ℤ a) ≤ unsigned_abs error → positive_part c ≤ positive_part (a +ℤ error)
bound-over c a error p h = positive_part-le c (a +ℤ error) (closing c a error p h)
  where
    closing : (c a error : ℤ) → pos 0 ≤ℤ error → unsigned_abs (c -ℤ a) ≤ unsigned_abs error → c ≤ℤ (a +ℤ error)
    closing c a error p h = omega (arith, ints)

-- a number from an estimate and what it is modulo 2^32
pub low-difference : (sum scale low : ℤ) → FitsSigned w32 sum → FitsSigned w32 scale → FitsSigned w32 low → to_z w32 ((of_z w32 low + (2 ^ 32 - of_z w32 sum * of_z w32 scale % 2 ^ 32)) % 2 ^ 32) ≡ int_wrap w32 (low -ℤ sum *ℤ scale)
low-difference sum scale low fs fq fl =
    let p : ℕ = of_z w32 sum * of_z w32 scale % 2 ^ 32 in
    let m : to_z w32 p ≡ int_wrap w32 (sum *ℤ scale) = times-is sum scale fs fq in
    wrapping_sub-bits w32 (of_z w32 low) p (laws.of_z_fits w32 low fl).fits (mod-lt (of_z w32 sum * of_z w32 scale) (omega arith)) ∙ ap (λ z. int_wrap w32 (z -ℤ to_z w32 p)) (to_z-of_z w32 low fl) ∙ ap (λ z. int_wrap w32 (low -ℤ z)) m ∙ int_wrap-sub_right w32 low (sum *ℤ scale)

pub wrapped-difference : (a low c : ℤ) → low ≡ int_wrap w32 c → unsigned_abs (c -ℤ a) < 2 ^ 31 → int_wrap w32 (low -ℤ a) ≡ c -ℤ a
wrapped-difference a low c e h =
    let f : FitsSigned w32 (c -ℤ a) = fits_signed_from_abs w32 _ (omega arith) in
    ap (λ z. int_wrap w32 (z -ℤ a)) e ∙ ap (int_wrap w32) (turned (int_wrap w32 c) a) ∙ int_wrap-add_left w32 c (neg_ℤ a) ∙ ap (int_wrap w32) (sym (turned c a)) ∙ int_wrap_fits w32 (c -ℤ a) f
  where
    turned : (x y : ℤ) → x -ℤ y ≡ x +ℤ neg_ℤ y
    turned x y = omega (arith, ints)

pub back-again : (a z : ℤ) → a +ℤ (z -ℤ a) ≡ z
back-again a z = omega (arith, ints)

pub fits-short : (z : ℤ) → FitsSigned w16 z → unsigned_abs z ≤ 2 ^ 15
fits-short (pos n) f =
    let p : n < 2 ^ 15 = f.sfits in
    omega arith
fits-short (negsuc n) f =
    let p : n < 2 ^ 15 = f.sfits in
    omega arith
