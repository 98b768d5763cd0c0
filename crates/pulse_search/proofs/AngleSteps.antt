-- The quarter's cosines never rise, by evaluation; so the angles under a ratio are the first ones, and the
-- greatest is found by halving.
use Rattle.std.proofs.Common.{◌≡◌, ℕ, zero, suc, ◌+◌, ◌-◌, ◌*◌, ◌^◌, ◌<◌, ◌≤◌, refl, sym, ap, subst, inl, inr, arith, ◌∙◌, Bool, true, false, ◌&&◌}
use Rattle.std.specs.Prelude.{nat_le, nat_eq, ℤ, pos, negsuc, ◌*ℤ◌, ◌≤ℤ◌, ◌<ℤ◌, unsigned_abs, int_le, FitsSigned}
use Rattle.std.specs.Int.{w64, cast_signed as to_z, cast_unsigned as of_z}
use Rattle.std.proofs.lemmas.Int.{ints, fits_signed_from_abs, fits_signed_mul, to_z-of_z, to_z_pos}
use Rattle.std.proofs.lemmas.Nat.{mul-le}
use Rattle.std.proofs.lemmas.Bool.{cases_lt, cases_Bool, and_parts, leb-true, le-leb, cond-true, cond-false, ne_eqb}
use Rattle.fixed_math.specs.declared.circle.Point.{Point}
use Rattle.fixed_math.specs.Search.{greatest}
use Rattle.fixed_math.specs.Circle.{start, point_by, narrowed, quarter_cosine, cosine, sine}
use Rattle.fixed_math.proofs.AngleLemmas.{at, next, quarter_cosine-at, quarter_low, cosine_first, sine_first, sine-zero}
use Rattle.fixed_math.proofs.SearchLemmas.{greatest-found, greatest-above}
use Rattle.pulse_search.specs.Angles.{is_under, angle_of, IsAngle}

-- ---- the quarter's cosines never rise

unfoldable falling : ℕ → Point → Bool
falling zero p = true
falling (suc n) p = int_le (narrowed (next p).x) (narrowed p.x) && falling n (next p)

quarter_falls : falling 3840 start ≡ true
unfolding falling next
quarter_falls = refl

next-at : (a : ℕ) → next (at a) ≡ at (suc a)
unfolding next at point_by
next-at a = refl

at-start : at 0 ≡ start
unfolding at point_by
at-start = refl

falls_at : (n j k : ℕ) → falling n (at j) ≡ true → k < n → int_le (narrowed (at (suc (j + k))).x) (narrowed (at (j + k)).x) ≡ true
unfolding falling
falls_at zero j k h p = absurd (omega arith)
falls_at (suc n) j zero h p =
    let e : j ≡ j + 0 = omega arith in
    let d : int_le (narrowed (next (at j)).x) (narrowed (at j).x) ≡ true = (and_parts (int_le (narrowed (next (at j)).x) (narrowed (at j).x)) (falling n (next (at j))) h).0 in
    subst (λ i. int_le (narrowed (at (suc i)).x) (narrowed (at i).x) ≡ true) e (subst (λ q. int_le (narrowed q.x) (narrowed (at j).x) ≡ true) (next-at j) d)
falls_at (suc n) j (suc k) h p =
    let e : suc j + k ≡ j + suc k = omega arith in
    let rest = (and_parts (int_le (narrowed (next (at j)).x) (narrowed (at j).x)) (falling n (next (at j))) h).1 in
    subst (λ i. int_le (narrowed (at (suc i)).x) (narrowed (at i).x) ≡ true) e (falls_at n (suc j) k (subst (λ q. falling n q ≡ true) (next-at j) rest) (omega arith))

-- a quarter's cosine as a number
unfoldable pub size_at : ℕ → ℕ
size_at a = unsigned_abs (quarter_cosine a)

not_below : (z : ℤ) → pos 0 ≤ℤ z → z ≡ pos (unsigned_abs z)
not_below (pos n) h = refl
not_below (negsuc n) h = absurd (omega (arith, ints))

pub size_at-is : (a : ℕ) → a ≤ 3840 → quarter_cosine a ≡ pos (size_at a)
unfolding size_at
size_at-is a h = not_below (quarter_cosine a) (quarter_low a h)

size_falls : (a : ℕ) → a < 3840 → size_at (suc a) ≤ size_at a
size_falls a h =
    let t : int_le (narrowed (at (suc (0 + a))).x) (narrowed (at (0 + a)).x) ≡ true = falls_at 3840 0 a (subst (λ p. falling 3840 p ≡ true) (sym at-start) quarter_falls) h in
    let e : 0 + a ≡ a = omega arith in
    let u : int_le (narrowed (at (suc a)).x) (narrowed (at a).x) ≡ true = subst (λ i. int_le (narrowed (at (suc i)).x) (narrowed (at i).x) ≡ true) e t in
    let x = sym (quarter_cosine-at (suc a)) ∙ size_at-is (suc a) (omega arith) in
    let y = sym (quarter_cosine-at a) ∙ size_at-is a (omega arith) in
    let v : int_le (pos (size_at (suc a))) (pos (size_at a)) ≡ true = subst (λ z. int_le (pos (size_at (suc a))) z ≡ true) y (subst (λ z. int_le z (narrowed (at a).x) ≡ true) x u) in
    leb-true (size_at (suc a)) (size_at a) v

size_over : (a d : ℕ) → a + d ≤ 3840 → size_at (a + d) ≤ size_at a
size_over a zero h =
    let e : a ≡ a + 0 = omega arith in
    subst (λ i. size_at i ≤ size_at a) e (omega arith)
size_over a (suc d) h =
    let e : suc (a + d) ≡ a + suc d = omega arith in
    let p : size_at (suc (a + d)) ≤ size_at (a + d) = size_falls (a + d) (omega arith) in
    let q : size_at (a + d) ≤ size_at a = size_over a d (omega arith) in
    subst (λ i. size_at i ≤ size_at a) e (omega arith)

pub size_order : (a b : ℕ) → a ≤ b → b ≤ 3840 → size_at b ≤ size_at a
size_order a b h l =
    let e : a + (b - a) ≡ b = omega arith in
    subst (λ i. size_at i ≤ size_at a) e (size_over a (b - a) (omega arith))

-- ---- the angles under a ratio are the first ones

pub under-is : (m s a : ℕ) → a ≤ 3840 → is_under m s a ≡ nat_le (size_at (3840 - a) * m) (size_at a * s)
under-is m s a h =
    let x : sine a ≡ pos (size_at (3840 - a)) = sine_first a h ∙ size_at-is (3840 - a) (omega arith) in
    let y : cosine a ≡ pos (size_at a) = cosine_first a h ∙ size_at-is a h in
    ap (λ z. int_le (z *ℤ pos m) (cosine a *ℤ pos s)) x ∙ ap (λ z. int_le (pos (size_at (3840 - a)) *ℤ pos m) (z *ℤ pos s)) y

under_from : (m s a : ℕ) → a ≤ 3840 → size_at (3840 - a) * m ≤ size_at a * s → is_under m s a ≡ true
under_from m s a h p = under-is m s a h ∙ le-leb (size_at (3840 - a) * m) (size_at a * s) p

under_to : (m s a : ℕ) → a ≤ 3840 → is_under m s a ≡ true → size_at (3840 - a) * m ≤ size_at a * s
under_to m s a h p = leb-true (size_at (3840 - a) * m) (size_at a * s) (sym (under-is m s a h) ∙ p)

-- an earlier angle is under a ratio that is not smaller
pub under_earlier : (m n s t a b : ℕ) → n ≤ m → s ≤ t → a ≤ b → b ≤ 3840 → is_under m s b ≡ true → is_under n t a ≡ true
under_earlier m n s t a b p q o h u =
    let x : size_at (3840 - a) * n ≤ size_at (3840 - b) * m = mul-le (size_at (3840 - a)) n (size_at (3840 - b)) m (size_order (3840 - b) (3840 - a) (omega arith) (omega arith)) p in
    let y : size_at b * s ≤ size_at a * t = mul-le (size_at b) s (size_at a) t (size_order a b o h) q in
    let z : size_at (3840 - b) * m ≤ size_at b * s = under_to m s b h u in
    under_from n t a (omega arith) (omega arith)

pub over_later : (m s a b : ℕ) → a ≤ b → b ≤ 3840 → is_under m s a ≡ false → is_under m s b ≡ false
over_later m s a b o h u =
    elim (cases_Bool (is_under m s b)) [
      | inl e ↦
          let d : is_under m s a ≡ true = under_earlier m m s s a b (omega arith) (omega arith) o h e in
          absurd (cc)
      | inr e ↦ e
    ]

size_end : size_at 3840 ≡ 0
size_end = same_number (size_at 3840) 0 (sym (sine_first 0 (omega arith) ∙ size_at-is 3840 (omega arith)) ∙ sine-zero)
  where
    same_number : (a b : ℕ) → pos a ≡ pos b → a ≡ b
    same_number a b e = ap unsigned_abs e

pub under_start : (m s : ℕ) → is_under m s 0 ≡ true
under_start m s =
    let e : size_at 3840 * m ≡ 0 * m = ap (λ k. k * m) size_end in
    under_from m s 0 (omega arith) (omega arith)

-- ---- the greatest of them

greatest_inside : (t : ℕ → Bool) (n : ℕ) → greatest t (suc n) ≤ n
unfolding greatest
greatest_inside t zero =
    elim (cases_Bool (t 0)) [
      | inl e ↦ let d : greatest t 1 ≡ 0 = cond-true (t 0) 0 (greatest t 0) e in omega arith
      | inr e ↦ let d : greatest t 1 ≡ 0 = cond-false (t 0) 0 (greatest t 0) e in omega arith
    ]
greatest_inside t (suc n) =
    elim (cases_Bool (t (suc n))) [
      | inl e ↦ let d : greatest t (suc (suc n)) ≡ suc n = cond-true (t (suc n)) (suc n) (greatest t (suc n)) e in omega arith
      | inr e ↦ let d : greatest t (suc (suc n)) ≡ greatest t (suc n) = cond-false (t (suc n)) (suc n) (greatest t (suc n)) e in omega (arith, greatest_inside t n)
    ]

pub angle-some : (m s : ℕ) → 0 < m + s → angle_of m s ≡ greatest (is_under m s) 3841
unfolding angle_of
angle-some m s h = cond-false (nat_eq (m + s) 0) 0 (greatest (is_under m s) 3841) (ne_eqb (m + s) 0 (λ e. omega arith))

pub angle-none : angle_of 0 0 ≡ 0
unfolding angle_of
angle-none = refl

under_greatest : (m s : ℕ) → is_under m s (greatest (is_under m s) 3841) ≡ true
under_greatest m s = greatest-found (is_under m s) 3841 0 (omega arith) (under_start m s)

-- what the halvings find is the greatest
pub angle-found : (m s a : ℕ) → 0 < m + s → a ≤ 3840 → is_under m s a ≡ true → ((b : ℕ) → a < b → b ≤ 3840 → is_under m s b ≡ false) → a ≡ angle_of m s
angle-found m s a h p u over = same (greatest (is_under m s) 3841) (under_greatest m s) (greatest_inside (is_under m s) 3840) (λ g. greatest-above (is_under m s) 3841 a g (omega arith)) ∙ sym (angle-some m s h)
  where
    same : (g : ℕ) → is_under m s g ≡ true → g ≤ 3840 → (g < a → is_under m s a ≡ false) → a ≡ g
    same g v i past =
        elim (cases_lt g a) [
          | inl q ↦ let d : is_under m s a ≡ false = past q in absurd (cc)
          | inr q ↦
              elim (cases_lt a g) [
                | inl r ↦ let d : is_under m s g ≡ false = over g r i in absurd (cc)
                | inr r ↦ omega arith
              ]
        ]

-- ---- the laws

int_le-true : (x y : ℤ) → int_le x y ≡ true → x ≤ℤ y
int_le-true x y h = omega (arith, ints)

int_le-false : (x y : ℤ) → int_le x y ≡ false → y <ℤ x
int_le-false x y h = omega (arith, ints)

pub angle-is : (m s : ℕ) → 0 < m + s → IsAngle m s (angle_of m s)
angle-is m s h = subst (IsAngle m s) (sym (angle-some m s h)) (record {
  quarter = greatest_inside (is_under m s) 3840;
  within = int_le-true (sine (greatest (is_under m s) 3841) *ℤ pos m) (cosine (greatest (is_under m s) 3841) *ℤ pos s) (under_greatest m s);
  last = λ b p q. int_le-false (sine b *ℤ pos m) (cosine b *ℤ pos s) (greatest-above (is_under m s) 3841 b p (omega arith));
})

greatest_order : (m n s t : ℕ) → n ≤ m → s ≤ t → greatest (is_under m s) 3841 ≤ greatest (is_under n t) 3841
greatest_order m n s t p q = ordered (greatest (is_under m s) 3841) (greatest (is_under n t) 3841) (greatest_inside (is_under m s) 3840) (under_greatest m s) (λ g i. greatest-above (is_under n t) 3841 (greatest (is_under m s) 3841) g i)
  where
    ordered : (g h : ℕ) → g ≤ 3840 → is_under m s g ≡ true → (h < g → g < 3841 → is_under n t g ≡ false) → g ≤ h
    ordered g h i u past =
        elim (cases_lt h g) [
          | inl r ↦
              let d : is_under n t g ≡ false = past r (omega arith) in
              let e : is_under n t g ≡ true = under_earlier m n s t g g p q (omega arith) i u in
              absurd (cc)
          | inr r ↦ r
        ]

-- with no s the angle is 0: the first sine after it is above 0
last_cosine : unsigned_abs (narrowed (at 3839).x) ≡ 13
unfolding at point_by
last_cosine = refl

sine_one : size_at 3839 ≡ 13
sine_one = ap unsigned_abs (sym (size_at-is 3839 (omega arith)) ∙ quarter_cosine-at 3839) ∙ last_cosine

pub angle-flat : (m : ℕ) → angle_of m 0 ≡ 0
angle-flat zero = angle-none
angle-flat (suc m) = angle-some (suc m) 0 (omega arith) ∙ flat (greatest (is_under (suc m) 0) 3841) (under_greatest (suc m) 0) (greatest_inside (is_under (suc m) 0) 3840)
  where
    flat : (g : ℕ) → is_under (suc m) 0 g ≡ true → g ≤ 3840 → g ≡ 0
    flat zero u i = refl
    flat (suc g) u i =
        let v : is_under (suc m) 0 1 ≡ true = under_earlier (suc m) (suc m) 0 0 1 (suc g) (omega arith) (omega arith) (omega arith) i u in
        let w : size_at 3839 * suc m ≤ size_at 1 * 0 = under_to (suc m) 0 1 (omega arith) v in
        let e : size_at 3839 * suc m ≡ 13 * suc m = ap (λ k. k * suc m) sine_one in
        absurd (omega arith)

pub angle_order : (m n s t : ℕ) → n ≤ m → s ≤ t → angle_of m s ≤ angle_of n t
angle_order m n zero t p q = omega (arith, angle-flat m)
angle_order m n (suc s) zero p q = absurd (omega arith)
angle_order m n (suc s) (suc t) p q =
    let x : angle_of m (suc s) ≡ greatest (is_under m (suc s)) 3841 = angle-some m (suc s) (omega arith) in
    let y : angle_of n (suc t) ≡ greatest (is_under n (suc t)) 3841 = angle-some n (suc t) (omega arith) in
    omega (arith, greatest_order m n (suc s) (suc t) p q)

-- ---- the code's products

pub product-kept : (x : ℤ) (m : ℕ) → unsigned_abs x ≤ 2 ^ 15 → m < 2 ^ 48 → to_z w64 (of_z w64 (to_z w64 (of_z w64 x) *ℤ to_z w64 m)) ≡ x *ℤ pos m
product-kept x m h l =
    let f : FitsSigned w64 x = fits_signed_from_abs w64 x (omega arith) in
    let g : FitsSigned w64 (x *ℤ pos m) = fits_signed_mul w64 x (pos m) (2 ^ 15) (2 ^ 48 - 1) h (omega arith) (omega arith) in
    ap (λ z. to_z w64 (of_z w64 (z *ℤ to_z w64 m))) (to_z-of_z w64 x f) ∙ ap (λ z. to_z w64 (of_z w64 (x *ℤ z))) (to_z_pos w64 m (omega arith)) ∙ to_z-of_z w64 (x *ℤ pos m) g

pub comparison-kept : (x y u v : ℤ) (m s : ℕ) → unsigned_abs x ≤ 2 ^ 15 → unsigned_abs y ≤ 2 ^ 15 → m < 2 ^ 48 → s < 2 ^ 48 → x ≡ u → y ≡ v → int_le (to_z w64 (of_z w64 (to_z w64 (of_z w64 x) *ℤ to_z w64 m))) (to_z w64 (of_z w64 (to_z w64 (of_z w64 y) *ℤ to_z w64 s))) ≡ int_le (u *ℤ pos m) (v *ℤ pos s)
comparison-kept x y u v m s a b h l p q =
    let e : to_z w64 (of_z w64 (to_z w64 (of_z w64 x) *ℤ to_z w64 m)) ≡ u *ℤ pos m = product-kept x m a h ∙ ap (λ z. z *ℤ pos m) p in
    let d : to_z w64 (of_z w64 (to_z w64 (of_z w64 y) *ℤ to_z w64 s)) ≡ v *ℤ pos s = product-kept y s b l ∙ ap (λ z. z *ℤ pos s) q in
    ap (λ z. int_le z (to_z w64 (of_z w64 (to_z w64 (of_z w64 y) *ℤ to_z w64 s)))) e ∙ ap (λ z. int_le (u *ℤ pos m) z) d
