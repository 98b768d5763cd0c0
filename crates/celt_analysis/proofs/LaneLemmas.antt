-- Eight lanes written out, and sums of products of them.
use mir.ValLaws as laws
use Rattle.std.proofs.Common.{◌≡◌, ℕ, zero, suc, ◌+◌, ◌*◌, ◌%◌, ◌^◌, ◌<◌, ◌≤◌, refl, sym, ap, arith, ◌∙◌, List, [], ◌∷◌, length, get_or}
use Rattle.std.specs.Prelude.{ℤ, pos, negsuc, ◌+ℤ◌, ◌*ℤ◌, take, drop, FitsSigned}
use Rattle.std.specs.Int.{w16, w32, int_wrap, cast_signed as to_z, cast_unsigned as of_z}
use Rattle.std.proofs.lemmas.Int.{ints, to_z-of_z, of_z-to_z, wrapping_add-bits, wrapping_add_is, wrapping_mul_is, int_wrap-add_left, int_wrap-add_right, SFits-int_wrap}
use Rattle.std.proofs.lemmas.List.{drop_more}
use Rattle.std.proofs.Math.Nat.{mod-lt}
use Rattle.fixed_math.specs.Items.{item}
use Rattle.celt_analysis.specs.Lanes.{pair_at, in_lanes, pairs}
use Rattle.celt_analysis.specs.Sums.{signed_sum, correlation}
use Rattle.celt_analysis.proofs.SumLemmas.{signed_sum-none, signed_sum-more, correlation-join}

-- n items from place i on
abbrev pub row : List ℤ → ℕ → ℕ → List ℤ
row xs i zero = []
row xs i (suc n) = get_or xs i (pos 0) ∷ row xs (i + 1) n

pub row-is : (xs : List ℤ) (i n : ℕ) → i + n ≤ length xs → take n (drop i xs) ≡ row xs i n
row-is xs i zero h = none (drop i xs)
  where
    none : (ys : List ℤ) → take 0 ys ≡ []
    none [] = refl
    none (y ∷ ys) = refl
row-is xs i (suc n) h = ap (take (suc n)) (drop_more xs i (pos 0) (omega arith)) ∙ ap (λ ys. get_or xs i (pos 0) ∷ ys) (row-is xs (i + 1) n (omega arith))

-- a sum that wraps on the way
pub step : (a b : ℕ) (s t : ℤ) → a < 2 ^ 32 → b < 2 ^ 32 → to_z w32 a ≡ int_wrap w32 s → to_z w32 b ≡ int_wrap w32 t → to_z w32 ((a + b) % 2 ^ 32) ≡ int_wrap w32 (s +ℤ t)
step a b s t p q e f = wrapping_add-bits w32 a b p q ∙ ap (λ z. int_wrap w32 (z +ℤ to_z w32 b)) e ∙ ap (λ z. int_wrap w32 (int_wrap w32 s +ℤ z)) f ∙ int_wrap-add_left w32 s (int_wrap w32 t) ∙ int_wrap-add_right w32 s t

-- a product that wraps
abbrev pub times : ℤ → ℤ → ℕ
times x y = of_z w32 x * of_z w32 y % 2 ^ 32

pub times-is : (x y : ℤ) → FitsSigned w32 x → FitsSigned w32 y → to_z w32 (times x y) ≡ int_wrap w32 (x *ℤ y)
times-is x y f g = wrapping_mul_is w32 x y f g

below : (n : ℕ) → n % 2 ^ 32 < 2 ^ 32
below n = mod-lt n (omega arith)

wrap-none : pos 0 ≡ int_wrap w32 (pos 0)
unfolding int_wrap
wrap-none = refl

pub pair-is : (x y z w : ℤ) → FitsSigned w32 x → FitsSigned w32 y → FitsSigned w32 z → FitsSigned w32 w → to_z w32 ((times x y + times z w) % 2 ^ 32) ≡ int_wrap w32 (x *ℤ y +ℤ z *ℤ w)
pair-is x y z w f g h k = step (times x y) (times z w) (x *ℤ y) (z *ℤ w) (below (of_z w32 x * of_z w32 y)) (below (of_z w32 z * of_z w32 w)) (times-is x y f g) (times-is z w h k)

pub four-is : (a b c d : ℕ) (s t u v : ℤ) → a < 2 ^ 32 → b < 2 ^ 32 → c < 2 ^ 32 → d < 2 ^ 32 → to_z w32 a ≡ int_wrap w32 s → to_z w32 b ≡ int_wrap w32 t → to_z w32 c ≡ int_wrap w32 u → to_z w32 d ≡ int_wrap w32 v → to_z w32 (((((((0 + a) % 2 ^ 32) + b) % 2 ^ 32) + c) % 2 ^ 32 + d) % 2 ^ 32) ≡ int_wrap w32 ((((pos 0 +ℤ s) +ℤ t) +ℤ u) +ℤ v)
four-is a b c d s t u v pa pb pc pd ea eb ec ed =
    let a1 = step 0 a (pos 0) s (omega arith) pa wrap-none ea in
    let a2 = step ((0 + a) % 2 ^ 32) b (pos 0 +ℤ s) t (below (0 + a)) pb a1 eb in
    let a3 = step (((0 + a) % 2 ^ 32 + b) % 2 ^ 32) c ((pos 0 +ℤ s) +ℤ t) u (below ((0 + a) % 2 ^ 32 + b)) pc a2 ec in
    step ((((0 + a) % 2 ^ 32 + b) % 2 ^ 32 + c) % 2 ^ 32) d (((pos 0 +ℤ s) +ℤ t) +ℤ u) v (below (((0 + a) % 2 ^ 32 + b) % 2 ^ 32 + c)) pd a3 ed

pub four-lanes : {A : Type 0} {a b c d x y z w : A} → a ≡ x → b ≡ y → c ≡ z → d ≡ w → (a ∷ b ∷ c ∷ d ∷ []) ≡ (x ∷ y ∷ z ∷ w ∷ [])
four-lanes p q r s = λ i. p i ∷ q i ∷ r i ∷ s i ∷ []

pub wider : (z : ℤ) → FitsSigned w16 z → FitsSigned w32 z
wider (pos n) f =
    let p : n < 2 ^ 15 = f.sfits in
    record { sfits = omega arith }
wider (negsuc n) f =
    let p : n < 2 ^ 15 = f.sfits in
    record { sfits = omega arith }

-- the pairs with their places written as those of a row
pub pairs-row : (u : List ℤ) (i j : ℕ) → pairs (item u) i j ≡ in_lanes (get_or u i (pos 0) *ℤ get_or u j (pos 0) +ℤ get_or u (i + 1) (pos 0) *ℤ get_or u (j + 1) (pos 0)) (get_or u (i + 1 + 1) (pos 0) *ℤ get_or u (j + 1 + 1) (pos 0) +ℤ get_or u (i + 1 + 1 + 1) (pos 0) *ℤ get_or u (j + 1 + 1 + 1) (pos 0)) (get_or u (i + 1 + 1 + 1 + 1) (pos 0) *ℤ get_or u (j + 1 + 1 + 1 + 1) (pos 0) +ℤ get_or u (i + 1 + 1 + 1 + 1 + 1) (pos 0) *ℤ get_or u (j + 1 + 1 + 1 + 1 + 1) (pos 0)) (get_or u (i + 1 + 1 + 1 + 1 + 1 + 1) (pos 0) *ℤ get_or u (j + 1 + 1 + 1 + 1 + 1 + 1) (pos 0) +ℤ get_or u (i + 1 + 1 + 1 + 1 + 1 + 1 + 1) (pos 0) *ℤ get_or u (j + 1 + 1 + 1 + 1 + 1 + 1 + 1) (pos 0))
pairs-row u i j =
    let e2 : i + 2 ≡ i + 1 + 1 = omega arith in
    let e4 : i + 4 ≡ i + 1 + 1 + 1 + 1 = omega arith in
    let e6 : i + 6 ≡ i + 1 + 1 + 1 + 1 + 1 + 1 = omega arith in
    let d2 : j + 2 ≡ j + 1 + 1 = omega arith in
    let d4 : j + 4 ≡ j + 1 + 1 + 1 + 1 = omega arith in
    let d6 : j + 6 ≡ j + 1 + 1 + 1 + 1 + 1 + 1 = omega arith in
    rw e2 (rw e4 (rw e6 (rw d2 (rw d4 (rw d6 refl)))))

-- ---- sums in lanes, by their bits

-- the products at the same places of n eights
abbrev pub pair_sum : (ℕ → ℤ) → ℕ → ℕ → ℕ → ℤ
pair_sum s i j n = signed_sum (λ k. pair_at s (i + 8 * k) (j + 8 * k)) n

abbrev pub bits_in : ℤ → ℕ
bits_in a = of_z w32 (int_wrap w32 a)

abbrev pub lane_bits : (ℕ → ℤ) → ℕ → ℕ → ℕ → List ℕ
lane_bits s i j n = bits_in (pair_sum s i j n) ∷ bits_in (pair_sum s (i + 2) (j + 2) n) ∷ bits_in (pair_sum s (i + 4) (j + 4) n) ∷ bits_in (pair_sum s (i + 6) (j + 6) n) ∷ []

pub lanes-none : (s : ℕ → ℤ) (i j : ℕ) → (0 ∷ 0 ∷ 0 ∷ 0 ∷ []) ≡ lane_bits s i j 0
lanes-none s i j = four-lanes (none i j) (none (i + 2) (j + 2)) (none (i + 4) (j + 4)) (none (i + 6) (j + 6))
  where
    none : (a b : ℕ) → 0 ≡ bits_in (pair_sum s a b 0)
    none a b = ap (of_z w32) wrap-none ∙ ap bits_in (sym (signed_sum-none (λ k. pair_at s (a + 8 * k) (b + 8 * k))))

bits-sum : (a b : ℤ) → (bits_in a + bits_in b) % 2 ^ 32 ≡ bits_in (a +ℤ b)
bits-sum a b = sym (of_z-to_z w32 ((bits_in a + bits_in b) % 2 ^ 32) (below (bits_in a + bits_in b))) ∙ ap (of_z w32) (wrapping_add_is w32 (int_wrap w32 a) (int_wrap w32 b) (SFits-int_wrap w32 a) (SFits-int_wrap w32 b) ∙ int_wrap-add_left w32 a (int_wrap w32 b) ∙ int_wrap-add_right w32 a b)

pub lanes-more : (s : ℕ → ℤ) (i j k : ℕ) → ((bits_in (pair_sum s i j k) + bits_in (pair_at s (i + 8 * k) (j + 8 * k))) % 2 ^ 32 ∷ (bits_in (pair_sum s (i + 2) (j + 2) k) + bits_in (pair_at s (i + 8 * k + 2) (j + 8 * k + 2))) % 2 ^ 32 ∷ (bits_in (pair_sum s (i + 4) (j + 4) k) + bits_in (pair_at s (i + 8 * k + 4) (j + 8 * k + 4))) % 2 ^ 32 ∷ (bits_in (pair_sum s (i + 6) (j + 6) k) + bits_in (pair_at s (i + 8 * k + 6) (j + 8 * k + 6))) % 2 ^ 32 ∷ []) ≡ lane_bits s i j (k + 1)
lanes-more s i j k = four-lanes (more i j (i + 8 * k) (j + 8 * k) refl refl) (more (i + 2) (j + 2) (i + 8 * k + 2) (j + 8 * k + 2) (omega arith) (omega arith)) (more (i + 4) (j + 4) (i + 8 * k + 4) (j + 8 * k + 4) (omega arith) (omega arith)) (more (i + 6) (j + 6) (i + 8 * k + 6) (j + 8 * k + 6) (omega arith) (omega arith))
  where
    more : (a b x y : ℕ) → x ≡ a + 8 * k → y ≡ b + 8 * k → (bits_in (pair_sum s a b k) + bits_in (pair_at s x y)) % 2 ^ 32 ≡ bits_in (pair_sum s a b (k + 1))
    more a b x y p q = bits-sum (pair_sum s a b k) (pair_at s x y) ∙ ap bits_in (ap (λ m. pair_sum s a b k +ℤ pair_at s m y) p ∙ ap (λ m. pair_sum s a b k +ℤ pair_at s (a + 8 * k) m) q ∙ sym (signed_sum-more (λ m. pair_at s (a + 8 * m) (b + 8 * m)) k))

-- the pairs of n eights are all of their products
eight-pairs : (s : ℕ → ℤ) (i j : ℕ) → correlation s s i j 8 ≡ ((pair_at s i j +ℤ pair_at s (i + 2) (j + 2)) +ℤ pair_at s (i + 4) (j + 4)) +ℤ pair_at s (i + 6) (j + 6)
unfolding signed_sum
eight-pairs s i j =
    let e0 : i + 0 ≡ i = omega arith in
    let e3 : i + 2 + 1 ≡ i + 3 = omega arith in
    let e5 : i + 4 + 1 ≡ i + 5 = omega arith in
    let e7 : i + 6 + 1 ≡ i + 7 = omega arith in
    let d0 : j + 0 ≡ j = omega arith in
    let d3 : j + 2 + 1 ≡ j + 3 = omega arith in
    let d5 : j + 4 + 1 ≡ j + 5 = omega arith in
    let d7 : j + 6 + 1 ≡ j + 7 = omega arith in
    rw e0 (rw e3 (rw e5 (rw e7 (rw d0 (rw d3 (rw d5 (rw d7 (regrouped (s i *ℤ s j) (s (i + 1) *ℤ s (j + 1)) (s (i + 2) *ℤ s (j + 2)) (s (i + 3) *ℤ s (j + 3)) (s (i + 4) *ℤ s (j + 4)) (s (i + 5) *ℤ s (j + 5)) (s (i + 6) *ℤ s (j + 6)) (s (i + 7) *ℤ s (j + 7))))))))))
  where
    regrouped : (a b c d e f g h : ℤ) → (((((((pos 0 +ℤ a) +ℤ b) +ℤ c) +ℤ d) +ℤ e) +ℤ f) +ℤ g) +ℤ h ≡ (((a +ℤ b) +ℤ (c +ℤ d)) +ℤ (e +ℤ f)) +ℤ (g +ℤ h)
    regrouped a b c d e f g h = omega (arith, ints)

pairs-all : (s : ℕ → ℤ) (i j n : ℕ) → (((pos 0 +ℤ pair_sum s i j n) +ℤ pair_sum s (i + 2) (j + 2) n) +ℤ pair_sum s (i + 4) (j + 4) n) +ℤ pair_sum s (i + 6) (j + 6) n ≡ correlation s s i j (8 * n)
unfolding signed_sum
pairs-all s i j zero = refl
pairs-all s i j (suc n) =
    let e : 8 * n + 8 ≡ 8 * suc n = omega arith in
    let t : correlation s s i j (8 * suc n) ≡ correlation s s i j (8 * n) +ℤ correlation s s (i + 8 * n) (j + 8 * n) 8 = sym (ap (correlation s s i j) e) ∙ correlation-join s s i j (8 * n) 8 in
    closing (pair_sum s i j n) (pair_sum s (i + 2) (j + 2) n) (pair_sum s (i + 4) (j + 4) n) (pair_sum s (i + 6) (j + 6) n) (pair_at s (i + 8 * n) (j + 8 * n)) (pair_at s (i + 2 + 8 * n) (j + 2 + 8 * n)) (pair_at s (i + 4 + 8 * n) (j + 4 + 8 * n)) (pair_at s (i + 6 + 8 * n) (j + 6 + 8 * n)) (correlation s s i j (8 * n)) (correlation s s (i + 8 * n) (j + 8 * n) 8) (correlation s s i j (8 * suc n)) (pairs-all s i j n) (eight-pairs s (i + 8 * n) (j + 8 * n) ∙ moved) t
  where
    at : (a b x y : ℕ) → x ≡ a → y ≡ b → pair_at s x y ≡ pair_at s a b
    at a b x y p q = ap (λ m. pair_at s m y) p ∙ ap (pair_at s a) q

    moved : ((pair_at s (i + 8 * n) (j + 8 * n) +ℤ pair_at s (i + 8 * n + 2) (j + 8 * n + 2)) +ℤ pair_at s (i + 8 * n + 4) (j + 8 * n + 4)) +ℤ pair_at s (i + 8 * n + 6) (j + 8 * n + 6) ≡ ((pair_at s (i + 8 * n) (j + 8 * n) +ℤ pair_at s (i + 2 + 8 * n) (j + 2 + 8 * n)) +ℤ pair_at s (i + 4 + 8 * n) (j + 4 + 8 * n)) +ℤ pair_at s (i + 6 + 8 * n) (j + 6 + 8 * n)
    moved = λ k. ((pair_at s (i + 8 * n) (j + 8 * n) +ℤ at (i + 2 + 8 * n) (j + 2 + 8 * n) (i + 8 * n + 2) (j + 8 * n + 2) (omega arith) (omega arith) k) +ℤ at (i + 4 + 8 * n) (j + 4 + 8 * n) (i + 8 * n + 4) (j + 8 * n + 4) (omega arith) (omega arith) k) +ℤ at (i + 6 + 8 * n) (j + 6 + 8 * n) (i + 8 * n + 6) (j + 8 * n + 6) (omega arith) (omega arith) k

    closing : (a b c d p q r t m v z : ℤ) → (((pos 0 +ℤ a) +ℤ b) +ℤ c) +ℤ d ≡ m → v ≡ ((p +ℤ q) +ℤ r) +ℤ t → z ≡ m +ℤ v → (((pos 0 +ℤ (a +ℤ p)) +ℤ (b +ℤ q)) +ℤ (c +ℤ r)) +ℤ (d +ℤ t) ≡ z
    closing a b c d p q r t m v z e f g = omega (arith, ints)

pub lanes-all : (s : ℕ → ℤ) (i j n : ℕ) → to_z w32 (((((((0 + of_z w32 (int_wrap w32 (pair_sum s i j n))) % 2 ^ 32) + of_z w32 (int_wrap w32 (pair_sum s (i + 2) (j + 2) n))) % 2 ^ 32) + of_z w32 (int_wrap w32 (pair_sum s (i + 4) (j + 4) n))) % 2 ^ 32 + of_z w32 (int_wrap w32 (pair_sum s (i + 6) (j + 6) n))) % 2 ^ 32) ≡ int_wrap w32 (correlation s s i j (8 * n))
lanes-all s i j n =
    four-is (of_z w32 (int_wrap w32 (pair_sum s i j n))) (of_z w32 (int_wrap w32 (pair_sum s (i + 2) (j + 2) n))) (of_z w32 (int_wrap w32 (pair_sum s (i + 4) (j + 4) n))) (of_z w32 (int_wrap w32 (pair_sum s (i + 6) (j + 6) n))) _ _ _ _ (small (pair_sum s i j n)) (small (pair_sum s (i + 2) (j + 2) n)) (small (pair_sum s (i + 4) (j + 4) n)) (small (pair_sum s (i + 6) (j + 6) n)) (same (pair_sum s i j n)) (same (pair_sum s (i + 2) (j + 2) n)) (same (pair_sum s (i + 4) (j + 4) n)) (same (pair_sum s (i + 6) (j + 6) n))
    ∙ ap (int_wrap w32) (pairs-all s i j n)
  where
    small : (z : ℤ) → of_z w32 (int_wrap w32 z) < 2 ^ 32
    small z = (laws.of_z_fits w32 (int_wrap w32 z) (SFits-int_wrap w32 z)).fits

    same : (z : ℤ) → to_z w32 (of_z w32 (int_wrap w32 z)) ≡ int_wrap w32 z
    same z = to_z-of_z w32 (int_wrap w32 z) (SFits-int_wrap w32 z)
