-- Sums of products at many places by three products of half the size.
use Rattle.std.proofs.Common.{◌≡◌, ℕ, suc, ◌+◌, ◌-◌, ◌*◌, ◌/◌, ◌^◌, ◌<◌, ◌≤◌, inl, inr, refl, sym, ap, subst, arith, ◌∙◌}
use Rattle.std.specs.Prelude.{◌⊎◌, ℤ, pos, ◌+ℤ◌, ◌-ℤ◌, ◌*ℤ◌, unsigned_abs}
use Rattle.std.specs.Int.{w32, int_wrap}
use Rattle.std.proofs.lemmas.Int.{ints, int_wrap-add_left, int_wrap-add_right}
use Rattle.std.proofs.lemmas.Nat.{mul-le, pow_pos}
use Rattle.std.proofs.Math.Nat.{pow-suc}
use Rattle.std.proofs.lemmas.Bool.{cases_lt}
use Rattle.fixed_math.proofs.IntLemmas.{*ℤ-+ℤ, -ℤ-*ℤ}
use Rattle.celt_analysis.specs.Sums.{correlation}
use Rattle.celt_analysis.proofs.SumLemmas.{signed_sum-same, signed_sum-add, signed_sum-join, correlation-moved}

-- two of four products, by one difference and one sum
low_term : (x y v w : ℤ) → (x -ℤ y) *ℤ v +ℤ y *ℤ (v +ℤ w) ≡ x *ℤ v +ℤ y *ℤ w
low_term x y v w = omega (arith, ints, -ℤ-*ℤ x y v, *ℤ-+ℤ y v w)

high_term : (z y v w : ℤ) → (z -ℤ y) *ℤ w +ℤ y *ℤ (v +ℤ w) ≡ y *ℤ v +ℤ z *ℤ w
high_term z y v w = omega (arith, ints, -ℤ-*ℤ z y w, *ℤ-+ℤ y v w)

pub low-half : (x v a w : ℕ → ℤ) (at from q t : ℕ) → t < q → ((j : ℕ) → j < q + q → a j ≡ x (at + j) -ℤ x (at + q + j)) → ((i : ℕ) → i < q → w i ≡ v (from + i) +ℤ v (from + q + i)) → correlation a v (0 + t) from q +ℤ correlation x w (at + q + t) 0 q ≡ correlation x v (at + t) from (q + q)
low-half x v a w at from q t p ha hw =
    signed_sum-add f g q ∙ signed_sum-same (λ i. f i +ℤ g i) (λ i. r i +ℤ r (q + i)) q each ∙ sym (signed_sum-add r (λ i. r (q + i)) q) ∙ sym (signed_sum-join r q q)
  where
    f : ℕ → ℤ
    f i = a (0 + t + i) *ℤ v (from + i)

    g : ℕ → ℤ
    g i = x (at + q + t + i) *ℤ w (0 + i)

    r : ℕ → ℤ
    r i = x (at + t + i) *ℤ v (from + i)

    each : (i : ℕ) → i < q → f i +ℤ g i ≡ r i +ℤ r (q + i)
    each i h =
        let k0 : 0 + t + i ≡ t + i = omega arith in
        let k1 : at + (t + i) ≡ at + t + i = omega arith in
        let k2 : at + q + (t + i) ≡ at + q + t + i = omega arith in
        let k3 : at + t + (q + i) ≡ at + q + t + i = omega arith in
        let k4 : from + (q + i) ≡ from + q + i = omega arith in
        let k5 : 0 + i ≡ i = omega arith in
        let ea : a (0 + t + i) ≡ x (at + t + i) -ℤ x (at + q + t + i) = ap a k0 ∙ ha (t + i) (omega arith) ∙ ap (λ k. x k -ℤ x (at + q + (t + i))) k1 ∙ ap (λ k. x (at + t + i) -ℤ x k) k2 in
        let ew : w (0 + i) ≡ v (from + i) +ℤ v (from + q + i) = ap w k5 ∙ hw i h in
        let er : r (q + i) ≡ x (at + q + t + i) *ℤ v (from + q + i) = ap (λ k. x k *ℤ v (from + (q + i))) k3 ∙ ap (λ k. x (at + q + t + i) *ℤ v k) k4 in
        ap (λ z. z *ℤ v (from + i) +ℤ g i) ea ∙ ap (λ z. (x (at + t + i) -ℤ x (at + q + t + i)) *ℤ v (from + i) +ℤ x (at + q + t + i) *ℤ z) ew ∙ low_term (x (at + t + i)) (x (at + q + t + i)) (v (from + i)) (v (from + q + i)) ∙ sym (ap (λ z. r i +ℤ z) er)

pub high-half : (x v b w : ℕ → ℤ) (at from q t : ℕ) → t < q → ((j : ℕ) → j < q + q → b j ≡ x (at + (q + q) + j) -ℤ x (at + q + j)) → ((i : ℕ) → i < q → w i ≡ v (from + i) +ℤ v (from + q + i)) → correlation b v (0 + t) (from + q) q +ℤ correlation x w (at + q + t) 0 q ≡ correlation x v (at + (q + t)) from (q + q)
high-half x v b w at from q t p hb hw =
    signed_sum-add f g q ∙ signed_sum-same (λ i. f i +ℤ g i) (λ i. r i +ℤ r (q + i)) q each ∙ sym (signed_sum-add r (λ i. r (q + i)) q) ∙ sym (signed_sum-join r q q)
  where
    f : ℕ → ℤ
    f i = b (0 + t + i) *ℤ v (from + q + i)

    g : ℕ → ℤ
    g i = x (at + q + t + i) *ℤ w (0 + i)

    r : ℕ → ℤ
    r i = x (at + (q + t) + i) *ℤ v (from + i)

    each : (i : ℕ) → i < q → f i +ℤ g i ≡ r i +ℤ r (q + i)
    each i h =
        let k0 : 0 + t + i ≡ t + i = omega arith in
        let k1 : at + (q + q) + (t + i) ≡ at + (q + t) + (q + i) = omega arith in
        let k2 : at + q + (t + i) ≡ at + q + t + i = omega arith in
        let k3 : at + (q + t) + i ≡ at + q + t + i = omega arith in
        let k4 : from + (q + i) ≡ from + q + i = omega arith in
        let k5 : 0 + i ≡ i = omega arith in
        let eb : b (0 + t + i) ≡ x (at + (q + t) + (q + i)) -ℤ x (at + q + t + i) = ap b k0 ∙ hb (t + i) (omega arith) ∙ ap (λ k. x k -ℤ x (at + q + (t + i))) k1 ∙ ap (λ k. x (at + (q + t) + (q + i)) -ℤ x k) k2 in
        let ew : w (0 + i) ≡ v (from + i) +ℤ v (from + q + i) = ap w k5 ∙ hw i h in
        let er : r i ≡ x (at + q + t + i) *ℤ v (from + i) = ap (λ k. x k *ℤ v (from + i)) k3 in
        let es : r (q + i) ≡ x (at + (q + t) + (q + i)) *ℤ v (from + q + i) = ap (λ k. x (at + (q + t) + (q + i)) *ℤ v k) k4 in
        ap (λ z. z *ℤ v (from + q + i) +ℤ g i) eb ∙ ap (λ z. (x (at + (q + t) + (q + i)) -ℤ x (at + q + t + i)) *ℤ v (from + q + i) +ℤ x (at + q + t + i) *ℤ z) ew ∙ high_term (x (at + (q + t) + (q + i))) (x (at + q + t + i)) (v (from + i)) (v (from + q + i)) ∙ sym (ap (λ z. z +ℤ r (q + i)) er ∙ ap (λ z. x (at + q + t + i) *ℤ v (from + i) +ℤ z) es)

-- sums that wrap on the way
pub wrapped-sum : (a b c : ℤ) → a +ℤ b ≡ c → int_wrap w32 (int_wrap w32 a +ℤ int_wrap w32 b) ≡ int_wrap w32 c
wrapped-sum a b c e = int_wrap-add_left w32 a (int_wrap w32 b) ∙ int_wrap-add_right w32 a b ∙ ap (int_wrap w32) e

-- ---- sizes

pub difference-size : (x y : ℤ) (q m : ℕ) → unsigned_abs x * (q + q) < m → unsigned_abs y * (q + q) < m → unsigned_abs (x -ℤ y) * q < m
difference-size x y q m h k =
    let s : unsigned_abs (x -ℤ y) ≤ unsigned_abs x + unsigned_abs y = omega (arith, ints) in
    let p : unsigned_abs (x -ℤ y) * q ≤ (unsigned_abs x + unsigned_abs y) * q = mul-le (unsigned_abs (x -ℤ y)) q (unsigned_abs x + unsigned_abs y) q s (omega arith) in
    omega arith

pub sum-size : (x y : ℤ) (q m : ℕ) → unsigned_abs x * (q + q) < m → unsigned_abs y * (q + q) < m → unsigned_abs (x +ℤ y) * q < m
sum-size x y q m h k =
    let s : unsigned_abs (x +ℤ y) ≤ unsigned_abs x + unsigned_abs y = omega (arith, ints) in
    let p : unsigned_abs (x +ℤ y) * q ≤ (unsigned_abs x + unsigned_abs y) * q = mul-le (unsigned_abs (x +ℤ y)) q (unsigned_abs x + unsigned_abs y) q s (omega arith) in
    omega arith

-- an item whose 128-fold is below 2^21 is below 2^14
pub item-small : (x h : ℕ) → 128 ≤ h → x * h < 2 ^ 21 → x < 2 ^ 14
item-small x h p l =
    elim (cases_lt x (2 ^ 14)) [
      | inl q ↦ q
      | inr q ↦ (let m : 2 ^ 14 * 128 ≤ x * h = mul-le (2 ^ 14) 128 x h q p in absurd (omega arith))
    ]

-- ---- a step of the recursion

pub record Half (h k : ℕ) : Type 0 where
  pub whole : h / 2 + h / 2 ≡ h
  pub power : h / 2 ≡ 64 * 2 ^ (k - 1)
  pub least : 128 ≤ h

pub half-of : (h k : ℕ) → 0 < k → h ≡ 64 * 2 ^ k → Half h k
half-of h k p e =
    let s : suc (k - 1) ≡ k = omega arith in
    let d : 2 ^ suc (k - 1) ≡ 2 ^ (k - 1) * 2 = pow-suc 2 (k - 1) in
    let g : 2 ^ k ≡ 2 ^ suc (k - 1) = sym (ap (λ n. 2 ^ n) s) in
    let m : 0 < 2 ^ (k - 1) = pow_pos (k - 1) in
    record {
      whole = omega arith;
      power = omega arith;
      least = omega arith;
    }

pub halved : (x q h m : ℕ) → q ≤ h → x * h < m → x * q < m
halved x q h m p l =
    let r : x * q ≤ x * h = mul-le x q x h (omega arith) p in
    omega arith

pub joined : (x v a b w : ℕ → ℤ) (at from to q : ℕ) (o2 o3 o4 o5 p : ℕ → ℤ)
    → ((t : ℕ) → t < q → p (0 + t) ≡ int_wrap w32 (correlation x w (at + q + t) 0 q))
    → ((t : ℕ) → t < q → o2 (to + t) ≡ int_wrap w32 (correlation a v (0 + t) from q))
    → ((t : ℕ) → t < q → o3 (to + q + t) ≡ int_wrap w32 (correlation b v (0 + t) (from + q) q))
    → ((t : ℕ) → t < q → o3 (to + t) ≡ o2 (to + t))
    → ((t : ℕ) → t < q → o4 (to + t) ≡ int_wrap w32 (o3 (to + t) +ℤ p t))
    → ((t : ℕ) → t < q → o4 (to + q + t) ≡ o3 (to + q + t))
    → ((t : ℕ) → t < q → o5 (to + q + t) ≡ int_wrap w32 (o4 (to + q + t) +ℤ p t))
    → ((t : ℕ) → t < q → o5 (to + t) ≡ o4 (to + t))
    → ((j : ℕ) → j < q + q → a j ≡ x (at + j) -ℤ x (at + q + j))
    → ((j : ℕ) → j < q + q → b j ≡ x (at + (q + q) + j) -ℤ x (at + q + j))
    → ((i : ℕ) → i < q → w i ≡ v (from + i) +ℤ v (from + q + i))
    → (t : ℕ) → t < q + q → o5 (to + t) ≡ int_wrap w32 (correlation x v (at + t) from (q + q))
joined x v a b w at from to q o2 o3 o4 o5 p ip i2 i3 n3 i4 n4 i5 n5 ha hb hw t l =
    elim (cases_lt t q) [
      | inl r ↦ low t r
      | inr r ↦ (let e : q + (t - q) ≡ t = omega arith in subst (λ k. o5 (to + k) ≡ int_wrap w32 (correlation x v (at + k) from (q + q))) e (high (t - q) (omega arith)))
    ]
  where
    pt : (t : ℕ) → t < q → p t ≡ int_wrap w32 (correlation x w (at + q + t) 0 q)
    pt t r =
        let e : t ≡ 0 + t = omega arith in
        ap p e ∙ ip t r

    low : (t : ℕ) → t < q → o5 (to + t) ≡ int_wrap w32 (correlation x v (at + t) from (q + q))
    low t r =
        n5 t r ∙ i4 t r ∙ ap (λ z. int_wrap w32 (z +ℤ p t)) (n3 t r ∙ i2 t r) ∙ ap (λ z. int_wrap w32 (int_wrap w32 (correlation a v (0 + t) from q) +ℤ z)) (pt t r)
        ∙ wrapped-sum (correlation a v (0 + t) from q) (correlation x w (at + q + t) 0 q) (correlation x v (at + t) from (q + q)) (low-half x v a w at from q t r ha hw)

    high : (t : ℕ) → t < q → o5 (to + (q + t)) ≡ int_wrap w32 (correlation x v (at + (q + t)) from (q + q))
    high t r =
        let g : to + (q + t) ≡ to + q + t = omega arith in
        ap o5 g ∙ i5 t r ∙ ap (λ z. int_wrap w32 (z +ℤ p t)) (n4 t r ∙ i3 t r) ∙ ap (λ z. int_wrap w32 (int_wrap w32 (correlation b v (0 + t) (from + q) q) +ℤ z)) (pt t r)
        ∙ wrapped-sum (correlation b v (0 + t) (from + q) q) (correlation x w (at + q + t) 0 q) (correlation x v (at + (q + t)) from (q + q)) (high-half x v b w at from q t r hb hw)

pub wrap-zero : (z : ℤ) → z ≡ pos 0 → pos 0 ≡ int_wrap w32 z
unfolding int_wrap
wrap-zero z e = sym (ap (int_wrap w32) e)

-- What the recursion has in one list: s0 before; s3 has the sums from w on too, and the differences from a and b on.
pub record Laid (s0 s3 : ℕ → ℤ) (at from w a b next q : ℕ) : Type 0 where
  pub first : at + (q + q + (q + q)) ≤ w
  pub second : from + (q + q) ≤ w
  pub a_is : a ≡ w + q
  pub b_is : b ≡ a + (q + q)
  pub next_is : next ≡ b + (q + q)
  pub base : (k : ℕ) → k < w → s3 k ≡ s0 k
  pub sums : (i : ℕ) → i < q → s3 (w + i) ≡ s0 (from + i) +ℤ s0 (from + q + i)
  pub low : (j : ℕ) → j < q + q → s3 (a + j) ≡ s0 (at + j) -ℤ s0 (at + q + j)
  pub high : (j : ℕ) → j < q + q → s3 (b + j) ≡ s0 (at + (q + q) + j) -ℤ s0 (at + q + j)

pub lay : (s0 s1 s2 s3 : ℕ → ℤ) (at from w q h : ℕ) → q + q ≡ h → at + 2 * h ≤ w → from + h ≤ w
    → ((i : ℕ) → i < q → s1 (w + i) ≡ s0 (from + i) +ℤ s0 (from + q + i))
    → ((k : ℕ) → (k < w) ⊎ (w + q ≤ k) → s1 k ≡ s0 k)
    → ((i : ℕ) → i < h → s2 (w + q + i) ≡ s1 (at + i) -ℤ s1 (at + q + i))
    → ((k : ℕ) → (k < w + q) ⊎ (w + q + h ≤ k) → s2 k ≡ s1 k)
    → ((i : ℕ) → i < h → s3 (w + q + h + i) ≡ s2 (at + h + i) -ℤ s2 (at + q + i))
    → ((k : ℕ) → (k < w + q + h) ⊎ (w + q + h + h ≤ k) → s3 k ≡ s2 k)
    → Laid s0 s3 at from w (w + q) (w + q + h) (w + q + h + h) q
lay s0 s1 s2 s3 at from w q h e f g i1 n1 i2 n2 i3 n3 = record {
  first = omega arith;
  second = omega arith;
  a_is = refl;
  b_is = omega arith;
  next_is = omega arith;
  base = λ k p. third k (omega arith) ∙ old k p;
  sums = λ i p. third (w + i) (omega arith) ∙ n2 (w + i) (inl (omega arith)) ∙ i1 i p;
  low = λ j p. third (w + q + j) (omega arith) ∙ i2 j (omega arith) ∙ pair (at + j) (at + q + j) s1 (first_old (at + j) (omega arith)) (first_old (at + q + j) (omega arith));
  high = λ j p. i3 j (omega arith) ∙ pair (at + h + j) (at + q + j) s2 (old (at + h + j) (omega arith)) (old (at + q + j) (omega arith)) ∙ ap (λ n. s0 (at + n + j) -ℤ s0 (at + q + j)) (sym e);
}
  where
    third : (k : ℕ) → k < w + q + h → s3 k ≡ s2 k
    third k p = n3 k (inl p)

    first_old : (k : ℕ) → k < w → s1 k ≡ s0 k
    first_old k p = n1 k (inl p)

    old : (k : ℕ) → k < w → s2 k ≡ s0 k
    old k p = n2 k (inl (omega arith)) ∙ first_old k p

    pair : (x y : ℕ) (r : ℕ → ℤ) → r x ≡ s0 x → r y ≡ s0 y → r x -ℤ r y ≡ s0 x -ℤ s0 y
    pair x y r a b = ap (λ z. z -ℤ r y) a ∙ ap (λ z. s0 x -ℤ z) b

pub both-moved : (s0 s3 : ℕ → ℤ) (at from w a b next q t : ℕ) → Laid s0 s3 at from w a b next q → t < q → correlation s3 s3 (at + q + t) w q ≡ correlation s0 (λ i. s3 (w + i)) (at + q + t) 0 q
both-moved s0 s3 at from w a b next q t l p = correlation-moved s3 s3 s0 (λ i. s3 (w + i)) (at + q + t) w (at + q + t) 0 q
    (λ i r. l.base (at + q + t + i) (omega (arith, l.first)))
    (λ i r. ap s3 (zero_on w i))
  where
    zero_on : (w i : ℕ) → w + i ≡ w + (0 + i)
    zero_on w i = omega arith

pub low-moved : (s0 s3 s4 : ℕ → ℤ) (at from w a b next q t : ℕ) → Laid s0 s3 at from w a b next q → ((k : ℕ) → k < next → s4 k ≡ s3 k) → t < q → correlation s4 s4 (a + t) from q ≡ correlation (λ j. s3 (a + j)) s0 (0 + t) from q
low-moved s0 s3 s4 at from w a b next q t l f p = correlation-moved s4 s4 (λ j. s3 (a + j)) s0 (a + t) from (0 + t) from q
    (λ i r. f (a + t + i) (omega (arith, l.b_is, l.next_is)) ∙ ap s3 (zero_on a t i))
    (λ i r. f (from + i) (omega (arith, l.second, l.a_is, l.b_is, l.next_is)) ∙ l.base (from + i) (omega (arith, l.second)))
  where
    zero_on : (a t i : ℕ) → a + t + i ≡ a + (0 + t + i)
    zero_on a t i = omega arith

pub high-moved : (s0 s3 s5 : ℕ → ℤ) (at from w a b next q t : ℕ) → Laid s0 s3 at from w a b next q → ((k : ℕ) → k < next → s5 k ≡ s3 k) → t < q → correlation s5 s5 (b + t) (from + q) q ≡ correlation (λ j. s3 (b + j)) s0 (0 + t) (from + q) q
high-moved s0 s3 s5 at from w a b next q t l f p = correlation-moved s5 s5 (λ j. s3 (b + j)) s0 (b + t) (from + q) (0 + t) (from + q) q
    (λ i r. f (b + t + i) (omega (arith, l.next_is)) ∙ ap s3 (zero_on b t i))
    (λ i r. f (from + q + i) (omega (arith, l.second, l.a_is, l.b_is, l.next_is)) ∙ l.base (from + q + i) (omega (arith, l.second)))
  where
    zero_on : (a t i : ℕ) → a + t + i ≡ a + (0 + t + i)
    zero_on a t i = omega arith

-- the sizes of all that stands in the list now
pub joined-sizes : (s0 s3 : ℕ → ℤ) (at from w a b next q m : ℕ) → Laid s0 s3 at from w a b next q → ((i : ℕ) → i < w → unsigned_abs (s0 i) * (q + q) < m) → (k : ℕ) → k < next → unsigned_abs (s3 k) * q < m
joined-sizes s0 s3 at from w a b next q m l h k p =
    elim (cases_lt k w) [
      | inl r ↦ subst (λ z. unsigned_abs z * q < m) (sym (l.base k r)) (halved (unsigned_abs (s0 k)) q (q + q) m (omega arith) (h k r))
      | inr r ↦ (elim (cases_lt k a) [
        | inl r2 ↦ (let e : w + (k - w) ≡ k = omega arith in
            subst (λ j. unsigned_abs (s3 j) * q < m) e (subst (λ z. unsigned_abs z * q < m) (sym (l.sums (k - w) (omega (arith, l.a_is)))) (sum-size (s0 (from + (k - w))) (s0 (from + q + (k - w))) q m (h (from + (k - w)) (omega (arith, l.second, l.a_is))) (h (from + q + (k - w)) (omega (arith, l.second, l.a_is))))))
        | inr r2 ↦ (elim (cases_lt k b) [
          | inl r3 ↦ (let e : a + (k - a) ≡ k = omega arith in
              subst (λ j. unsigned_abs (s3 j) * q < m) e (subst (λ z. unsigned_abs z * q < m) (sym (l.low (k - a) (omega (arith, l.b_is)))) (difference-size (s0 (at + (k - a))) (s0 (at + q + (k - a))) q m (h (at + (k - a)) (omega (arith, l.first, l.b_is))) (h (at + q + (k - a)) (omega (arith, l.first, l.b_is))))))
          | inr r3 ↦ (let e : b + (k - b) ≡ k = omega arith in
              subst (λ j. unsigned_abs (s3 j) * q < m) e (subst (λ z. unsigned_abs z * q < m) (sym (l.high (k - b) (omega (arith, l.next_is)))) (difference-size (s0 (at + (q + q) + (k - b))) (s0 (at + q + (k - b))) q m (h (at + (q + q) + (k - b)) (omega (arith, l.first, l.next_is))) (h (at + q + (k - b)) (omega (arith, l.first, l.next_is))))))
        ])
      ])
    ]

pub sizes-kept : (r s : ℕ → ℤ) (next q m : ℕ) → ((k : ℕ) → k < next → s k ≡ r k) → ((k : ℕ) → k < next → unsigned_abs (r k) * q < m) → (k : ℕ) → k < next → unsigned_abs (s k) * q < m
sizes-kept r s next q m e h k p = subst (λ z. unsigned_abs z * q < m) (sym (e k p)) (h k p)

-- an item whose 64-fold is below 2^21 is below 2^15
pub leaf-small : (x h k : ℕ) → h ≡ 64 * 2 ^ k → x * h < 2 ^ 21 → x < 2 ^ 15
leaf-small x h k e l =
    elim (cases_lt x (2 ^ 15)) [
      | inl q ↦ q
      | inr q ↦ (let p : 0 < 2 ^ k = pow_pos k in
          let m : 2 ^ 15 * 64 ≤ x * h = mul-le (2 ^ 15) 64 x h q (omega arith) in
          absurd (omega arith))
    ]
