-- Turns of a list so small that no clamp acts: a turn keeps the sum of squares, but for its rounding.
use Rattle.std.proofs.Common.{◌≡◌, ◌≢◌, ℕ, zero, suc, ◌+◌, ◌-◌, ◌*◌, ◌^◌, ◌<◌, ◌≤◌, sym, subst, inl, inr, arith, refl, ap, ◌∙◌, List, length, Bool, true, false}
use Rattle.std.specs.Prelude.{ℤ, pos, negsuc, neg_ℤ, ◌+ℤ◌, ◌-ℤ◌, ◌*ℤ◌, unsigned_abs, slice_set, nat_eq, if◌then◌else◌}
use Rattle.std.proofs.lemmas.Int.{ints, clamps, unsigned_abs-mul}
use Rattle.std.proofs.lemmas.Nat.{mul-le}
use Rattle.std.proofs.lemmas.Bool.{cases_lt}
use Rattle.std.proofs.lemmas.List.{get_or-set_same, get_or-set_other, length-set}
use Rattle.std.proofs.lemmas.List.Sums.{sum_by-set}
use Rattle.std.proofs.Math.IntN.{*ℤ_comm, +ℤ_idl}
use Rattle.fixed_math.specs.Items.{item}
use Rattle.fixed_math.specs.Rounding.{rounded}
use Rattle.fixed_math.specs.Unit.{square, energy}
use Rattle.fixed_math.proofs.IntLemmas.{+ℤ-*ℤ, -ℤ-*ℤ, *ℤ_assoc, *ℤ-neg_ℤ}
use Rattle.fixed_math.proofs.RoundingLemmas.{rounded_low, rounded_high, product_within}
use Rattle.spread_fold.specs.Spreading.{clamped, pair_turned, turned_up, turned_down, turned, turned_far}
use Rattle.spread_fold.specs.Calm.{IsCalm}
use Rattle.fixed_math.proofs.ItemLemmas.{listed_from}
use Rattle.spread_fold.proofs.StereoLemmas.{Summed}
use Rattle.spread_fold.proofs.SpreadLemmas.{length-up, far_some}

-- ---- squares

square_is : (z : ℤ) → pos (square z) ≡ z *ℤ z
square_is (pos n) = refl
square_is (negsuc n) = refl

square-mul : (a b : ℤ) → square (a *ℤ b) ≡ square a * square b
square-mul a b =
    let e = unsigned_abs-mul a b in
    ap (λ n. n * unsigned_abs (a *ℤ b)) e ∙ ap (λ n. unsigned_abs a * unsigned_abs b * n) e ∙ moved (unsigned_abs a) (unsigned_abs b)
  where
    moved : (m n : ℕ) → m * n * (m * n) ≡ m * m * (n * n)
    moved m n = omega arith

square-difference : (u w : ℤ) → (u -ℤ w) *ℤ (u -ℤ w) ≡ (u *ℤ u -ℤ u *ℤ w) -ℤ (u *ℤ w -ℤ w *ℤ w)
square-difference u w =
    let d : ℤ = u -ℤ w in
    let first : u *ℤ d ≡ u *ℤ u -ℤ u *ℤ w = *ℤ_comm u d ∙ -ℤ-*ℤ u w u ∙ ap (λ z. u *ℤ u -ℤ z) (*ℤ_comm w u) in
    let second : w *ℤ d ≡ u *ℤ w -ℤ w *ℤ w = *ℤ_comm w d ∙ -ℤ-*ℤ u w w in
    -ℤ-*ℤ u w d ∙ ap (λ z. z -ℤ w *ℤ d) first ∙ ap (λ z. (u *ℤ u -ℤ u *ℤ w) -ℤ z) second

square-sum : (r l : ℤ) → (r +ℤ l) *ℤ (r +ℤ l) ≡ (r *ℤ r +ℤ r *ℤ l) +ℤ (r *ℤ l +ℤ l *ℤ l)
square-sum r l =
    let d : ℤ = r +ℤ l in
    let first : r *ℤ d ≡ r *ℤ r +ℤ r *ℤ l = *ℤ_comm r d ∙ +ℤ-*ℤ r l r ∙ ap (λ z. r *ℤ r +ℤ z) (*ℤ_comm l r) in
    let second : l *ℤ d ≡ r *ℤ l +ℤ l *ℤ l = *ℤ_comm l d ∙ +ℤ-*ℤ r l l in
    +ℤ-*ℤ r l d ∙ ap (λ z. z +ℤ l *ℤ d) first ∙ ap (λ z. (r *ℤ r +ℤ r *ℤ l) +ℤ z) second

four_products : (x y z t : ℤ) → (x *ℤ y) *ℤ (z *ℤ t) ≡ x *ℤ (z *ℤ (y *ℤ t))
four_products x y z t =
    *ℤ_assoc x y (z *ℤ t) ∙ ap (λ v. x *ℤ v) (sym (*ℤ_assoc y z t) ∙ ap (λ v. v *ℤ t) (*ℤ_comm y z) ∙ *ℤ_assoc z y t)

same_product : (a b c s : ℤ) → (a *ℤ c) *ℤ (b *ℤ s) ≡ (b *ℤ c) *ℤ (a *ℤ s)
same_product a b c s =
    four_products a c b s ∙ sym (*ℤ_assoc a b (c *ℤ s)) ∙ ap (λ v. v *ℤ (c *ℤ s)) (*ℤ_comm a b) ∙ *ℤ_assoc b a (c *ℤ s) ∙ sym (four_products b c a s)

by_squares : (x y u w r l : ℤ) → x *ℤ x ≡ (u *ℤ u -ℤ u *ℤ w) -ℤ (u *ℤ w -ℤ w *ℤ w) → y *ℤ y ≡ (r *ℤ r +ℤ r *ℤ l) +ℤ (r *ℤ l +ℤ l *ℤ l) → u *ℤ w ≡ r *ℤ l → square x + square y ≡ square u + square w + square r + square l
by_squares x y u w r l e f g =
    omega (arith, ints, square_is x, square_is y, square_is u, square_is w, square_is r, square_is l)

-- the sum of squares of a turned pair, before it is rounded
turned_squares : (a b c s : ℤ) → square (a *ℤ c -ℤ b *ℤ s) + square (b *ℤ c +ℤ a *ℤ s) ≡ (square a + square b) * (square c + square s)
turned_squares a b c s =
    by_squares (a *ℤ c -ℤ b *ℤ s) (b *ℤ c +ℤ a *ℤ s) (a *ℤ c) (b *ℤ s) (b *ℤ c) (a *ℤ s)
    (square-difference (a *ℤ c) (b *ℤ s)) (square-sum (b *ℤ c) (a *ℤ s)) (same_product a b c s)
    ∙ spread (square a) (square b) (square c) (square s) (square-mul a c) (square-mul b s) (square-mul b c) (square-mul a s)
  where
    spread : (m n k j : ℕ) → {x y z t : ℕ} → x ≡ m * k → y ≡ n * j → z ≡ n * k → t ≡ m * j → x + y + z + t ≡ (m + n) * (k + j)
    spread m n k j p q r u = omega (arith, p, q, r, u)

-- ---- roundings

near : (z : ℤ) → 2 ^ 15 * unsigned_abs (rounded z 15) ≤ unsigned_abs z + 2 ^ 14
near z = omega (arith, ints, rounded_low z 15, rounded_high z 15 (omega arith))

root_below : (a : ℕ) → a * a ≤ 2 ^ 34 → a ≤ 2 ^ 17
root_below a h = elim (cases_lt (2 ^ 17) a) [
  | inl l ↦ let m : (2 ^ 17 + 1) * (2 ^ 17 + 1) ≤ a * a = mul-le (2 ^ 17 + 1) (2 ^ 17 + 1) a a (omega arith) (omega arith) in absurd (omega arith)
  | inr l ↦ l
]

factor_below : (a : ℕ) → a * a ≤ 2 ^ 30 + 2 ^ 16 → a ≤ 2 ^ 15
factor_below a h = elim (cases_lt (2 ^ 15) a) [
  | inl l ↦ let m : (2 ^ 15 + 1) * (2 ^ 15 + 1) ≤ a * a = mul-le (2 ^ 15 + 1) (2 ^ 15 + 1) a a (omega arith) (omega arith) in absurd (omega arith)
  | inr l ↦ l
]

rounded_squares : (v w p q n k : ℕ) → 2 ^ 15 * v ≤ p + 2 ^ 14 → 2 ^ 15 * w ≤ q + 2 ^ 14 → p * p + q * q ≡ n * k → n ≤ 2 ^ 35 → k ≤ 2 ^ 30 + 2 ^ 16 → p ≤ 2 ^ 33 → q ≤ 2 ^ 33 → v * v + w * w ≤ n + 2 ^ 22
rounded_squares v w p q n k h g e a b r s =
    let x : (2 ^ 15 * v) * (2 ^ 15 * v) ≤ (p + 2 ^ 14) * (p + 2 ^ 14) = mul-le (2 ^ 15 * v) (2 ^ 15 * v) (p + 2 ^ 14) (p + 2 ^ 14) h h in
    let y : (2 ^ 15 * w) * (2 ^ 15 * w) ≤ (q + 2 ^ 14) * (q + 2 ^ 14) = mul-le (2 ^ 15 * w) (2 ^ 15 * w) (q + 2 ^ 14) (q + 2 ^ 14) g g in
    let z : n * k ≤ n * (2 ^ 30 + 2 ^ 16) = mul-le n k n (2 ^ 30 + 2 ^ 16) (omega arith) b in
    omega (arith, x, y, z, e)

sums_within : (a b c s : ℤ) → unsigned_abs a ≤ 2 ^ 17 → unsigned_abs b ≤ 2 ^ 17 → unsigned_abs c ≤ 2 ^ 15 → unsigned_abs s ≤ 2 ^ 15 → (unsigned_abs (a *ℤ c -ℤ b *ℤ s) ≤ 2 ^ 33) × (unsigned_abs (b *ℤ c +ℤ a *ℤ s) ≤ 2 ^ 33)
sums_within a b c s p q r t =
    let x = product_within a c (2 ^ 17) (2 ^ 15) p r in
    let y = product_within b s (2 ^ 17) (2 ^ 15) q t in
    let z = product_within b c (2 ^ 17) (2 ^ 15) q r in
    let u = product_within a s (2 ^ 17) (2 ^ 15) p t in
    (omega (arith, ints), omega (arith, ints))

-- the rounded numbers of a pair
pair_squares : (a b c s : ℤ) → square a ≤ 2 ^ 34 → square b ≤ 2 ^ 34 → square c + square s ≤ 2 ^ 30 + 2 ^ 16 → square (rounded (a *ℤ c -ℤ b *ℤ s) 15) + square (rounded (b *ℤ c +ℤ a *ℤ s) 15) ≤ square a + square b + 2 ^ 22
pair_squares a b c s p q k =
    let t = sums_within a b c s (root_below (unsigned_abs a) p) (root_below (unsigned_abs b) q) (factor_below (unsigned_abs c) (omega arith)) (factor_below (unsigned_abs s) (omega arith)) in
    rounded_squares (unsigned_abs (rounded (a *ℤ c -ℤ b *ℤ s) 15)) (unsigned_abs (rounded (b *ℤ c +ℤ a *ℤ s) 15)) (unsigned_abs (a *ℤ c -ℤ b *ℤ s)) (unsigned_abs (b *ℤ c +ℤ a *ℤ s)) (square a + square b) (square c + square s)
    (near (a *ℤ c -ℤ b *ℤ s)) (near (b *ℤ c +ℤ a *ℤ s)) (turned_squares a b c s) (omega arith) k t.0 t.1

-- ---- lists

pub item_square : (xs : List ℤ) (p : ℕ) → p < length xs → square (item xs p) ≤ energy xs
item_square xs p h = omega (arith, sum_by-set square xs p (pos 0) (pos 0) h)

pair_energy : (xs : List ℤ) (p q : ℕ) (v w : ℤ) → p ≢ q → p < length xs → q < length xs → energy (slice_set (slice_set xs p v) q w) + square (item xs p) + square (item xs q) ≡ energy xs + square v + square w
pair_energy xs p q v w ne h l =
    let ys : List ℤ = slice_set xs p v in
    let en : q ≢ p = λ e. ne (sym e) in
    let first : energy ys + square (item xs p) ≡ energy xs + square v = sum_by-set square xs p v (pos 0) h in
    let there : q < length ys = omega (arith, length-set xs p v) in
    let second : energy (slice_set ys q w) + square (item ys q) ≡ energy ys + square w = sum_by-set square ys q w (pos 0) there in
    let same : square (item ys q) ≡ square (item xs q) = ap square (get_or-set_other xs p q v (pos 0) en) in
    omega (arith, first, second, same)

pub clamped_inside : (z : ℤ) → unsigned_abs z ≤ 2 ^ 17 → clamped z ≡ z
unfolding clamped
clamped_inside z h = omega (arith, ints, clamps)

pub record CalmPair (t : ℕ) (c s : ℤ) (p j : ℕ) (xs : List ℤ) : Type 0 where
  pub first : unsigned_abs (rounded (item xs p *ℤ c -ℤ item xs (p + t) *ℤ s) 15) ≤ 2 ^ 17
  pub second : unsigned_abs (rounded (item xs (p + t) *ℤ c +ℤ item xs p *ℤ s) 15) ≤ 2 ^ 17
  pub after : IsCalm j c s (pair_turned t c s p xs)

pub calm_pair : (t : ℕ) (c s : ℤ) (p j : ℕ) (xs : List ℤ) → 1 ≤ t → p + t < length xs → IsCalm (j + 1) c s xs → CalmPair t c s p j xs
unfolding pair_turned
calm_pair t c s p j xs some h k =
    let a : ℤ = item xs p in
    let b : ℤ = item xs (p + t) in
    let v : ℤ = rounded (a *ℤ c -ℤ b *ℤ s) 15 in
    let w : ℤ = rounded (b *ℤ c +ℤ a *ℤ s) 15 in
    let sum = k.sum in
    let ne : p ≢ p + t = λ e. absurd (omega arith) in
    let squares : square v + square w ≤ square a + square b + 2 ^ 22 = pair_squares a b c s (omega (arith, item_square xs p (omega arith))) (omega (arith, item_square xs (p + t) h)) k.angle in
    let put : energy (slice_set (slice_set xs p v) (p + t) w) + square a + square b ≡ energy xs + square v + square w = pair_energy xs p (p + t) v w ne (omega arith) h in
    let none : energy (slice_set (slice_set xs p (pos 0)) (p + t) (pos 0)) + square a + square b ≡ energy xs + 0 + 0 = pair_energy xs p (p + t) (pos 0) (pos 0) ne (omega arith) h in
    let low : square v ≤ 2 ^ 34 = omega (arith, squares, none, sum) in
    let high : square w ≤ 2 ^ 34 = omega (arith, squares, none, sum) in
    let first : unsigned_abs v ≤ 2 ^ 17 = root_below (unsigned_abs v) low in
    let second : unsigned_abs w ≤ 2 ^ 17 = root_below (unsigned_abs w) high in
    let same : slice_set (slice_set xs p v) (p + t) w ≡ slice_set (slice_set xs p (clamped v)) (p + t) (clamped w) =
    ap (λ z. slice_set (slice_set xs p z) (p + t) w) (sym (clamped_inside v first)) ∙ ap (λ z. slice_set (slice_set xs p (clamped v)) (p + t) z) (sym (clamped_inside w second)) in
    record {
      first = first;
      second = second;
      after = record { angle = k.angle; sum = omega (arith, squares, put, sum, ap energy same) };
    }

pub calm_fewer : (m n : ℕ) (c s : ℤ) (xs : List ℤ) → n ≤ m → IsCalm m c s xs → IsCalm n c s xs
calm_fewer m n c s xs h k = let sum = k.sum in record { angle = k.angle; sum = omega arith }

-- passes
length-pair : (t : ℕ) (c s : ℤ) (p : ℕ) (xs : List ℤ) → length (pair_turned t c s p xs) ≡ length xs
unfolding pair_turned
length-pair t c s p xs = length-set (slice_set xs p _) (p + t) _ ∙ length-set xs p _

pub calm_up : (t : ℕ) (c s : ℤ) (k j : ℕ) (xs : List ℤ) → 1 ≤ t → (1 ≤ k → k + t ≤ length xs) → IsCalm (k + j) c s xs → IsCalm j c s (turned_up t c s k xs)
unfolding turned_up
calm_up t c s zero j xs some room h = calm_fewer (zero + j) j c s xs (omega arith) h
calm_up t c s (suc k) j xs some room h =
    let r : suc k + t ≤ length xs = room (omega arith) in
    let l = length-up t c s k xs in
    (calm_pair t c s k j (turned_up t c s k xs) some (omega (arith, r, l)) (calm_up t c s k (j + 1) xs some (λ e. omega arith) (calm_fewer (suc k + j) (k + (j + 1)) c s xs (omega arith) h))).after

pub calm_down : (t : ℕ) (c s : ℤ) (k j : ℕ) (xs : List ℤ) → 1 ≤ t → (1 ≤ k → k + t ≤ length xs) → IsCalm (k + j) c s xs → IsCalm j c s (turned_down t c s k xs)
unfolding turned_down
calm_down t c s zero j xs some room h = calm_fewer (zero + j) j c s xs (omega arith) h
calm_down t c s (suc k) j xs some room h =
    let r : suc k + t ≤ length xs = room (omega arith) in
    let l = length-pair t c s k xs in
    calm_down t c s k j (pair_turned t c s k xs) some (λ e. omega (arith, r, l)) (calm_pair t c s k (k + j) xs some (omega arith) (calm_fewer (suc k + j) (k + j + 1) c s xs (omega arith) h)).after

pub calm_turned : (t : ℕ) (c s : ℤ) (j : ℕ) (xs : List ℤ) → 1 ≤ t → IsCalm (2 * length xs + j) c s xs → IsCalm j c s (turned t c s xs)
unfolding turned
calm_turned t c s j xs some h =
    let n : ℕ = length xs in
    let l = length-up t c s (n - t) xs in
    calm_down t c s (n - 2 * t) j (turned_up t c s (n - t) xs) some (λ e. omega (arith, l))
    (calm_up t c s (n - t) (n - 2 * t + j) xs some (λ e. omega arith) (calm_fewer (2 * n + j) (n - t + (n - 2 * t + j)) c s xs (omega arith) h))

pub calm_far : (t : ℕ) (c s : ℤ) (j : ℕ) (xs : List ℤ) → IsCalm (2 * length xs + j) c s xs → IsCalm j c s (turned_far t c s xs)
unfolding turned_far
calm_far zero c s j xs h = calm_fewer (2 * length xs + j) j c s xs (omega arith) h
calm_far (suc t) c s j xs h = subst (IsCalm j c s) (far_some (suc t) c s xs (omega arith)) (calm_turned (suc t) c s j xs (omega arith) h)

-- the same turn backwards, and by the complement of the angle
square-negated : (z : ℤ) → square (pos 0 -ℤ z) ≡ square z
square-negated z = let e : unsigned_abs (pos 0 -ℤ z) ≡ unsigned_abs z = omega (arith, ints) in ap (λ n. n * unsigned_abs (pos 0 -ℤ z)) e ∙ ap (λ n. unsigned_abs z * n) e

pub calm_negated : (n : ℕ) (c s : ℤ) (xs : List ℤ) → IsCalm n c s xs → IsCalm n c (pos 0 -ℤ s) xs
calm_negated n c s xs h = let angle = h.angle in record { angle = omega (arith, square-negated s); sum = h.sum }

pub calm_exchanged : (n : ℕ) (c s : ℤ) (xs : List ℤ) → IsCalm n c s xs → IsCalm n s c xs
calm_exchanged n c s xs h = let angle = h.angle in record { angle = omega arith; sum = h.sum }

pub calm_turned_back : (n : ℕ) (c s : ℤ) (xs : List ℤ) → IsCalm n c (pos 0 -ℤ s) xs → IsCalm n s (pos 0 -ℤ c) xs
calm_turned_back n c s xs h = let angle = h.angle in record { angle = omega (arith, square-negated s, square-negated c); sum = h.sum }

-- a list whose sum of squares is small has four passes of turns without clamps
pub calm_start : (c s : ℤ) (n : ℕ) (xs : List ℤ) → square c + square s ≤ 2 ^ 30 + 2 ^ 16 → energy xs ≤ 2 ^ 33 → n ≤ 176 → IsCalm (4 * n) c s xs
calm_start c s n xs a e h = record { angle = a; sum = omega arith }

pub summed_all : (xs : List ℤ) (i sum : ℕ) → i ≡ length xs → Summed i sum (item xs) → sum ≡ energy xs
summed_all xs i sum e r = r.same ∙ sym (ap energy (listed_from xs i (item xs) (sym e) (λ p h. refl)))

-- ---- the code's pairs

less_is : (a c b s : ℤ) → a *ℤ c +ℤ b *ℤ (pos 0 -ℤ s) ≡ a *ℤ c -ℤ b *ℤ s
less_is a c b s = ap (λ z. a *ℤ c +ℤ b *ℤ z) (+ℤ_idl (neg_ℤ s)) ∙ ap (λ z. a *ℤ c +ℤ z) (*ℤ-neg_ℤ b s)

-- both numbers of the turned pair of a and b need no clamp
pub record NeedsNone (c s a b : ℤ) : Type 0 where
  pub first : unsigned_abs (rounded (a *ℤ c +ℤ b *ℤ (pos 0 -ℤ s)) 15) ≤ 2 ^ 17
  pub second : unsigned_abs (rounded (b *ℤ c +ℤ a *ℤ s) 15) ≤ 2 ^ 17

pub needs_none : (t : ℕ) (c s : ℤ) (p j : ℕ) (xs : List ℤ) (a b : ℤ) → 1 ≤ t → p + t < length xs → IsCalm (j + 1) c s xs → item xs p ≡ a → item xs (p + t) ≡ b → NeedsNone c s a b
needs_none t c s p j xs a b some h k e f =
    let r = calm_pair t c s p j xs some h k in
    let x : rounded (item xs p *ℤ c -ℤ item xs (p + t) *ℤ s) 15 ≡ rounded (a *ℤ c +ℤ b *ℤ (pos 0 -ℤ s)) 15 =
    ap (λ z. rounded (z *ℤ c -ℤ item xs (p + t) *ℤ s) 15) e ∙ ap (λ z. rounded (a *ℤ c -ℤ z *ℤ s) 15) f ∙ sym (ap (λ z. rounded z 15) (less_is a c b s)) in
    let y : rounded (item xs (p + t) *ℤ c +ℤ item xs p *ℤ s) 15 ≡ rounded (b *ℤ c +ℤ a *ℤ s) 15 =
    ap (λ z. rounded (item xs (p + t) *ℤ c +ℤ z *ℤ s) 15) e ∙ ap (λ z. rounded (z *ℤ c +ℤ a *ℤ s) 15) f in
    record { first = subst (λ z. unsigned_abs z ≤ 2 ^ 17) x r.first; second = subst (λ z. unsigned_abs z ≤ 2 ^ 17) y r.second }

-- the first of the pair carried, and the second
pub up_needs : (c s : ℤ) (i j : ℕ) (xs : List ℤ) (v : ℤ) → i + 1 < length xs → IsCalm (j + 1) c s (slice_set xs i v) → NeedsNone c s v (item xs (i + 1))
up_needs c s i j xs v h k =
    let ne : i + 1 ≢ i = λ e. absurd (omega arith) in
    needs_none 1 c s i j (slice_set xs i v) v (item xs (i + 1)) (omega arith) (omega (arith, length-set xs i v)) k (get_or-set_same xs i v (pos 0) (omega arith)) (get_or-set_other xs i (i + 1) v (pos 0) ne)

pub down_needs : (c s : ℤ) (i j : ℕ) (xs : List ℤ) (v : ℤ) → i + 1 < length xs → IsCalm (j + 1) c s (slice_set xs (i + 1) v) → NeedsNone c s (item xs i) v
down_needs c s i j xs v h k =
    let ne : i ≢ i + 1 = λ e. absurd (omega arith) in
    needs_none 1 c s i j (slice_set xs (i + 1) v) (item xs i) v (omega arith) (omega (arith, length-set xs (i + 1) v)) k (get_or-set_other xs (i + 1) i v (pos 0) ne) (get_or-set_same xs (i + 1) v (pos 0) h)

-- one pair less to come
pub calm_next : (t : ℕ) (c s : ℤ) (p : ℕ) (xs ys : List ℤ) → 1 ≤ t → p + t < length xs → IsCalm (p + 1) c s xs → ys ≡ pair_turned t c s p xs → IsCalm p c s ys
calm_next t c s p xs ys some h k e = subst (IsCalm p c s) (sym e) (calm_pair t c s p p xs some h k).after
