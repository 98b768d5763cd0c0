-- The Haar step by places, and how much it grows.
use Rattle.std.proofs.Common.{◌≡◌, ◌≢◌, ℕ, ◌+◌, ◌-◌, ◌*◌, ◌/◌, ◌%◌, ◌<◌, ◌≤◌, sym, subst, inl, inr, arith, refl, ap, ◌∙◌, List, length, get_or, Bool, true, false}
use Rattle.std.specs.Prelude.{ℤ, pos, ◌+ℤ◌, ◌-ℤ◌, ◌*ℤ◌, unsigned_abs, slice_set, All, if◌then◌else◌, nat_eq}
use Rattle.std.proofs.lemmas.Nat.{div-mul-add, mul-le}
use Rattle.std.proofs.lemmas.Int.{ints}
use Rattle.std.proofs.lemmas.Bool.{cases_lt, cases_eq}
use Rattle.std.proofs.lemmas.List.{get_or-set_same, get_or-set_other, length-set, get_or_default}
use Rattle.fixed_math.proofs.RoundingLemmas.{rounded_low, rounded_high}
use Rattle.tf_change.specs.Haar.{scaled, haar_item, haar_of}
use Rattle.fixed_math.specs.Items.{item}
use Rattle.fixed_math.proofs.ItemLemmas.{item-listed, length-listed, listed_from, item_within}

pub haar-sum : (s j k p : ℕ) (xs : List ℤ) → k < s → p ≡ 2 * s * j + k → haar_item s xs p ≡ scaled (item xs p) +ℤ scaled (item xs (p + s))
haar-sum s j k p xs h e =
    let q : p ≡ (2 * j) * s + k = omega arith in
    let d : p / s ≡ 2 * j = rw q (div-mul-add (2 * j) s k h) in
    let m : p / s % 2 ≡ 0 = rw d (omega arith) in
    rw m refl

pub haar-difference : (s j k p : ℕ) (xs : List ℤ) → k < s → p ≡ 2 * s * j + s + k → haar_item s xs p ≡ scaled (item xs (p - s)) -ℤ scaled (item xs p)
haar-difference s j k p xs h e =
    let q : p ≡ (2 * j + 1) * s + k = omega arith in
    let d : p / s ≡ 2 * j + 1 = rw q (div-mul-add (2 * j + 1) s k h) in
    let m : p / s % 2 ≡ 1 = rw d (omega arith) in
    rw m refl

-- twice a scaled number is at most 3/2 of the number, plus 1
pub scaled_size : (v : ℤ) (m : ℕ) → unsigned_abs v ≤ m → 2 * unsigned_abs (scaled v) ≤ m + m / 2 + 1
unfolding scaled
scaled_size v m h = omega (arith, ints, rounded_low (pos 23170 *ℤ v) 15, rounded_high (pos 23170 *ℤ v) 15 (omega arith))

either_size : (t : Bool) (x y : ℤ) (b : ℕ) → unsigned_abs x ≤ b → unsigned_abs y ≤ b → unsigned_abs (if t then x else y) ≤ b
either_size true x y b p q = p
either_size false x y b p q = q

sum_size : (x y : ℤ) (b : ℕ) → 2 * unsigned_abs x ≤ b → 2 * unsigned_abs y ≤ b → unsigned_abs (x +ℤ y) ≤ b
sum_size x y b p q = omega (arith, ints)

difference_size : (x y : ℤ) (b : ℕ) → 2 * unsigned_abs x ≤ b → 2 * unsigned_abs y ≤ b → unsigned_abs (x -ℤ y) ≤ b
difference_size x y b p q = omega (arith, ints)

haar_item_size : (s p m : ℕ) (xs : List ℤ) → ((k : ℕ) → unsigned_abs (item xs k) ≤ m) → unsigned_abs (haar_item s xs p) ≤ m + m / 2 + 1
haar_item_size s p m xs h =
    either_size (nat_eq (p / s % 2) 0) (scaled (item xs p) +ℤ scaled (item xs (p + s))) (scaled (item xs (p - s)) -ℤ scaled (item xs p)) (m + m / 2 + 1)
    (sum_size (scaled (item xs p)) (scaled (item xs (p + s))) (m + m / 2 + 1) (scaled_size (item xs p) m (h p)) (scaled_size (item xs (p + s)) m (h (p + s))))
    (difference_size (scaled (item xs (p - s))) (scaled (item xs p)) (m + m / 2 + 1) (scaled_size (item xs (p - s)) m (h (p - s))) (scaled_size (item xs p) m (h p)))

pub length-haar : (s : ℕ) (xs : List ℤ) → length (haar_of s xs) ≡ length xs
unfolding haar_of
length-haar s xs = length-listed (length xs) (haar_item s xs)

pub item-haar : (s : ℕ) (xs : List ℤ) (p : ℕ) → p < length xs → item (haar_of s xs) p ≡ haar_item s xs p
unfolding haar_of
item-haar s xs p h = item-listed (length xs) (haar_item s xs) p h

pub haar_growth : (xs : List ℤ) (s m : ℕ) → All (λ v. unsigned_abs v ≤ m) xs → All (λ v. unsigned_abs v ≤ m + m / 2 + 1) (haar_of s xs)
haar_growth xs s m h = λ k d l.
    let p : k < length xs = omega (arith, length-haar s xs) in
    let e : get_or (haar_of s xs) k d ≡ haar_item s xs k = get_or_default (haar_of s xs) k d (pos 0) l ∙ item-haar s xs k p in
    subst (λ v. unsigned_abs v ≤ m + m / 2 + 1) (sym e) (haar_item_size s k m xs (λ i. item_within xs m i h))

-- two places written
pub pair_low : (xs : List ℤ) (low high : ℕ) (a b : ℤ) → low < high → high < length xs → item (slice_set (slice_set xs low a) high b) low ≡ a
pair_low xs low high a b h l =
    let ne : low ≢ high = omega arith in
    get_or-set_other (slice_set xs low a) high low b (pos 0) ne ∙ get_or-set_same xs low a (pos 0) (omega arith)

pub pair_high : (xs : List ℤ) (low high : ℕ) (a b : ℤ) → high < length xs → item (slice_set (slice_set xs low a) high b) high ≡ b
pair_high xs low high a b l =
    let p : high < length (slice_set xs low a) = omega (arith, length-set xs low a) in
    get_or-set_same (slice_set xs low a) high b (pos 0) p

-- the step on a pair of runs from base on, after k columns
pub record RunsChanged (s base k : ℕ) (old new : List ℤ) : Type 0 where
  pub sums : (i : ℕ) → i < k → item new (base + i) ≡ scaled (item old (base + i)) +ℤ scaled (item old (base + s + i))
  pub differences : (i : ℕ) → i < k → item new (base + s + i) ≡ scaled (item old (base + i)) -ℤ scaled (item old (base + s + i))
  pub before : (p : ℕ) → p < base → item new p ≡ item old p
  pub between : (p : ℕ) → base + k ≤ p → p < base + s → item new p ≡ item old p
  pub behind : (p : ℕ) → base + s + k ≤ p → item new p ≡ item old p

pub runs_start : (s base : ℕ) (xs : List ℤ) → RunsChanged s base 0 xs xs
runs_start s base xs = record {
  sums = λ i h. absurd (omega arith);
  differences = λ i h. absurd (omega arith);
  before = λ p h. refl;
  between = λ p h g. refl;
  behind = λ p h. refl;
}

pub runs_more : (s base k : ℕ) (old mid new : List ℤ) → k < s → RunsChanged s base k old mid
    → item new (base + k) ≡ scaled (item mid (base + k)) +ℤ scaled (item mid (base + s + k))
    → item new (base + s + k) ≡ scaled (item mid (base + k)) -ℤ scaled (item mid (base + s + k))
    → ((p : ℕ) → p ≢ base + k → p ≢ base + s + k → item new p ≡ item mid p)
    → RunsChanged s base (k + 1) old new
runs_more s base k old mid new h r sum difference others =
    let a : item mid (base + k) ≡ item old (base + k) = r.between (base + k) (omega arith) (omega arith) in
    let b : item mid (base + s + k) ≡ item old (base + s + k) = r.behind (base + s + k) (omega arith) in
    record {
      sums = λ i l. elim (cases_eq i k) [
        | inl e ↦ rw e (sum ∙ ap (λ v. scaled v +ℤ scaled (item mid (base + s + k))) a ∙ ap (λ v. scaled (item old (base + k)) +ℤ scaled v) b)
        | inr n ↦ others (base + i) (λ q. n (omega arith)) (λ q. absurd (omega arith)) ∙ r.sums i (smaller i k l n)
      ];
      differences = λ i l. elim (cases_eq i k) [
        | inl e ↦ rw e (difference ∙ ap (λ v. scaled v -ℤ scaled (item mid (base + s + k))) a ∙ ap (λ v. scaled (item old (base + k)) -ℤ scaled v) b)
        | inr n ↦ others (base + s + i) (λ q. absurd (omega arith)) (λ q. n (omega arith)) ∙ r.differences i (smaller i k l n)
      ];
      before = λ p l. others p (λ q. absurd (omega arith)) (λ q. absurd (omega arith)) ∙ r.before p l;
      between = λ p l g. others p (λ q. absurd (omega arith)) (λ q. absurd (omega arith)) ∙ r.between p (omega arith) g;
      behind = λ p l. others p (λ q. absurd (omega arith)) (λ q. absurd (omega arith)) ∙ r.behind p (omega arith);
    }
  where
    smaller : (i k : ℕ) → i < k + 1 → (i ≡ k → ⊥) → i < k
    smaller i k l n = omega arith

-- after j pairs of runs
pub record PairsChanged (s j : ℕ) (old new : List ℤ) : Type 0 where
  pub below : (p : ℕ) → p < 2 * s * j → item new p ≡ haar_item s old p
  pub above : (p : ℕ) → 2 * s * j ≤ p → item new p ≡ item old p

pub pairs_start : (s : ℕ) (xs : List ℤ) → PairsChanged s 0 xs xs
pairs_start s xs = record { below = λ p h. absurd (omega arith); above = λ p h. refl }

pub pairs_more : (s j : ℕ) (old mid new : List ℤ) → PairsChanged s j old mid → RunsChanged s (2 * s * j) s mid new → PairsChanged s (j + 1) old new
pairs_more s j old mid new r t = record {
  below = λ p h. elim (cases_lt p (2 * s * j)) [
    | inl l ↦ t.before p l ∙ r.below p l
    | inr l ↦ elim (cases_lt p (2 * s * j + s)) [
      | inl g ↦ first p (p - 2 * s * j) (omega arith) (omega arith)
      | inr g ↦ second p (p - (2 * s * j + s)) (omega arith) (omega arith)
    ]
  ];
  above = λ p h. t.behind p (omega arith) ∙ r.above p (omega arith);
}
  where
    first : (p i : ℕ) → i < s → p ≡ 2 * s * j + i → item new p ≡ haar_item s old p
    first p i h e =
        let a : item mid (2 * s * j + i) ≡ item old (2 * s * j + i) = r.above (2 * s * j + i) (omega arith) in
        let b : item mid (2 * s * j + s + i) ≡ item old (2 * s * j + s + i) = r.above (2 * s * j + s + i) (omega arith) in
        let q : 2 * s * j + i + s ≡ 2 * s * j + s + i = omega arith in
        let f = haar-sum s j i (2 * s * j + i) old h refl in
        let g : item new (2 * s * j + i) ≡ haar_item s old (2 * s * j + i) = t.sums i h ∙ ap (λ v. scaled v +ℤ scaled (item mid (2 * s * j + s + i))) a ∙ ap (λ v. scaled (item old (2 * s * j + i)) +ℤ scaled v) b ∙ ap (λ k. scaled (item old (2 * s * j + i)) +ℤ scaled (item old k)) (sym q) ∙ sym f in
        subst (λ k. item new k ≡ haar_item s old k) (sym e) g

    second : (p i : ℕ) → i < s → p ≡ 2 * s * j + s + i → item new p ≡ haar_item s old p
    second p i h e =
        let a : item mid (2 * s * j + i) ≡ item old (2 * s * j + i) = r.above (2 * s * j + i) (omega arith) in
        let b : item mid (2 * s * j + s + i) ≡ item old (2 * s * j + s + i) = r.above (2 * s * j + s + i) (omega arith) in
        let q : 2 * s * j + s + i - s ≡ 2 * s * j + i = omega arith in
        let f = haar-difference s j i (2 * s * j + s + i) old h refl in
        let g : item new (2 * s * j + s + i) ≡ haar_item s old (2 * s * j + s + i) = t.differences i h ∙ ap (λ v. scaled v -ℤ scaled (item mid (2 * s * j + s + i))) a ∙ ap (λ v. scaled (item old (2 * s * j + i)) -ℤ scaled v) b ∙ ap (λ k. scaled (item old k) -ℤ scaled (item old (2 * s * j + s + i))) (sym q) ∙ sym f in
        subst (λ k. item new k ≡ haar_item s old k) (sym e) g

-- the step on one pair of items
pub pair_sum : (xs : List ℤ) (s j i : ℕ) → i < s → s * (2 * j + 1) + i < length xs → item (haar_of s xs) (2 * s * j + i) ≡ scaled (item xs (2 * s * j + i)) +ℤ scaled (item xs (s * (2 * j + 1) + i))
pair_sum xs s j i h l =
    let q : 2 * s * j + i + s ≡ s * (2 * j + 1) + i = omega arith in
    let r : 2 * s * j + i < length xs = omega arith in
    item-haar s xs (2 * s * j + i) r ∙ haar-sum s j i (2 * s * j + i) xs h refl ∙ ap (λ k. scaled (item xs (2 * s * j + i)) +ℤ scaled (item xs k)) q

pub pair_difference : (xs : List ℤ) (s j i : ℕ) → i < s → s * (2 * j + 1) + i < length xs → item (haar_of s xs) (s * (2 * j + 1) + i) ≡ scaled (item xs (2 * s * j + i)) -ℤ scaled (item xs (s * (2 * j + 1) + i))
pair_difference xs s j i h l =
    let q : s * (2 * j + 1) + i - s ≡ 2 * s * j + i = omega arith in
    let e : s * (2 * j + 1) + i ≡ 2 * s * j + s + i = omega arith in
    item-haar s xs (s * (2 * j + 1) + i) l ∙ haar-difference s j i (s * (2 * j + 1) + i) xs h e ∙ ap (λ k. scaled (item xs k) -ℤ scaled (item xs (s * (2 * j + 1) + i))) q

-- all pairs of runs
pub pairs_within : (n j s : ℕ) → j < n / 2 → 2 * s * j + 2 * s ≤ n * s
pairs_within n j s h =
    let p : (j + 1) * 2 ≤ n = omega arith in
    omega (arith, mul-le ((j + 1) * 2) s n s p (omega arith))

pairs_whole : (n m s : ℕ) → n ≡ m * 2 → 2 * s * m ≡ n * s
pairs_whole n m s e = rw e (omega arith)

pub pairs_end : (n s j : ℕ) (old new : List ℤ) → n % 2 ≡ 0 → length old ≡ n * s → length new ≡ length old → j ≡ n / 2 → PairsChanged s j old new → new ≡ haar_of s old
unfolding haar_of
pairs_end n s j old new even e l i r =
    let w : 2 * s * j ≡ n * s = pairs_whole n j s (omega arith) in
    listed_from new (length old) (haar_item s old) l (λ p h. r.below p (omega arith))

-- a pair of runs is changed whole
pub runs_changed : (s base : ℕ) (old new : List ℤ)
    → ((i : ℕ) → i < s → item new (base + i) ≡ scaled (item old (base + i)) +ℤ scaled (item old (base + s + i)))
    → ((i : ℕ) → i < s → item new (base + s + i) ≡ scaled (item old (base + i)) -ℤ scaled (item old (base + s + i)))
    → ((p : ℕ) → p < base → item new p ≡ item old p)
    → ((p : ℕ) → base + 2 * s ≤ p → item new p ≡ item old p)
    → RunsChanged s base s old new
runs_changed s base old new a b c d = record {
  sums = a;
  differences = b;
  before = c;
  between = λ p h g. absurd (omega arith);
  behind = λ p h. d p (omega arith);
}
