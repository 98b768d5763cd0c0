-- The rows of the order of Hadamard sequences, and blocks and places.
use Rattle.std.proofs.Common.{◌≡◌, ℕ, zero, suc, ◌+◌, ◌-◌, ◌*◌, ◌/◌, ◌%◌, ◌<◌, ◌≤◌, sym, subst, inl, inr, arith, refl, ap, ◌∙◌, List, [], ◌∷◌, length, Bool, true, false, ◌&&◌}
use Rattle.std.specs.Prelude.{ℤ, IsTrue, nat_eq, nat_lt, slice_index, unsigned_abs, All}
use Rattle.std.proofs.lemmas.Nat.{div-mul-add, mod-mul-add, mul-add-lt, mod_below, div_below, div-add-mod'}
use Rattle.std.proofs.lemmas.Bool.{cases_lt, and_parts, eqb-true, ltb-true}
use Rattle.fixed_math.specs.Items.{item}
use Rattle.tf_change.specs.Order.{HasRow, hadamard_rows, index_of, place_of, block_at, ordered, unordered}
use Rattle.fixed_math.proofs.ItemLemmas.{item-listed, length-listed, same_items, all_listed, item_within}

-- a test that holds of each number below a bound, and what it says of one of them
unfoldable pub holds_below : (ℕ → Bool) → ℕ → Bool
holds_below p zero = true
holds_below p (suc n) = p n && holds_below p n

pub holds-at : (p : ℕ → Bool) (n k : ℕ) → holds_below p n ≡ true → k < n → p k ≡ true
unfolding holds_below
holds-at p zero k e h = absurd (omega arith)
holds-at p (suc n) k e h = elim (cases_lt k n) [
  | inl less ↦ holds-at p n k (and_parts _ _ e).1 less
  | inr last ↦ let same : k ≡ n = omega arith in rw same (and_parts _ _ e).0
]

-- the blocks at the places, as the code has them
unfoldable pub block_rows : List ℕ
block_rows =
    1 ∷ 0 ∷ 1 ∷ 3 ∷ 2 ∷ 0 ∷ 1 ∷ 5 ∷ 7 ∷ 3 ∷ 2 ∷ 6 ∷ 4 ∷ 0 ∷ 1 ∷ 9 ∷ 13 ∷ 5 ∷ 7 ∷ 15 ∷ 11 ∷ 3 ∷ 2 ∷ 10 ∷ 14 ∷ 6 ∷ 4 ∷ 12 ∷ 8 ∷ 0 ∷ []

unfoldable pub row_test : ℕ → ℕ → Bool
row_test s k =
    nat_lt (place_of true s k) s && (nat_lt (block_at true s k) s && (nat_eq (block_at true s (place_of true s k)) k && (nat_eq (place_of true s (block_at true s k)) k && nat_eq (slice_index block_rows (s - 2 + k)) (block_at true s k))))

pub record RowFacts (hadamard : Bool) (s k : ℕ) : Type 0 where
  pub place_below : place_of hadamard s k < s
  pub block_below : block_at hadamard s k < s
  pub back : block_at hadamard s (place_of hadamard s k) ≡ k
  pub there : place_of hadamard s (block_at hadamard s k) ≡ k

row_parts : (s k : ℕ) → row_test s k ≡ true → RowFacts true s k × (slice_index block_rows (s - 2 + k) ≡ block_at true s k)
unfolding row_test
row_parts s k h =
    let a = and_parts _ _ h in
    let b = and_parts _ _ a.1 in
    let c = and_parts _ _ b.1 in
    let d = and_parts _ _ c.1 in (
      record {
        place_below = ltb-true _ _ a.0;
        block_below = ltb-true _ _ b.0;
        back = eqb-true _ _ c.0;
        there = eqb-true _ _ d.0;
      },
      eqb-true _ _ d.1,
    )

tested_2 : holds_below (row_test 2) 2 ≡ true
unfolding holds_below row_test block_rows hadamard_rows index_of place_of block_at
tested_2 = refl

tested_4 : holds_below (row_test 4) 4 ≡ true
unfolding holds_below row_test block_rows hadamard_rows index_of place_of block_at
tested_4 = refl

tested_8 : holds_below (row_test 8) 8 ≡ true
unfolding holds_below row_test block_rows hadamard_rows index_of place_of block_at
tested_8 = refl

tested_16 : holds_below (row_test 16) 16 ≡ true
unfolding holds_below row_test block_rows hadamard_rows index_of place_of block_at
tested_16 = refl

row_holds : (s k : ℕ) → HasRow s → k < s → row_test s k ≡ true
row_holds s k r h = elim r [
  | inl e ↦ rw e (holds-at (row_test 2) 2 k tested_2 (omega arith))
  | inr r4 ↦ elim r4 [
    | inl e ↦ rw e (holds-at (row_test 4) 4 k tested_4 (omega arith))
    | inr r8 ↦ elim r8 [
      | inl e ↦ rw e (holds-at (row_test 8) 8 k tested_8 (omega arith))
      | inr e ↦ rw e (holds-at (row_test 16) 16 k tested_16 (omega arith))
    ]
  ]
]

pub row_facts : (hadamard : Bool) (s k : ℕ) → (IsTrue hadamard → HasRow s) → k < s → RowFacts hadamard s k
unfolding place_of block_at
row_facts true s k r h = (row_parts s k (row_holds s k (r refl) h)).0
row_facts false s k r h = record { place_below = h; block_below = h; back = refl; there = refl }

-- the place of item j of a block, and back
pub length-ordered : (n s : ℕ) (hadamard : Bool) (xs : List ℤ) → length (ordered n s hadamard xs) ≡ length xs
unfolding ordered
length-ordered n s hadamard xs = length-listed (length xs) (λ p. item xs (p % n * s + block_at hadamard s (p / n)))

pub length-unordered : (n s : ℕ) (hadamard : Bool) (xs : List ℤ) → length (unordered n s hadamard xs) ≡ length xs
unfolding unordered
length-unordered n s hadamard xs = length-listed (length xs) (λ p. item xs (place_of hadamard s (p % s) * n + p / s))

pub item-ordered : (n s : ℕ) (hadamard : Bool) (xs : List ℤ) (k j : ℕ) → length xs ≡ n * s → k < s → j < n → item (ordered n s hadamard xs) (k * n + j) ≡ item xs (j * s + block_at hadamard s k)
unfolding ordered
item-ordered n s hadamard xs k j e h l =
    let p : k * n + j < length xs = rw e (mul-add-lt k n j s h l) in
    item-listed (length xs) (λ p. item xs (p % n * s + block_at hadamard s (p / n))) (k * n + j) p
    ∙ ap (λ i. item xs (i * s + block_at hadamard s ((k * n + j) / n))) (mod-mul-add k n j l)
    ∙ ap (λ i. item xs (j * s + block_at hadamard s i)) (div-mul-add k n j l)

pub item-unordered : (n s : ℕ) (hadamard : Bool) (xs : List ℤ) (j i : ℕ) → length xs ≡ n * s → i < s → j < n → item (unordered n s hadamard xs) (j * s + i) ≡ item xs (place_of hadamard s i * n + j)
unfolding unordered
item-unordered n s hadamard xs j i e h l =
    let q : j * s + i < s * n = mul-add-lt j s i n l h in
    let p : j * s + i < length xs = omega arith in
    item-listed (length xs) (λ p. item xs (place_of hadamard s (p % s) * n + p / s)) (j * s + i) p
    ∙ ap (λ k. item xs (place_of hadamard s k * n + (j * s + i) / s)) (mod-mul-add j s i h)
    ∙ ap (λ k. item xs (place_of hadamard s i * n + k)) (div-mul-add j s i h)

pub moves : (xs : List ℤ) (n s i j : ℕ) (hadamard : Bool) → (IsTrue hadamard → HasRow s) → length xs ≡ n * s → i < s → j < n → item (ordered n s hadamard xs) (place_of hadamard s i * n + j) ≡ item xs (j * s + i)
moves xs n s i j hadamard r e h l =
    let f = row_facts hadamard s i r h in
    item-ordered n s hadamard xs (place_of hadamard s i) j e f.place_below l ∙ ap (λ k. item xs (j * s + k)) f.back

-- a place as item and block
some_width : (p n s : ℕ) → p < n * s → 0 < s
some_width p n zero h = absurd (omega arith)
some_width p n (suc s) h = omega arith

some_items : (p n s : ℕ) → p < n * s → 0 < n
some_items p zero s h = absurd (omega arith)
some_items p (suc n) s h = omega arith

pub back : (xs : List ℤ) (n s : ℕ) (hadamard : Bool) → (IsTrue hadamard → HasRow s) → length xs ≡ n * s → unordered n s hadamard (ordered n s hadamard xs) ≡ xs
back xs n s hadamard r e =
    same_items (unordered n s hadamard (ordered n s hadamard xs)) xs long (λ p l. at p (omega (arith, long)))
  where
    many : length (ordered n s hadamard xs) ≡ n * s
    many = length-ordered n s hadamard xs ∙ e

    long : length (unordered n s hadamard (ordered n s hadamard xs)) ≡ length xs
    long = length-unordered n s hadamard (ordered n s hadamard xs) ∙ length-ordered n s hadamard xs

    at : (p : ℕ) → p < n * s → item (unordered n s hadamard (ordered n s hadamard xs)) p ≡ item xs p
    at p h =
        let w : 0 < s = some_width p n s h in
        let i : p % s < s = mod_below p s w in
        let j : p / s < n = div_below p s n w h in
        let a = item-unordered n s hadamard (ordered n s hadamard xs) (p / s) (p % s) many i j in
        let b = moves xs n s (p % s) (p / s) hadamard r e i j in
        subst (λ q. item (unordered n s hadamard (ordered n s hadamard xs)) q ≡ item xs q) (div-add-mod' p s) (a ∙ b)

pub there : (xs : List ℤ) (n s : ℕ) (hadamard : Bool) → (IsTrue hadamard → HasRow s) → length xs ≡ n * s → ordered n s hadamard (unordered n s hadamard xs) ≡ xs
there xs n s hadamard r e =
    same_items (ordered n s hadamard (unordered n s hadamard xs)) xs long (λ p l. at p (omega (arith, long)))
  where
    many : length (unordered n s hadamard xs) ≡ n * s
    many = length-unordered n s hadamard xs ∙ e

    long : length (ordered n s hadamard (unordered n s hadamard xs)) ≡ length xs
    long = length-ordered n s hadamard (unordered n s hadamard xs) ∙ length-unordered n s hadamard xs

    at : (p : ℕ) → p < n * s → item (ordered n s hadamard (unordered n s hadamard xs)) p ≡ item xs p
    at p h =
        let w : 0 < n = some_items p n s h in
        let j : p % n < n = mod_below p n w in
        let g : p < s * n = omega arith in
        let k : p / n < s = div_below p n s w g in
        let f = row_facts hadamard s (p / n) r k in
        let a = item-ordered n s hadamard (unordered n s hadamard xs) (p / n) (p % n) many k j in
        let b = item-unordered n s hadamard xs (p % n) (block_at hadamard s (p / n)) e f.block_below j in
        let c = ap (λ q. item xs (q * n + p % n)) f.there in
        subst (λ q. item (ordered n s hadamard (unordered n s hadamard xs)) q ≡ item xs q) (div-add-mod' p n) (a ∙ b ∙ c)

-- each order keeps what bounds all items
pub ordered_size : (n s m : ℕ) (hadamard : Bool) (xs ys : List ℤ) → ys ≡ ordered n s hadamard xs → All (λ v. unsigned_abs v ≤ m) xs → All (λ v. unsigned_abs v ≤ m) ys
unfolding ordered
ordered_size n s m hadamard xs ys e h =
    all_listed (λ v. unsigned_abs v ≤ m) ys (length xs) (λ p. item xs (p % n * s + block_at hadamard s (p / n))) e (λ p l. item_within xs m _ h)

pub unordered_size : (n s m : ℕ) (hadamard : Bool) (xs ys : List ℤ) → ys ≡ unordered n s hadamard xs → All (λ v. unsigned_abs v ≤ m) xs → All (λ v. unsigned_abs v ≤ m) ys
unfolding unordered
unordered_size n s m hadamard xs ys e h =
    all_listed (λ v. unsigned_abs v ≤ m) ys (length xs) (λ p. item xs (place_of hadamard s (p % s) * n + p / s)) e (λ p l. item_within xs m _ h)

-- the rows by doubling
unfoldable pub double_test : ℕ → ℕ → Bool
double_test s m =
    nat_eq (place_of true (2 * s) (2 * m)) (s + place_of true s m) && nat_eq (place_of true (2 * s) (2 * m + 1) + place_of true s m) (s - 1)

doubled_2 : holds_below (double_test 2) 2 ≡ true
unfolding holds_below double_test hadamard_rows place_of
doubled_2 = refl

doubled_4 : holds_below (double_test 4) 4 ≡ true
unfolding holds_below double_test hadamard_rows place_of
doubled_4 = refl

doubled_8 : holds_below (double_test 8) 8 ≡ true
unfolding holds_below double_test hadamard_rows place_of
doubled_8 = refl

double_holds : (s m : ℕ) → HasRow s → s ≤ 8 → m < s → double_test s m ≡ true
double_holds s m r b h = elim r [
  | inl e ↦ rw e (holds-at (double_test 2) 2 m doubled_2 (omega arith))
  | inr r4 ↦ elim r4 [
    | inl e ↦ rw e (holds-at (double_test 4) 4 m doubled_4 (omega arith))
    | inr r8 ↦ elim r8 [
      | inl e ↦ rw e (holds-at (double_test 8) 8 m doubled_8 (omega arith))
      | inr e ↦ absurd (omega arith)
    ]
  ]
]

pub doubled : (s m : ℕ) → HasRow s → s ≤ 8 → m < s → (place_of true (2 * s) (2 * m) ≡ s + place_of true s m) × (place_of true (2 * s) (2 * m + 1) + place_of true s m ≡ s - 1)
unfolding double_test
doubled s m r b h =
    let a = and_parts _ _ (double_holds s m r b h) in
    (eqb-true _ _ a.0, eqb-true _ _ a.1)

pub first_row : (place_of true 2 0 ≡ 1) × (place_of true 2 1 ≡ 0)
unfolding hadamard_rows place_of
first_row = (refl, refl)

-- the code's tables
pub place_entry : (hadamard : Bool) (s i : ℕ) → hadamard ≡ true → slice_index hadamard_rows (s - 2 + i) ≡ place_of hadamard s i
unfolding place_of
place_entry hadamard s i e = rw e refl

pub place_plain : (hadamard : Bool) (s i : ℕ) → hadamard ≡ false → i ≡ place_of hadamard s i
unfolding place_of
place_plain hadamard s i e = rw e refl

pub block_entry : (hadamard : Bool) (s k : ℕ) → hadamard ≡ true → (IsTrue hadamard → HasRow s) → k < s → slice_index block_rows (s - 2 + k) ≡ block_at hadamard s k
block_entry hadamard s k e r h = subst (λ b. slice_index block_rows (s - 2 + k) ≡ block_at b s k) (sym e) (row_parts s k (row_holds s k (r e) h)).1

pub block_plain : (hadamard : Bool) (s k : ℕ) → hadamard ≡ false → k ≡ block_at hadamard s k
unfolding block_at
block_plain hadamard s k e = rw e refl
