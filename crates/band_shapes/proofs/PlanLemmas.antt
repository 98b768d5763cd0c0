-- Where a band and its source lie, and the masks of the bands that the source touches.
use Rattle.std.proofs.Common.{◌≡◌, ◌≢◌, ◌⊎◌, inl, inr, ℕ, zero, suc, ◌+◌, ◌-◌, ◌*◌, ◌%◌, ◌^◌, ◌<◌, ◌≤◌, sym, subst, arith, refl, ap, ◌∙◌, List, [], ◌++◌, length, take, drop, append_assoc, length-append, length-take, length-drop, add-one, Bool, true, false}
use Rattle.std.specs.Prelude.{ℤ, unsigned_abs, All, nat_eq, nat_le, ◌&&◌, ◌||◌, slice_index, if◌then◌else◌}
use Rattle.std.proofs.lemmas.List.{take_at, get_or_past}
use Rattle.std.proofs.lemmas.Nat.{shl_whole, mul-le, or_lt, pow_pos}
use Rattle.std.proofs.Math.Nat.{pow-le-pow_right}
use Rattle.std.proofs.lemmas.Bool.{le-leb, lt-leb, leb-true, eqb-true, cases_lt, false≢true}
use Rattle.std.proofs.lemmas.List.Elements.{All-take, All-drop}
use Rattle.std.proofs.lemmas.Bool.Decides.{nat_tests}
use Rattle.band_plan.specs.Plans.{band_of, is_two}
use Rattle.tf_change.proofs.OrderLemmas.{holds_below}
use Rattle.celt_base.specs.declared.kind.Kind.{Kind}
use Rattle.celt_tables.specs.Tables.{edge_of, width_of}
use Rattle.band_shapes.specs.declared.node.Layout.{Layout}
use Rattle.band_shapes.specs.declared.plans.Plan.{Plan}
use Rattle.band_shapes.specs.declared.plans.Span.{Span}
use Rattle.band_shapes.specs.Frames.{Symbols, source_at, start_of, count_of, starts_by, starts_from, last_that, first_that, masks_or, fill_at, fill_of, plan_of, has_source, is_own}
use Rattle.band_shapes.proofs.BandFacts.{both_true, one_true, holds_at}

-- the first two of three lists
pub front_two : (s n : ℕ) (xs ys zs : List ℤ) → length xs ≡ s → length ys ≡ n → take (s + n) (xs ++ (ys ++ zs)) ≡ xs ++ ys
front_two s n xs ys zs e f =
    let h : length (xs ++ ys) ≡ s + n = omega (arith, length-append xs ys) in
    ap (take (s + n)) (sym (append_assoc xs ys zs)) ∙ take_at (xs ++ ys) zs (s + n) h

pub source_some : (p : Span) (xs : List ℤ) → p.has ≡ true → take p.count (drop p.from xs) ≡ source_at p xs
unfolding source_at
source_some p xs e = sym (ap (λ b. if b then take p.count (drop p.from xs) else []) e)

pub source_empty : (p : Span) (xs : List ℤ) → p.has ≡ false → [] ≡ source_at p xs
unfolding source_at
source_empty p xs e = sym (ap (λ b. if b then take p.count (drop p.from xs) else []) e)

either_small : (b : Bool) (m : ℕ) (xs : List ℤ) → All (λ v. unsigned_abs v ≤ m) xs → All (λ v. unsigned_abs v ≤ m) (if b then xs else [])
either_small true m xs h = h
either_small false m xs h = λ k d l. absurd (omega arith)

pub source_small : (p : Span) (m : ℕ) (xs : List ℤ) → All (λ v. unsigned_abs v ≤ m) xs → All (λ v. unsigned_abs v ≤ m) (source_at p xs)
unfolding source_at
source_small p m xs h = either_small p.has m (take p.count (drop p.from xs)) (All-take (λ v. unsigned_abs v ≤ m) p.count (drop p.from xs) (All-drop (λ v. unsigned_abs v ≤ m) p.from xs h))

-- the edges: at most 100, each behind the one before by the band's width, and no band but the first wider than what is before it
unfoldable edge_test : ℕ → Bool
edge_test i = nat_le (edge_of i) 100

unfoldable band_test : ℕ → Bool
band_test i = nat_eq (edge_of i + width_of i) (edge_of (suc i)) && ((nat_eq i 0 || nat_le (width_of i) (edge_of i)) && holds_below (λ j. nat_le (edge_of j) (edge_of i)) (suc i))

all_edges : holds_below edge_test 22 ≡ true
unfolding edge_test holds_below
all_edges = refl

all_bands : holds_below band_test 21 ≡ true
unfolding band_test holds_below
all_bands = refl

pub edge_small : (i : ℕ) → i ≤ 21 → edge_of i ≤ 100
unfolding edge_test
edge_small i h = leb-true (edge_of i) 100 (holds_at edge_test 22 i all_edges (omega (arith, h)))

band_at : (i : ℕ) → i ≤ 20 → band_test i ≡ true
band_at i h = holds_at band_test 21 i all_bands (omega (arith, h))

pub edge_next : (i : ℕ) → i ≤ 20 → edge_of i + width_of i ≡ edge_of (suc i)
unfolding band_test
edge_next i h = eqb-true (edge_of i + width_of i) (edge_of (suc i)) (both_true _ _ (band_at i h)).0

pub edge_wide : (i : ℕ) → i ≤ 20 → 1 ≤ i → width_of i ≤ edge_of i
unfolding band_test
edge_wide i h l = elim (one_true _ _ (both_true _ _ (both_true _ _ (band_at i h)).1).0) [
  | inl e ↦ let z : i ≡ 0 = eqb-true i 0 e in absurd (omega (arith, z, l))
  | inr e ↦ leb-true (width_of i) (edge_of i) e
]

pub edge_rises : (j i : ℕ) → i ≤ 20 → j ≤ i → edge_of j ≤ edge_of i
unfolding band_test
edge_rises j i h l = leb-true (edge_of j) (edge_of i) (holds_at (λ k. nat_le (edge_of k) (edge_of i)) (suc i) j (both_true _ _ (both_true _ _ (band_at i h)).1).1 (omega (arith, l)))

pub start_is : (kind : Kind) (i e : ℕ) → e ≡ edge_of i → i ≤ 21 → e * 2 ^ kind.lm % 18446744073709551616 ≡ start_of kind i
unfolding start_of
start_is kind i e h l =
    let small : e < 2 ^ 8 = omega (arith, h, edge_small i l) in
    let most = kind.sized in
    shl_whole e 8 kind.lm 64 small (omega (arith, most)) ∙ ap (λ z. z * 2 ^ kind.lm) h

pub start_most : (kind : Kind) (i : ℕ) → i ≤ 21 → start_of kind i ≤ 800
unfolding start_of
start_most kind i l =
    let most = kind.sized in
    let p : 2 ^ kind.lm ≤ 2 ^ 3 = pow-le-pow_right {n = 2} (omega arith) {i = kind.lm} {j = 3} most in
    mul-le (edge_of i) (2 ^ kind.lm) 100 8 (edge_small i l) p

pub count_is : (kind : Kind) (i w : ℕ) → w ≡ width_of i → w ≤ 22 → w * 2 ^ kind.lm % 18446744073709551616 ≡ count_of kind i
unfolding count_of
count_is kind i w h l =
    let small : w < 2 ^ 8 = omega (arith, l) in
    let most = kind.sized in
    shl_whole w 8 kind.lm 64 small (omega (arith, most)) ∙ ap (λ z. z * 2 ^ kind.lm) h

pub count_most : (kind : Kind) (i w : ℕ) → w ≡ width_of i → w ≤ 22 → count_of kind i ≤ 176
unfolding count_of
count_most kind i w h l =
    let most = kind.sized in
    let p : 2 ^ kind.lm ≤ 2 ^ 3 = pow-le-pow_right {n = 2} (omega arith) {i = kind.lm} {j = 3} most in
    mul-le (width_of i) (2 ^ kind.lm) 22 8 (omega (arith, h, l)) p

pub start_next : (kind : Kind) (i : ℕ) → i ≤ 20 → start_of kind i + count_of kind i ≡ start_of kind (suc i)
unfolding start_of count_of
start_next kind i h = omega (arith, ap (λ z. z * 2 ^ kind.lm) (edge_next i h))

pub start_rises : (kind : Kind) (j i : ℕ) → i ≤ 20 → j ≤ i → start_of kind j ≤ start_of kind i
unfolding start_of
start_rises kind j i h l = mul-le (edge_of j) (2 ^ kind.lm) (edge_of i) (2 ^ kind.lm) (edge_rises j i h l) (omega arith)

pub start_wide : (kind : Kind) (i : ℕ) → i ≤ 20 → 1 ≤ i → count_of kind i ≤ start_of kind i
unfolding start_of count_of
start_wide kind i h l = mul-le (width_of i) (2 ^ kind.lm) (edge_of i) (2 ^ kind.lm) (edge_wide i h l) (omega arith)

source_low : (e : Layout) (tf : ℤ) (low : ℕ) → has_source e tf low ≡ true → 1 ≤ low
unfolding has_source
source_low e tf zero h = absurd (false≢true h)
source_low e tf (suc low) h = omega arith

-- a source ends before its band
pub source_ends : (kind : Kind) (e : Layout) (tf : ℤ) (i low : ℕ) → i ≤ 20 → low ≤ i → e.count ≡ count_of kind i → (plan_of kind e tf i low).span.has ≡ true → (plan_of kind e tf i low).span.from + e.count ≤ start_of kind i
unfolding plan_of
source_ends kind e tf i low h l n has =
    let some : 1 ≤ low = source_low e tf low has in
    let rises = start_rises kind low i h l in
    let wide = start_wide kind i h (omega (arith, some, l)) in
    elim (cases_lt (start_of kind low) e.count) [
      | inl less ↦ omega (arith, less, wide, n)
      | inr more ↦ omega (arith, more, rises)
    ]

pub by_true : (kind : Kind) (place k r : ℕ) → r ≡ start_of kind k → r ≤ place → starts_by kind place k ≡ true
by_true kind place k r e h = le-leb (start_of kind k) place (omega arith)

pub by_false : (kind : Kind) (place k r : ℕ) → r ≡ start_of kind k → place < r → starts_by kind place k ≡ false
by_false kind place k r e h = lt-leb (start_of kind k) place (omega arith)

pub from_true : (kind : Kind) (place k r : ℕ) → r ≡ start_of kind k → place ≤ r → starts_from kind place k ≡ true
from_true kind place k r e h = le-leb place (start_of kind k) (omega arith)

pub from_false : (kind : Kind) (place k r : ℕ) → r ≡ start_of kind k → r < place → starts_from kind place k ≡ false
from_false kind place k r e h = lt-leb place (start_of kind k) (omega arith)

pub last_no : (test : ℕ → Bool) (k j : ℕ) → k ≡ suc j → test j ≡ false → last_that test k ≡ last_that test j
unfolding last_that
last_no test k j h e = rw h (ap (λ b. if b then j else last_that test j) e)

pub last_yes : (test : ℕ → Bool) (k j : ℕ) → k ≡ suc j → test j ≡ true → last_that test k ≡ j
unfolding last_that
last_yes test k j h e = rw h (ap (λ b. if b then j else last_that test j) e)

pub last_end : (test : ℕ → Bool) (k : ℕ) → k ≤ 0 → last_that test k ≡ 0
unfolding last_that
last_end test zero h = refl
last_end test (suc k) h = absurd (omega arith)

first_step : (test : ℕ → Bool) (m k : ℕ) (b : Bool) → test k ≡ b → first_that test (suc m) k ≡ (if b then k else first_that test m (suc k))
unfolding first_that
first_step test m k b e = ap (λ z. if z then k else first_that test m (suc k)) e

pub first_no : (test : ℕ → Bool) (k : ℕ) → k < 21 → test k ≡ false → first_that test (21 - k) k ≡ first_that test (21 - (k + 1)) (k + 1)
first_no test k h e =
    let p : 21 - k ≡ suc (21 - (k + 1)) = omega arith in
    ap (λ m. first_that test m k) p ∙ (first_step test (21 - (k + 1)) k false e ∙ rw add-one refl)

pub first_yes : (test : ℕ → Bool) (k : ℕ) → k < 21 → test k ≡ true → first_that test (21 - k) k ≡ k
first_yes test k h e =
    let p : 21 - k ≡ suc (21 - (k + 1)) = omega arith in
    ap (λ m. first_that test m k) p ∙ first_step test (21 - (k + 1)) k true e

pub first_end : (test : ℕ → Bool) (k : ℕ) → k ≡ 21 → first_that test (21 - k) k ≡ 21
unfolding first_that
first_end test k e = rw e refl

-- masks keep their size
read_small : (b : ℕ) (masks : List ℕ) (k : ℕ) → All (λ m. m < 2 ^ b) masks → slice_index masks k < 2 ^ b
read_small b masks k h = elim (cases_lt k (length masks)) [
  | inl l ↦ h k 0 l
  | inr l ↦ let e : slice_index masks k ≡ 0 = get_or_past masks k 0 l in subst (λ z. z < 2 ^ b) (sym e) (pow_pos b)
]

pub masks_small : (b : ℕ) (masks : List ℕ) (f k : ℕ) → All (λ m. m < 2 ^ b) masks → masks_or masks f k < 2 ^ b
unfolding masks_or
masks_small b masks f zero h = pow_pos b
masks_small b masks f (suc k) h = or_lt b (masks_or masks f k) (slice_index masks (f + k)) (masks_small b masks f k h) (read_small b masks (f + k) h)

either_below : (b : Bool) (m n k : ℕ) → m < k → n < k → (if b then m else n) < k
either_below true m n k h g = h
either_below false m n k h g = g

fill_either : (kind : Kind) (b : ℕ) (p : Plan) (masks : List ℕ) → All (λ m. m < 2 ^ b) masks → (if p.span.has then fill_at kind p masks else 2 ^ b - 1) < 2 ^ b
unfolding fill_at
fill_either kind b p masks h =
    either_below p.span.has (fill_at kind p masks) (2 ^ b - 1) (2 ^ b)
    (masks_small b masks (last_that (starts_by kind p.span.from) p.low) (first_that (starts_from kind (p.span.from + p.span.count)) (21 - p.low) p.low - last_that (starts_by kind p.span.from) p.low) h)
    (omega (arith, pow_pos b))

pub fill_small : (kind : Kind) (b : ℕ) (p : Plan) (masks : List ℕ) (r : ℕ) → r ≡ fill_of kind b p masks → All (λ m. m < 2 ^ b) masks → r < 2 ^ b
unfolding fill_of
fill_small kind b p masks r e h = subst (λ z. z < 2 ^ b) (sym e) (fill_either kind b p masks h)

pub source_length : (p : Span) (xs : List ℤ) → (p.has ≡ true → p.from + p.count ≤ length xs) → (length (source_at p xs) ≡ 0) ⊎ (length (source_at p xs) ≡ p.count)
source_length p xs h = by_test p.has refl
  where
    by_test : (b : Bool) → p.has ≡ b → (length (source_at p xs) ≡ 0) ⊎ (length (source_at p xs) ≡ p.count)
    by_test true e =
        let l : p.from + p.count ≤ length xs = h e in
        inr (omega (arith, ap length (source_some p xs e), length-take p.count (drop p.from xs), length-drop p.from xs))
    by_test false e = inl (omega (arith, ap length (source_empty p xs e)))

-- which bands have two channels coded by themselves
two_is : (kind : Kind) (s : Symbols) (i : ℕ) → is_two (band_of kind s.settings s.intensity i) s.dual kind.channels ≡ (is_own s i || (nat_eq kind.channels 2 && nat_eq (count_of kind i) 1))
unfolding is_two band_of is_own count_of
two_is kind s i = refl

pub two_own : (kind : Kind) (s : Symbols) (i : ℕ) → is_own s i ≡ true → true ≡ is_two (band_of kind s.settings s.intensity i) s.dual kind.channels
two_own kind s i h = sym (two_is kind s i ∙ ap (λ b. b || (nat_eq kind.channels 2 && nat_eq (count_of kind i) 1)) h)

pub two_mono : (kind : Kind) (s : Symbols) (i : ℕ) → is_own s i ≡ false → kind.channels ≢ 2 → false ≡ is_two (band_of kind s.settings s.intensity i) s.dual kind.channels
two_mono kind s i h n =
    let t : nat_eq kind.channels 2 ≡ false = grind (arith, nat_tests, n) in
    sym (two_is kind s i ∙ (ap (λ b. b || (nat_eq kind.channels 2 && nat_eq (count_of kind i) 1)) h ∙ ap (λ b. b && nat_eq (count_of kind i) 1) t))

pub two_one : (kind : Kind) (s : Symbols) (i n : ℕ) → is_own s i ≡ false → kind.channels ≡ 2 → n ≡ count_of kind i → nat_eq n 1 ≡ is_two (band_of kind s.settings s.intensity i) s.dual kind.channels
two_one kind s i n h c e =
    let t : nat_eq kind.channels 2 ≡ true = grind (arith, nat_tests, c) in
    ap (λ z. nat_eq z 1) e ∙ sym (two_is kind s i ∙ (ap (λ b. b || (nat_eq kind.channels 2 && nat_eq (count_of kind i) 1)) h ∙ ap (λ b. b && nat_eq (count_of kind i) 1) t))
