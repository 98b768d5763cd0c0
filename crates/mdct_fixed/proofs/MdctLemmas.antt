-- The turns and the window, by places.
use Rattle.std.proofs.Common.{◌≡◌, ◌≢◌, ℕ, ◌+◌, ◌-◌, ◌*◌, ◌/◌, ◌%◌, ◌^◌, ◌<◌, ◌≤◌, refl, sym, subst, inl, inr, arith, ap, ◌∙◌, List, length, length-set}
use Rattle.std.specs.Prelude.{ℤ, pos, neg_ℤ, ◌-ℤ◌, ◌*ℤ◌, unsigned_abs, slice_set}
use Rattle.std.proofs.lemmas.Int.{ints}
use Rattle.celt_tables.specs.Tables.{window_entry}
use Rattle.celt_tables.proofs.Entries.{window_most}
use Rattle.fixed_math.specs.Rounding.{rounded}
use Rattle.fixed_math.proofs.RoundingLemmas.{product_within, product_rounded}
use Rattle.std.proofs.lemmas.Bool.{cases_eq}
use Rattle.std.proofs.lemmas.List.{get_or-set_same, get_or-set_other}
use Rattle.fixed_math.specs.Items.{item}
use Rattle.mdct_fixed.specs.declared.complex.Complex.{Complex}
use Rattle.mdct_fixed.specs.Numbers.{turned, IsPut}
use Rattle.mdct_fixed.specs.Mdct.{IsSize, turn_angle, weighted}

-- an item after one was set
pub set_here : (xs : List ℤ) (i k : ℕ) (v w : ℤ) → k ≡ i → i < length xs → v ≡ w → item (slice_set xs i v) k ≡ w
set_here xs i k v w e l h = ap (item (slice_set xs i v)) e ∙ get_or-set_same xs i v (pos 0) l ∙ h

pub set_other : (xs : List ℤ) (i k : ℕ) (v : ℤ) → k ≢ i → item (slice_set xs i v) k ≡ item xs k
set_other xs i k v n = get_or-set_other xs i k v (pos 0) n

-- ---- entries of the window

pub entry_size : (k : ℕ) → k < 120 → unsigned_abs (pos (window_entry k)) ≤ 2 ^ 15
entry_size k h = let l = window_most k h in omega arith

pub product_size : (v e : ℤ) (k : ℕ) → k < 120 → e ≡ pos (window_entry k) → unsigned_abs v ≤ 2 ^ 46 → unsigned_abs (v *ℤ e) < 2 ^ 62
product_size v e k h f w =
    let a : unsigned_abs e ≤ 2 ^ 15 = subst (λ z. unsigned_abs z ≤ 2 ^ 15) (sym f) (entry_size k h) in
    let b : unsigned_abs (v *ℤ e) ≤ 2 ^ 61 = product_within v e (2 ^ 46) (2 ^ 15) w a in
    omega arith

pub weighted_size : (v : ℤ) (k n : ℕ) → k < 120 → unsigned_abs v ≤ n → unsigned_abs (weighted v k) ≤ n
weighted_size v k n h w = product_rounded v (pos (window_entry k)) 15 n (2 ^ 15) n (omega arith) w (entry_size k h) (omega arith)

pub weighted_within : (v e : ℤ) (k n : ℕ) (r : ℤ) → k < 120 → e ≡ pos (window_entry k) → r ≡ rounded (v *ℤ e) 15 → unsigned_abs v ≤ n → unsigned_abs r ≤ n
weighted_within v e k n r h f g w = subst (λ z. unsigned_abs z ≤ n) (sym (g ∙ ap (λ x. rounded (v *ℤ x) 15) f)) (weighted_size v k n h w)

-- the mirror's negated value
pub negated : (v w : ℤ) → w ≡ v → pos 0 -ℤ w ≡ neg_ℤ v
negated v w e = omega (arith, ints)

-- ---- the angles of the turns

pub angle_in : (n k : ℕ) → IsSize n → k < n / 2 → turn_angle n k < 3840
angle_in n k s h = elim s [
  | inl e ↦ let l : k < 60 = omega (arith, ap (λ x. x / 2) e) in rw e (omega arith)
  | inr o ↦ elim o [
    | inl e ↦ let l : k < 120 = omega (arith, ap (λ x. x / 2) e) in rw e (omega arith)
    | inr p ↦ elim p [
      | inl e ↦ let l : k < 240 = omega (arith, ap (λ x. x / 2) e) in rw e (omega arith)
      | inr e ↦ let l : k < 480 = omega (arith, ap (λ x. x / 2) e) in rw e (omega arith)
    ]
  ]
]

pub record SizeFacts (n : ℕ) : Type 0 where
  pub even : n % 2 ≡ 0
  pub low : 120 ≤ n
  pub high : n ≤ 960

pub size_facts : (n : ℕ) → IsSize n → SizeFacts n
size_facts n s = elim s [
  | inl e ↦ record { even = omega arith; low = omega arith; high = omega arith }
  | inr o ↦ elim o [
    | inl e ↦ record { even = omega arith; low = omega arith; high = omega arith }
    | inr p ↦ elim p [
      | inl e ↦ record { even = omega arith; low = omega arith; high = omega arith }
      | inr e ↦ record { even = omega arith; low = omega arith; high = omega arith }
    ]
  ]
]

-- one pair more
pub pairs_next : (i : ℕ) (f old new : ℕ → Complex) (z : Complex) → z ≡ f i → IsPut i z old new → ((k : ℕ) → k < i → old k ≡ f k) → (k : ℕ) → k < i + 1 → new k ≡ f k
pairs_next i f old new z e t h k l = elim (cases_eq k i) [
  | inl w ↦ rw w (t.here ∙ e)
  | inr w ↦ t.others k w ∙ h k (smaller k i l w)
]
  where
    smaller : (j k : ℕ) → j < k + 1 → (j ≡ k → ⊥) → j < k
    smaller j k h n = omega arith

-- ---- turned items put from both ends

pub record AreOut (h k : ℕ) (s : ℕ → Complex) (out : List ℤ) : Type 0 where
  pub upwards : (j : ℕ) → j < k → item out (60 + 2 * j) ≡ (turned (s j) (turn_angle (2 * h) j)).im
  pub downwards : (j : ℕ) → j < k → item out (2 * h + 59 - 2 * j) ≡ neg_ℤ (turned (s j) (turn_angle (2 * h) j)).re

pub out_start : (h : ℕ) (s : ℕ → Complex) (out : List ℤ) → AreOut h 0 s out
out_start h s out = record { upwards = λ j l. absurd (omega arith); downwards = λ j l. absurd (omega arith) }

pub out_next : (h k : ℕ) (s : ℕ → Complex) (out : List ℤ) (v w : ℤ) → k < h → length out ≡ 2 * h + 120 → v ≡ (turned (s k) (turn_angle (2 * h) k)).im → w ≡ neg_ℤ (turned (s k) (turn_angle (2 * h) k)).re → AreOut h k s out → AreOut h (k + 1) s (slice_set (slice_set out (60 + 2 * k) v) (2 * h + 59 - 2 * k) w)
out_next h k s out v w l e ev ew r = record { upwards = upwards; downwards = downwards }
  where
    mid : List ℤ
    mid = slice_set out (60 + 2 * k) v

    upwards : (j : ℕ) → j < k + 1 → item (slice_set mid (2 * h + 59 - 2 * k) w) (60 + 2 * j) ≡ (turned (s j) (turn_angle (2 * h) j)).im
    upwards j lj =
        let n : 60 + 2 * j ≢ 2 * h + 59 - 2 * k = omega arith in
        set_other mid (2 * h + 59 - 2 * k) (60 + 2 * j) w n ∙ elim (cases_eq j k) [
          | inl f ↦ rw f (set_here out (60 + 2 * k) (60 + 2 * k) v _ refl (omega arith) ev)
          | inr o ↦
              let m : 60 + 2 * j ≢ 60 + 2 * k = λ f. o (omega arith) in
              set_other out (60 + 2 * k) (60 + 2 * j) v m ∙ r.upwards j (smaller j k lj o)
        ]
      where
        smaller : (j k : ℕ) → j < k + 1 → (j ≡ k → ⊥) → j < k
        smaller j k h n = omega arith

    downwards : (j : ℕ) → j < k + 1 → item (slice_set mid (2 * h + 59 - 2 * k) w) (2 * h + 59 - 2 * j) ≡ neg_ℤ (turned (s j) (turn_angle (2 * h) j)).re
    downwards j lj = elim (cases_eq j k) [
      | inl f ↦ rw f (set_here mid (2 * h + 59 - 2 * k) (2 * h + 59 - 2 * k) w _ refl (omega (arith, length-set out (60 + 2 * k) v)) ew)
      | inr o ↦
          let less : j < k = smaller j k lj o in
          let m : 2 * h + 59 - 2 * j ≢ 2 * h + 59 - 2 * k = λ f. apart h j k less l f in
          let n : 2 * h + 59 - 2 * j ≢ 60 + 2 * k = omega arith in
          set_other mid (2 * h + 59 - 2 * k) (2 * h + 59 - 2 * j) w m ∙ set_other out (60 + 2 * k) (2 * h + 59 - 2 * j) v n ∙ r.downwards j less
    ]
      where
        smaller : (j k : ℕ) → j < k + 1 → (j ≡ k → ⊥) → j < k
        smaller j k h n = omega arith

        apart : (h j k : ℕ) → j < k → k < h → 2 * h + 59 - 2 * j ≡ 2 * h + 59 - 2 * k → ⊥
        apart h j k a b f = omega arith

-- ---- the edges

pub record IsStarted (t : ℕ) (old new : List ℤ) : Type 0 where
  pub first : (u : ℕ) → u < t → item new u ≡ weighted (neg_ℤ (item old (119 - u))) u
  pub second : (u : ℕ) → u < t → item new (119 - u) ≡ weighted (item old (119 - u)) (119 - u)
  pub inside : (i : ℕ) → t ≤ i → i + t < 120 → item new i ≡ item old i
  pub others : (i : ℕ) → 120 ≤ i → item new i ≡ item old i

pub started_start : (old : List ℤ) → IsStarted 0 old old
started_start old = record { first = λ u h. absurd (omega arith); second = λ u h. absurd (omega arith); inside = λ i h l. refl; others = λ i h. refl }

pub started_next : (t : ℕ) (old new : List ℤ) (v w : ℤ) → t < 60 → 120 ≤ length new → v ≡ weighted (neg_ℤ (item old (119 - t))) t → w ≡ weighted (item old (119 - t)) (119 - t) → IsStarted t old new → IsStarted (t + 1) old (slice_set (slice_set new t v) (119 - t) w)
started_next t old new v w l e ev ew r = record { first = first; second = second; inside = inside; others = others }
  where
    mid : List ℤ
    mid = slice_set new t v

    first : (u : ℕ) → u < t + 1 → item (slice_set mid (119 - t) w) u ≡ weighted (neg_ℤ (item old (119 - u))) u
    first u h =
        let n : u ≢ 119 - t = omega arith in
        set_other mid (119 - t) u w n ∙ elim (cases_eq u t) [
          | inl f ↦ rw f (set_here new t t v _ refl (omega arith) ev)
          | inr o ↦ set_other new t u v o ∙ r.first u (smaller u t h o)
        ]
      where
        smaller : (j k : ℕ) → j < k + 1 → (j ≡ k → ⊥) → j < k
        smaller j k h n = omega arith

    second : (u : ℕ) → u < t + 1 → item (slice_set mid (119 - t) w) (119 - u) ≡ weighted (item old (119 - u)) (119 - u)
    second u h = elim (cases_eq u t) [
      | inl f ↦ rw f (set_here mid (119 - t) (119 - t) w _ refl (omega (arith, length-set new t v)) ew)
      | inr o ↦
          let less : u < t = smaller u t h o in
          let m : 119 - u ≢ 119 - t = λ f. apart u t less l f in
          let n : 119 - u ≢ t = omega arith in
          set_other mid (119 - t) (119 - u) w m ∙ set_other new t (119 - u) v n ∙ r.second u less
    ]
      where
        smaller : (j k : ℕ) → j < k + 1 → (j ≡ k → ⊥) → j < k
        smaller j k h n = omega arith

        apart : (u t : ℕ) → u < t → t < 60 → 119 - u ≡ 119 - t → ⊥
        apart u t a b f = omega arith

    inside : (i : ℕ) → t + 1 ≤ i → i + (t + 1) < 120 → item (slice_set mid (119 - t) w) i ≡ item old i
    inside i h k =
        let m : i ≢ 119 - t = omega arith in
        let n : i ≢ t = omega arith in
        set_other mid (119 - t) i w m ∙ set_other new t i v n ∙ r.inside i (omega arith) (omega arith)

    others : (i : ℕ) → 120 ≤ i → item (slice_set mid (119 - t) w) i ≡ item old i
    others i h =
        let m : i ≢ 119 - t = omega arith in
        let n : i ≢ t = omega arith in
        set_other mid (119 - t) i w m ∙ set_other new t i v n ∙ r.others i h

pub record IsEnded (n t : ℕ) (old new : List ℤ) : Type 0 where
  pub first : (u : ℕ) → u < t → item new (n + 59 - u) ≡ weighted (item old (n + 59 - u)) (60 + u)
  pub second : (u : ℕ) → u < t → item new (n + 60 + u) ≡ weighted (item old (n + 59 - u)) (59 - u)
  pub before : (i : ℕ) → i + t < n + 60 → item new i ≡ item old i

pub ended_start : (n : ℕ) (old : List ℤ) → IsEnded n 0 old old
ended_start n old = record { first = λ u h. absurd (omega arith); second = λ u h. absurd (omega arith); before = λ i h. refl }

pub ended_next : (n t : ℕ) (old new : List ℤ) (v w : ℤ) → t < 60 → length new ≡ n + 120 → v ≡ weighted (item old (n + 59 - t)) (60 + t) → w ≡ weighted (item old (n + 59 - t)) (59 - t) → IsEnded n t old new → IsEnded n (t + 1) old (slice_set (slice_set new (n + 59 - t) v) (n + 60 + t) w)
ended_next n t old new v w l e ev ew r = record { first = first; second = second; before = before }
  where
    mid : List ℤ
    mid = slice_set new (n + 59 - t) v

    first : (u : ℕ) → u < t + 1 → item (slice_set mid (n + 60 + t) w) (n + 59 - u) ≡ weighted (item old (n + 59 - u)) (60 + u)
    first u h =
        let m : n + 59 - u ≢ n + 60 + t = omega arith in
        set_other mid (n + 60 + t) (n + 59 - u) w m ∙ elim (cases_eq u t) [
          | inl f ↦ rw f (set_here new (n + 59 - t) (n + 59 - t) v _ refl (omega arith) ev)
          | inr o ↦
              let less : u < t = smaller u t h o in
              let k : n + 59 - u ≢ n + 59 - t = λ f. apart n u t less l f in
              set_other new (n + 59 - t) (n + 59 - u) v k ∙ r.first u less
        ]
      where
        smaller : (j k : ℕ) → j < k + 1 → (j ≡ k → ⊥) → j < k
        smaller j k h n = omega arith

        apart : (n u t : ℕ) → u < t → t < 60 → n + 59 - u ≡ n + 59 - t → ⊥
        apart n u t a b f = omega arith

    second : (u : ℕ) → u < t + 1 → item (slice_set mid (n + 60 + t) w) (n + 60 + u) ≡ weighted (item old (n + 59 - u)) (59 - u)
    second u h = elim (cases_eq u t) [
      | inl f ↦ rw f (set_here mid (n + 60 + t) (n + 60 + t) w _ refl (omega (arith, length-set new (n + 59 - t) v)) ew)
      | inr o ↦
          let less : u < t = smaller u t h o in
          let m : n + 60 + u ≢ n + 60 + t = λ f. o (omega arith) in
          let k : n + 60 + u ≢ n + 59 - t = omega arith in
          set_other mid (n + 60 + t) (n + 60 + u) w m ∙ set_other new (n + 59 - t) (n + 60 + u) v k ∙ r.second u less
    ]
      where
        smaller : (j k : ℕ) → j < k + 1 → (j ≡ k → ⊥) → j < k
        smaller j k h n = omega arith

    before : (i : ℕ) → i + (t + 1) < n + 60 → item (slice_set mid (n + 60 + t) w) i ≡ item old i
    before i h =
        let m : i ≢ n + 60 + t = omega arith in
        let k : i ≢ n + 59 - t = omega arith in
        set_other mid (n + 60 + t) i w m ∙ set_other new (n + 59 - t) i v k ∙ r.before i (omega arith)
