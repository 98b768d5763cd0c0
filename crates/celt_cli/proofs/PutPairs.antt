-- Pairs that are written into a window, one after the other.
use Rattle.std.proofs.Common.{◌≡◌, ℕ, ℤ, pos, ◌+◌, ◌*◌, ◌<◌, arith, refl, subst, ◌∙◌, List, length, slice_set, inl, inr}
use Rattle.std.proofs.lemmas.Bool.{cases_eq}
use Rattle.std.proofs.lemmas.List.{get_or-set_same, get_or-set_other, length-set}
use Rattle.fixed_math.specs.Items.{item}
use Rattle.celt_cli.specs.declared.generator.GenSettings.{GenSettings}
use Rattle.celt_cli.specs.declared.pairs.GenPairs.{GenPairs}
use Rattle.celt_cli.specs.GenPairs.{GavePairs, pair_in}

-- the first k pairs behind the lead
pub record Put (first items : List ℤ) (start pairs : GenPairs) (k : ℕ) : Type 0 where
  pub len : length items ≡ 4210
  pub lead : (place : ℕ) → place < 2290 → item items place ≡ item first place
  pub gave : (settings : GenSettings) (count : ℕ) → GavePairs settings count start → GavePairs settings (count + k) pairs
  pub left : (settings : GenSettings) (count : ℕ) → GavePairs settings count start → (j : ℕ) → j < k → item items (2290 + 2 * j) ≡ (pair_in settings (count + j)).0
  pub right : (settings : GenSettings) (count : ℕ) → GavePairs settings count start → (j : ℕ) → j < k → item items (2290 + 2 * j + 1) ≡ (pair_in settings (count + j)).1

pub none_put : (items : List ℤ) (pairs : GenPairs) → length items ≡ 4210 → Put items items pairs pairs 0
none_put items pairs len = record {
  len = len;
  lead = λ place h. refl;
  gave = λ settings count h. let e : count ≡ count + 0 = omega arith in subst (λ n. GavePairs settings n pairs) e h;
  left = λ settings count h j less. absurd (omega arith);
  right = λ settings count h j less. absurd (omega arith);
}

-- both samples of a pair are written
abbrev pub with_pair : List ℤ → ℕ → ℤ → ℤ → List ℤ
with_pair items k l r = slice_set (slice_set items (2290 + 2 * k) l) (2290 + 2 * k + 1) r

other_place : (items : List ℤ) (k place : ℕ) (l r : ℤ) → (place ≡ 2290 + 2 * k → ⊥) → (place ≡ 2290 + 2 * k + 1 → ⊥) → item (with_pair items k l r) place ≡ item items place
other_place items k place l r f s =
    get_or-set_other (slice_set items (2290 + 2 * k) l) (2290 + 2 * k + 1) place r (pos 0) s ∙ get_or-set_other items (2290 + 2 * k) place l (pos 0) f

left_place : (items : List ℤ) (k : ℕ) (l r : ℤ) → 2290 + 2 * k < length items → item (with_pair items k l r) (2290 + 2 * k) ≡ l
left_place items k l r h =
    let other : 2290 + 2 * k ≡ 2290 + 2 * k + 1 → ⊥ = λ e. omega arith in
    get_or-set_other (slice_set items (2290 + 2 * k) l) (2290 + 2 * k + 1) (2290 + 2 * k) r (pos 0) other ∙ get_or-set_same items (2290 + 2 * k) l (pos 0) h

right_place : (items : List ℤ) (k : ℕ) (l r : ℤ) → 2290 + 2 * k + 1 < length items → item (with_pair items k l r) (2290 + 2 * k + 1) ≡ r
right_place items k l r h =
    let len : length (slice_set items (2290 + 2 * k) l) ≡ length items = length-set items (2290 + 2 * k) l in
    get_or-set_same (slice_set items (2290 + 2 * k) l) (2290 + 2 * k + 1) r (pos 0) (omega arith)

smaller : (p i : ℕ) → p < i + 1 → (p ≡ i → ⊥) → p < i
smaller p i q n = omega arith

pub next_put : (first items : List ℤ) (start pairs next : GenPairs) (k : ℕ) (l r : ℤ) → k < 960 → Put first items start pairs k
    → ((settings : GenSettings) (count : ℕ) → GavePairs settings count pairs → l ≡ (pair_in settings count).0)
    → ((settings : GenSettings) (count : ℕ) → GavePairs settings count pairs → r ≡ (pair_in settings count).1)
    → ((settings : GenSettings) (count : ℕ) → GavePairs settings count pairs → GavePairs settings (count + 1) next)
    → Put first (with_pair items k l r) start next (k + 1)
next_put first items start pairs next k l r less p el er g =
    let len = p.len in
    record {
      len = length-set (slice_set items (2290 + 2 * k) l) (2290 + 2 * k + 1) r ∙ length-set items (2290 + 2 * k) l ∙ p.len;
      lead = λ place h. other_place items k place l r (λ e. omega arith) (λ e. omega arith) ∙ p.lead place h;
      gave = λ settings count h. let e : count + k + 1 ≡ count + (k + 1) = omega arith in subst (λ n. GavePairs settings n next) e (g settings (count + k) (p.gave settings count h));
      left = λ settings count h j below. lefts settings count h j below;
      right = λ settings count h j below. rights settings count h j below;
    }
  where
    lefts : (settings : GenSettings) (count : ℕ) → GavePairs settings count start → (j : ℕ) → j < k + 1 → item (with_pair items k l r) (2290 + 2 * j) ≡ (pair_in settings (count + j)).0
    lefts settings count h j below = elim (cases_eq j k) [
      | inl same ↦ rw same (left_place items k l r (omega (arith, p.len)) ∙ el settings (count + k) (p.gave settings count h))
      | inr n ↦ other_place items k (2290 + 2 * j) l r (λ e. n (omega arith)) (λ e. omega arith) ∙ p.left settings count h j (smaller j k below n)
    ]

    rights : (settings : GenSettings) (count : ℕ) → GavePairs settings count start → (j : ℕ) → j < k + 1 → item (with_pair items k l r) (2290 + 2 * j + 1) ≡ (pair_in settings (count + j)).1
    rights settings count h j below = elim (cases_eq j k) [
      | inl same ↦ rw same (right_place items k l r (omega (arith, p.len)) ∙ er settings (count + k) (p.gave settings count h))
      | inr n ↦ other_place items k (2290 + 2 * j + 1) l r (λ e. omega arith) (λ e. n (omega arith)) ∙ p.right settings count h j (smaller j k below n)
    ]
