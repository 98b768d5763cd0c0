-- Exchanges of places one after the other, and the tables of partners.
use Rattle.std.proofs.Common.{◌≡◌, ◌≢◌, ℕ, zero, suc, ◌+◌, ◌-◌, ◌<◌, ◌≤◌, refl, sym, inl, inr, arith, ap, ◌∙◌, List, [], ◌∷◌, length, get_or, length-set, Bool, true, ◌&&◌}
use Rattle.std.specs.Prelude.{nat_eq, nat_le, nat_lt, slice_index}
use Rattle.std.specs.List.{range_with_len}
use Rattle.std.proofs.lemmas.Bool.{cases_eq, and_parts, eqb-true, leb-true, ltb-true}
use Rattle.std.proofs.lemmas.List.{get_or-set_same, get_or-set_other}
use Rattle.std.proofs.lemmas.List.FromFn.{get_or-range_with_len, length-range_with_len}
use Rattle.mdct_fixed.specs.declared.complex.Complex.{Complex}
use Rattle.mdct_fixed.specs.declared.digits.TheConstants.{PARTNERS_60, PARTNERS_120, PARTNERS_240, PARTNERS_480}
use Rattle.mdct_fixed.specs.Exchanges.{IsExchanged, traded, behind, sources, emitted}
use Rattle.mdct_fixed.specs.Transform.{radix, size, radices_by, radices, reversed}

-- ---- one exchange in a list of sources

traded_first : (d : ℕ) (xs : List ℕ) → get_or (traded d xs) 0 0 ≡ get_or xs d 0
unfolding traded
traded_first d [] = refl
traded_first zero (x ∷ xs) = refl
traded_first (suc d) (x ∷ xs) = refl

traded_partner : (d : ℕ) (xs : List ℕ) → d < length xs → get_or (traded d xs) d 0 ≡ get_or xs 0 0
unfolding traded
traded_partner d [] h = absurd (omega arith)
traded_partner zero (x ∷ xs) h = refl
traded_partner (suc d) (x ∷ xs) h = get_or-set_same xs d x 0 (omega arith)

traded_other : (d : ℕ) (xs : List ℕ) (i : ℕ) → (suc i ≡ d → ⊥) → get_or (traded d xs) (suc i) 0 ≡ get_or xs (suc i) 0
unfolding traded
traded_other d [] i n = refl
traded_other zero (x ∷ xs) i n = refl
traded_other (suc d) (x ∷ xs) i n =
    let ne : i ≢ d = λ e. n (ap suc e) in
    get_or-set_other xs d i x 0 ne

length-traded : (d : ℕ) (xs : List ℕ) → length (traded d xs) ≡ length xs
unfolding traded
length-traded d [] = refl
length-traded zero (x ∷ xs) = refl
length-traded (suc d) (x ∷ xs) = ap suc (length-set xs d x)

get_or-behind : (xs : List ℕ) (i : ℕ) → get_or (behind xs) i 0 ≡ get_or xs (suc i) 0
unfolding behind
get_or-behind [] i = refl
get_or-behind (x ∷ xs) i = refl

length-behind : (xs : List ℕ) (n : ℕ) → length xs ≡ n → length (behind xs) ≡ n - 1
unfolding behind
length-behind [] n e = omega arith
length-behind (x ∷ xs) n e = omega arith

-- ---- the loop

length-sources : (partners : List ℕ) (n k : ℕ) → length (sources partners n k) ≡ n - k
unfolding sources
length-sources partners n zero = length-range_with_len 0 n ∙ plain n
  where
    plain : (n : ℕ) → n ≡ n - 0
    plain n = omega arith
length-sources partners n (suc k) =
    let a : length (traded (slice_index partners k - k) (sources partners n k)) ≡ n - k = length-traded (slice_index partners k - k) (sources partners n k) ∙ length-sources partners n k in
    let b : n - k - 1 ≡ n - suc k = omega arith in
    length-behind (traded (slice_index partners k - k) (sources partners n k)) (n - k) a ∙ b

-- the first k places have their items, and those behind them have theirs from where the sources say
pub record IsArranged (partners : List ℕ) (n k : ℕ) (old new : ℕ → Complex) : Type 0 where
  pub done : (i : ℕ) → i < k → new i ≡ old (emitted partners n i)
  pub left : (i : ℕ) → k + i < n → new (k + i) ≡ old (get_or (sources partners n k) i 0)

pub arranged_start : (partners : List ℕ) (n : ℕ) (old : ℕ → Complex) → IsArranged partners n 0 old old
unfolding sources
arranged_start partners n old = record {
  done = λ i h. absurd (omega arith);
  left = λ i h. let l : i < n = omega arith in let e : 0 + i ≡ i = omega arith in ap old (e ∙ sym (get_or-range_with_len 0 n i 0 l ∙ e));
}

pub arranged_next : (partners : List ℕ) (n k p : ℕ) (old mid new : ℕ → Complex) → p ≡ slice_index partners k → k ≤ p → p < n → IsExchanged k p mid new → IsArranged partners n k old mid → IsArranged partners n (k + 1) old new
unfolding sources emitted
arranged_next partners n k p old mid new ep low high t s = record { done = done; left = left }
  where
    d : ℕ
    d = slice_index partners k - k

    xs : List ℕ
    xs = sources partners n k

    de : d ≡ p - k
    de = ap (λ v. v - k) (sym ep)

    here : new k ≡ old (emitted partners n k)
    here =
        let e : p ≡ k + d = omega (arith, de) in
        let l : k + d < n = omega (arith, de) in
        t.first ∙ ap mid e ∙ s.left d l ∙ sym (ap old (traded_first d xs))

    done : (i : ℕ) → i < k + 1 → new i ≡ old (emitted partners n i)
    done i h = elim (cases_eq i k) [
      | inl w ↦ rw w here
      | inr w ↦
          let less : i < k = smaller i k h w in
          let ne : i ≢ p = λ f. apart i k p less low f in
          t.others i w ne ∙ s.done i less
    ]
      where
        smaller : (i k : ℕ) → i < k + 1 → (i ≡ k → ⊥) → i < k
        smaller i k h w = omega arith

        apart : (i k p : ℕ) → i < k → k ≤ p → i ≡ p → ⊥
        apart i k p h l e = omega arith

    left : (i : ℕ) → k + 1 + i < n → new (k + 1 + i) ≡ old (get_or (sources partners n (k + 1)) i 0)
    left i h =
        let f : k + 1 ≡ suc k = omega arith in
        let g : get_or (sources partners n (k + 1)) i 0 ≡ get_or (traded d xs) (suc i) 0 = ap (λ v. get_or (sources partners n v) i 0) f ∙ get_or-behind (traded d xs) i in
        let e : k + 1 + i ≡ k + suc i = omega arith in
        ap new e ∙ place i (omega arith) ∙ sym (ap old g)
      where
        place : (i : ℕ) → k + suc i < n → new (k + suc i) ≡ old (get_or (traded d xs) (suc i) 0)
        place i h = elim (cases_eq (suc i) d) [
          | inl w ↦
              let e : k + suc i ≡ p = omega (arith, de) in
              let z : k + 0 ≡ k = omega arith in
              let l : k + 0 < n = omega arith in
              let m : d < length xs = omega (arith, length-sources partners n k, de) in
              ap new e ∙ t.second ∙ ap mid (sym z) ∙ s.left 0 l ∙ sym (ap old (ap (λ v. get_or (traded d xs) v 0) w ∙ traded_partner d xs m))
          | inr w ↦
              let n1 : k + suc i ≢ k = omega arith in
              let n2 : k + suc i ≢ p = λ f. w (other i k p f ∙ sym de) in
              t.others (k + suc i) n1 n2 ∙ s.left (suc i) h ∙ sym (ap old (traded_other d xs i w))
        ]
          where
            other : (i k p : ℕ) → k + suc i ≡ p → suc i ≡ p - k
            other i k p f = omega arith

-- ---- the tables

-- the sources that the exchanges bring to the places, worked out from the front
unfoldable brought : List ℕ → ℕ → List ℕ → List ℕ
brought [] k xs = []
brought (p ∷ ps) k xs = get_or (traded (p - k) xs) 0 0 ∷ brought ps (suc k) (behind (traded (p - k) xs))

length-brought : (ps : List ℕ) (k : ℕ) (xs : List ℕ) → length (brought ps k xs) ≡ length ps
unfolding brought
length-brought [] k xs = refl
length-brought (p ∷ ps) k xs = ap suc (length-brought ps (suc k) (behind (traded (p - k) xs)))

brought-at : (partners : List ℕ) (n : ℕ) (ps : List ℕ) (k i : ℕ) (xs : List ℕ) → xs ≡ sources partners n k → ((j : ℕ) → j < length ps → slice_index partners (k + j) ≡ get_or ps j 0) → i < length ps → get_or (brought ps k xs) i 0 ≡ emitted partners n (k + i)
unfolding brought sources emitted
brought-at partners n [] k i xs e h l = absurd (omega arith)
brought-at partners n (p ∷ ps) k zero xs e h l =
    let z : k + 0 ≡ k = omega arith in
    let f : slice_index partners k ≡ p = ap (slice_index partners) (sym z) ∙ h 0 (omega arith) in
    ap (λ v. get_or (traded (p - k) v) 0 0) e ∙ ap (λ v. get_or (traded (v - k) (sources partners n k)) 0 0) (sym f) ∙ ap (emitted partners n) (sym z)
brought-at partners n (p ∷ ps) k (suc i) xs e h l =
    let z : k + 0 ≡ k = omega arith in
    let f : slice_index partners k ≡ p = ap (slice_index partners) (sym z) ∙ h 0 (omega arith) in
    let g : behind (traded (p - k) xs) ≡ sources partners n (suc k) = ap (λ v. behind (traded (p - k) v)) e ∙ ap (λ v. behind (traded (v - k) (sources partners n k))) (sym f) in
    let y : suc k + i ≡ k + suc i = omega arith in
    brought-at partners n ps (suc k) i (behind (traded (p - k) xs)) g (later p ps k h) (omega arith) ∙ ap (emitted partners n) y
  where
    later : (p : ℕ) (ps : List ℕ) (k : ℕ) → ((j : ℕ) → j < suc (length ps) → slice_index partners (k + j) ≡ get_or (p ∷ ps) j 0) → (j : ℕ) → j < length ps → slice_index partners (suc k + j) ≡ get_or ps j 0
    later p ps k h j l =
        let e : suc k + j ≡ k + suc j = omega arith in
        ap (slice_index partners) e ∙ h (suc j) (omega arith)

unfoldable matches : List ℕ → List ℕ → ℕ → Bool
matches rs [] k = true
matches rs (x ∷ xs) k = nat_eq x (reversed rs k) && matches rs xs (suc k)

matches-at : (rs xs : List ℕ) (k i : ℕ) → matches rs xs k ≡ true → i < length xs → get_or xs i 0 ≡ reversed rs (k + i)
unfolding matches
matches-at rs [] k i h l = absurd (omega arith)
matches-at rs (x ∷ xs) k zero h l =
    let z : k ≡ k + 0 = omega arith in
    eqb-true x (reversed rs k) (and_parts (nat_eq x (reversed rs k)) (matches rs xs (suc k)) h).0 ∙ ap (reversed rs) z
matches-at rs (x ∷ xs) k (suc i) h l =
    let e : suc k + i ≡ k + suc i = omega arith in
    matches-at rs xs (suc k) i (and_parts (nat_eq x (reversed rs k)) (matches rs xs (suc k)) h).1 (omega arith) ∙ ap (reversed rs) e

unfoldable in_range : ℕ → List ℕ → ℕ → Bool
in_range n [] k = true
in_range n (p ∷ ps) k = (nat_le k p && nat_lt p n) && in_range n ps (suc k)

in_range-at : (n : ℕ) (ps : List ℕ) (k i : ℕ) → in_range n ps k ≡ true → i < length ps → (k + i ≤ get_or ps i 0) × (get_or ps i 0 < n)
unfolding in_range
in_range-at n [] k i h l = absurd (omega arith)
in_range-at n (p ∷ ps) k zero h l =
    let a = and_parts (nat_le k p) (nat_lt p n) (and_parts (nat_le k p && nat_lt p n) (in_range n ps (suc k)) h).0 in
    let b = leb-true k p a.0 in
    (omega arith, ltb-true p n a.1)
in_range-at n (p ∷ ps) k (suc i) h l =
    let a = in_range-at n ps (suc k) i (and_parts (nat_le k p && nat_lt p n) (in_range n ps (suc k)) h).1 (omega arith) in
    let b = a.0 in
    (omega arith, a.1)

-- a table of partners that reverses the digits
pub record IsTable (n : ℕ) (partners : List ℕ) : Type 0 where
  pub count : length partners ≡ n
  pub order : (k : ℕ) → k < n → k ≤ slice_index partners k
  pub inside : (k : ℕ) → k < n → slice_index partners k < n
  pub value : (k : ℕ) → k < n → emitted partners n k ≡ reversed (radices n) k

starts : (partners : List ℕ) (n : ℕ) → range_with_len 0 n ≡ sources partners n 0
unfolding sources
starts partners n = refl

table_from : (n : ℕ) (partners : List ℕ) → length partners ≡ n → in_range n partners 0 ≡ true → matches (radices n) (brought partners 0 (range_with_len 0 n)) 0 ≡ true → IsTable n partners
table_from n partners e r m = record {
  count = e;
  order = λ k h. let a = (in_range-at n partners 0 k r (omega arith)).0 in omega arith;
  inside = λ k h. (in_range-at n partners 0 k r (omega arith)).1;
  value = λ k h. value k h;
}
  where
    value : (k : ℕ) → k < n → emitted partners n k ≡ reversed (radices n) k
    value k h =
        let z : 0 + k ≡ k = omega arith in
        let l : k < length partners = omega arith in
        let b : k < length (brought partners 0 (range_with_len 0 n)) = omega (arith, length-brought partners 0 (range_with_len 0 n)) in
        sym (ap (emitted partners n) z) ∙ sym (brought-at partners n partners 0 k (range_with_len 0 n) (starts partners n) (λ j p. let y : 0 + j ≡ j = omega arith in ap (slice_index partners) y) l)
        ∙ matches-at (radices n) (brought partners 0 (range_with_len 0 n)) 0 k m b ∙ ap (reversed (radices n)) z

in_range_60 : in_range 60 PARTNERS_60 0 ≡ true
unfolding in_range
in_range_60 = refl

matches_60 : matches (radices 60) (brought PARTNERS_60 0 (range_with_len 0 60)) 0 ≡ true
unfolding matches brought traded behind radices_by radix size reversed
matches_60 = refl

in_range_120 : in_range 120 PARTNERS_120 0 ≡ true
unfolding in_range
in_range_120 = refl

matches_120 : matches (radices 120) (brought PARTNERS_120 0 (range_with_len 0 120)) 0 ≡ true
unfolding matches brought traded behind radices_by radix size reversed
matches_120 = refl

in_range_240 : in_range 240 PARTNERS_240 0 ≡ true
unfolding in_range
in_range_240 = refl

matches_240 : matches (radices 240) (brought PARTNERS_240 0 (range_with_len 0 240)) 0 ≡ true
unfolding matches brought traded behind radices_by radix size reversed
matches_240 = refl

in_range_480 : in_range 480 PARTNERS_480 0 ≡ true
unfolding in_range
in_range_480 = refl

matches_480 : matches (radices 480) (brought PARTNERS_480 0 (range_with_len 0 480)) 0 ≡ true
unfolding matches brought traded behind radices_by radix size reversed
matches_480 = refl

pub table_60 : IsTable 60 PARTNERS_60
table_60 = table_from 60 PARTNERS_60 refl in_range_60 matches_60

pub table_120 : IsTable 120 PARTNERS_120
table_120 = table_from 120 PARTNERS_120 refl in_range_120 matches_120

pub table_240 : IsTable 240 PARTNERS_240
table_240 = table_from 240 PARTNERS_240 refl in_range_240 matches_240

pub table_480 : IsTable 480 PARTNERS_480
table_480 = table_from 480 PARTNERS_480 refl in_range_480 matches_480
