-- What amounts count for depends on the bands below the end alone, and does not fall when an amount rises.
use Rattle.std.proofs.Common.{◌≡◌, ℕ, zero, suc, ◌+◌, ◌-◌, ◌<◌, ◌≤◌, Bool, true, false, true≢false, ◌||◌, nat_le, nat_lt, if◌then◌else◌, refl, sym, ◌∙◌, ap, inl, inr, subst, arith}
use Rattle.std.specs.Prelude.{min}
use Rattle.std.proofs.lemmas.Bool.{cases_eq, cases_lt}
use Rattle.std.proofs.lemmas.Bool.Decides.{nat_tests}
use Rattle.bit_allocation.specs.Amounts.{bit_each, threshold_of, most_of}
use Rattle.bit_allocation.specs.Counts.{one_from, sum_below, is_reached, count_of, counts_of, greatest, IsGreatest}
use Rattle.bit_allocation.proofs.AmountLemmas.{most_of_least, band_inside}
use Rattle.celt_base.specs.declared.kind.Kind.{Kind}

-- one step of the test of the bands from one on
pub one_none : (test : ℕ → Bool) (left band : ℕ) → left ≡ 0 → one_from test left band ≡ false
unfolding one_from
one_none test zero band e = refl
one_none test (suc left) band e = absurd (omega arith)

pub one_next : (test : ℕ → Bool) (left band next rest : ℕ) → left ≡ suc rest → next ≡ band + 1 → one_from test left band ≡ (test band || one_from test rest next)
unfolding one_from
one_next test left band next rest e f = rw (e, f) refl

pub one_same : (f g : ℕ → Bool) (left band : ℕ) → ((b : ℕ) → band ≤ b → b < band + left → f b ≡ g b) → one_from f left band ≡ one_from g left band
unfolding one_from
one_same f g zero band same = refl
one_same f g (suc left) band same =
    ap (λ x. x || one_from f left (band + 1)) (same band (omega arith) (omega arith))
    ∙ ap (λ x. g band || x) (one_same f g left (band + 1) (λ b p q. same b (omega arith) (omega arith)))

pub sum_same : (f g : ℕ → ℕ) (n : ℕ) → ((b : ℕ) → b < n → f b ≡ g b) → sum_below f n ≡ sum_below g n
unfolding sum_below
sum_same f g zero same = refl
sum_same f g (suc n) same =
    ap (λ x. x + f n) (sum_same f g n (λ b below. same b (omega arith))) ∙ ap (λ x. sum_below g n + x) (same n (omega arith))

pub count_same : (kind : Kind) (v w : ℕ → ℕ) (band : ℕ) → band < kind.end → ((b : ℕ) → b < kind.end → v b ≡ w b) → count_of kind v band ≡ count_of kind w band
unfolding count_of
count_same kind v w band inside same =
    let tests : is_reached kind v band ≡ is_reached kind w band =
    one_same (λ b. nat_le (threshold_of kind b) (v b)) (λ b. nat_le (threshold_of kind b) (w b)) (kind.end - band) band
    (λ b low high. ap (λ x. nat_le (threshold_of kind b) x) (same b (omega arith))) in
    rw (tests, same band inside) refl

pub counts_same : (kind : Kind) (v w : ℕ → ℕ) → ((b : ℕ) → b < kind.end → v b ≡ w b) → counts_of kind v ≡ counts_of kind w
unfolding counts_of
counts_same kind v w same = sum_same (count_of kind v) (count_of kind w) kind.end (λ b below. count_same kind v w b below same)

-- amounts that do not fall
one_more : (f g : ℕ → Bool) (left band : ℕ) → ((b : ℕ) → band ≤ b → b < band + left → f b ≡ true → g b ≡ true) → one_from f left band ≡ true → one_from g left band ≡ true
unfolding one_from
one_more f g zero band more e = e
one_more f g (suc left) band more e =
    or_more (f band) (one_from f left (band + 1)) (g band) (one_from g left (band + 1)) (more band (omega arith) (omega arith))
    (one_more f g left (band + 1) (λ b p q. more b (omega arith) (omega arith))) e
  where
    or_more : (a b c d : Bool) → (a ≡ true → c ≡ true) → (b ≡ true → d ≡ true) → (a || b) ≡ true → (c || d) ≡ true
    or_more true b c d first second e = rw (first refl) refl
    or_more false true true d first second e = refl
    or_more false true false d first second e = second refl
    or_more false false c d first second e = rw (first e) refl

counted_more : (r s : Bool) (a b each most : ℕ) → (r ≡ true → s ≡ true) → a ≤ b → each ≤ most
    → (if r then min a most else (if nat_le each a then each else 0)) ≤ (if s then min b most else (if nat_le each b then each else 0))
counted_more true true a b each most more rises room = omega arith
counted_more true false a b each most more rises room = let e : false ≡ true = more refl in absurd (true≢false (sym e))
counted_more false true a b each most more rises room = grind (arith, nat_tests)
counted_more false false a b each most more rises room = grind (arith, nat_tests)

count_more : (kind : Kind) (v w : ℕ → ℕ) (band : ℕ) → band < kind.end → bit_each kind ≤ most_of kind band
    → ((b : ℕ) → b < kind.end → v b ≤ w b)
    → count_of kind v band ≤ count_of kind w band
unfolding count_of
count_more kind v w band inside room rises =
    counted_more (is_reached kind v band) (is_reached kind w band) (v band) (w band) (bit_each kind) (most_of kind band)
    (one_more (λ b. nat_le (threshold_of kind b) (v b)) (λ b. nat_le (threshold_of kind b) (w b)) (kind.end - band) band
    (λ b low high. le_more (threshold_of kind b) (v b) (w b) (rises b (omega arith))))
    (rises band inside) room
  where
    le_more : (t a b : ℕ) → a ≤ b → nat_le t a ≡ true → nat_le t b ≡ true
    le_more t a b more e = grind (arith, nat_tests)

pub sum_more : (f g : ℕ → ℕ) (n : ℕ) → ((b : ℕ) → b < n → f b ≤ g b) → sum_below f n ≤ sum_below g n
unfolding sum_below
sum_more f g zero rises = omega arith
sum_more f g (suc n) rises =
    let a = sum_more f g n (λ b below. rises b (omega arith)) in
    let b = rises n (omega arith) in
    omega (arith, a, b)

pub counts_more : (kind : Kind) (v w : ℕ → ℕ) → ((b : ℕ) → b < kind.end → v b ≤ w b) → counts_of kind v ≤ counts_of kind w
unfolding counts_of
counts_more kind v w rises =
    sum_more (count_of kind v) (count_of kind w) kind.end
    (λ b below. count_more kind v w b below (most_of_least kind b (band_inside kind b below)) rises)

-- greatest numbers
greatest_next : (test : ℕ → Bool) (n : ℕ) (b : Bool) → test (suc n) ≡ b → IsGreatest test n (greatest test n)
    → IsGreatest test (suc n) (if b then suc n else greatest test n)
greatest_next test n true e g = record {
  within = omega arith;
  passes = λ some. e;
  none_above = λ k above below. absurd (omega arith);
}
greatest_next test n false e g =
    let w = g.within in
    record {
      within = omega (arith, w);
      passes = g.passes;
      none_above = λ k above below. elim (cases_eq k (suc n)) [
        | inl s ↦ subst (λ j. test j ≡ false) (sym s) e
        | inr ne ↦ g.none_above k above (omega arith)
      ];
    }

pub greatest_is : (test : ℕ → Bool) (n : ℕ) → IsGreatest test n (greatest test n)
unfolding greatest
greatest_is test zero = record {
  within = omega arith;
  passes = λ some. absurd (omega arith);
  none_above = λ k above below. absurd (omega arith);
}
greatest_is test (suc n) = greatest_next test n (test (suc n)) refl (greatest_is test n)

pub greatest_from : (test : ℕ → Bool) (n k : ℕ) → test k ≡ true → k ≤ n → k ≤ greatest test n
greatest_from test n k passes inside = elim (cases_lt (greatest test n) k) [
  | inl below ↦ absurd (true≢false (sym passes ∙ (greatest_is test n).none_above k below inside))
  | inr above ↦ above
]

pub greatest_under : (test : ℕ → Bool) (n k : ℕ) → ((j : ℕ) → k ≤ j → j ≤ n → test j ≡ true → test k ≡ true) → test k ≡ false → 0 < k → greatest test n < k
greatest_under test n k falls fails some = elim (cases_lt (greatest test n) k) [
  | inl below ↦ below
  | inr above ↦
      let g = greatest_is test n in
      let w = g.within in
      absurd (true≢false (sym (falls (greatest test n) above w (g.passes (omega (arith, above, some)))) ∙ fails))
]

-- what does not fall from one number to the next does not fall
pub rises_to : (f : ℕ → ℕ) (n : ℕ) → ((k : ℕ) → k < n → f k ≤ f (k + 1)) → (j d : ℕ) → j + d ≤ n → f j ≤ f (j + d)
rises_to f n rises j zero inside = let e : j ≡ j + 0 = omega arith in subst (λ i. f j ≤ f i) e (omega arith)
rises_to f n rises j (suc d) inside =
    let before = rises_to f n rises j d (omega arith) in
    let step = rises (j + d) (omega arith) in
    let e : j + d + 1 ≡ j + suc d = omega arith in
    subst (λ i. f j ≤ f i) e (omega (arith, before, step))

-- so a test of it that passes passes for each lower number
pub test_falls : (f : ℕ → ℕ) (n rest : ℕ) → ((k : ℕ) → k < n → f k ≤ f (k + 1)) → (j k : ℕ) → j ≤ k → k ≤ n → nat_le (f k) rest ≡ true → nat_le (f j) rest ≡ true
test_falls f n rest rises j k low high passes =
    let e : j + (k - j) ≡ k = omega arith in
    let up : f j ≤ f k = subst (λ i. f j ≤ f i) e (rises_to f n rises j (k - j) (omega arith)) in
    grind (arith, nat_tests)

pub sum_next : (f : ℕ → ℕ) (n m : ℕ) → n ≡ suc m → sum_below f n ≡ sum_below f m + f m
unfolding sum_below
sum_next f n m e = rw e refl

-- the test of a band with a threshold that is read
pub reached_then : (a b amount : ℕ) (above : Bool) → a ≡ b → a ≤ amount → nat_le a amount ≡ (nat_le b amount || above)
reached_then a b amount above e h =
    let t : nat_le a amount ≡ true = grind (arith, nat_tests) in
    t ∙ sym (ap (λ x. x || above) (ap (λ n. nat_le n amount) (sym e) ∙ t))

pub below_end : {A : Type 0} (k end : ℕ) (x y : A) → k < end → (if nat_lt k end then x else y) ≡ x
below_end k end x y below = let t : nat_lt k end ≡ true = grind (arith, nat_tests) in rw t refl

pub from_end : {A : Type 0} (k end : ℕ) (x y : A) → end ≤ k → (if nat_lt k end then x else y) ≡ y
from_end k end x y above = let t : nat_lt k end ≡ false = grind (arith, nat_tests) in rw t refl

pub sum_start : (f : ℕ → ℕ) → sum_below f 0 ≡ 0
unfolding sum_below
sum_start f = refl
