-- The parts of each kind of question are not empty and fill the range.
use Rattle.std.proofs.Common.{◌≡◌, ◌↔◌, ℕ, zero, suc, ◌+◌, ◌-◌, ◌*◌, ◌/◌, ◌%◌, ◌^◌, ◌<◌, ◌≤◌, min, true, false, nat_lt, nat_le, if◌then◌else◌, inl, inr, ℤ, pos, negsuc, refl, sym, ap, ◌∙◌, subst, arith}
use Rattle.std.proofs.lemmas.Bool.{cases_lt, cases_eq}
use Rattle.std.proofs.lemmas.Bool.Decides.{nat_tests}
use Rattle.celt_base.specs.declared.question.TableId.{TableId}
use Rattle.celt_base.specs.declared.question.TableId.TheVariants.{Tapset, Small, Spread, Trim}
use Rattle.celt_base.specs.Questions.{Row, start, Fills, answers_of, table_row, uniform_row, low_bits, step_row, triangle_row, laplace_row, laplace_len, place_of, IsEven, IsLaplace}
use Rattle.celt_base.proofs.Below.{all_below, at_each, less}
use Rattle.celt_base.proofs.Rows.{start_le, start_rises}

-- Where the parts begin, in a form of its own: each is one length further, and the last one ends at the total.
pub record IsSum (row : Row) (count : ℕ) (at : ℕ → ℕ) : Type 0 where
  pub none : at 0 ≡ 0
  pub more : (n : ℕ) → n < count → at (suc n) ≡ at n + row.len n
  pub some : (n : ℕ) → n < count → 1 ≤ row.len n
  pub all : at count ≡ row.total

sum_within : (row : Row) (count : ℕ) (at : ℕ → ℕ) → IsSum row count at → (left n : ℕ) → n + left ≡ count → at n ≤ row.total
sum_within row count at is zero n e = let last : n ≡ count = omega arith in let all = is.all in
    subst (λ k. at k ≤ row.total) (sym last) (omega arith)
sum_within row count at is (suc left) n e =
    let next = sum_within row count at is left (suc n) (omega arith) in
    let more = is.more n (omega arith) in
    omega arith

pub sum_start : (row : Row) (count : ℕ) (at : ℕ → ℕ) → IsSum row count at → (n : ℕ) → n ≤ count → start row n ≡ at n
sum_start row count at is zero le = sym is.none
sum_start row count at is (suc n) le =
    let before = sum_start row count at is n (omega arith) in
    let more = is.more n (omega arith) in
    let within = sum_within row count at is (count - suc n) (suc n) (omega arith) in
    omega arith

pub sum_fills : (row : Row) (count : ℕ) (at : ℕ → ℕ) → IsSum row count at → Fills row count
sum_fills row count at is =
    record {
      some = λ n below.
          let own = sum_start row count at is n (omega arith) in
          let next = sum_start row count at is (suc n) (omega arith) in
          let more = is.more n below in
          let some = is.some n below in
          omega arith;
      all = sum_start row count at is count (omega arith) ∙ is.all;
    }

-- a table
table_rises : (t : TableId) → all_below (λ n. nat_lt (start (table_row t) n) (start (table_row t) (suc n))) (answers_of t) ≡ true
table_rises Tapset = refl
table_rises Small = refl
table_rises Spread = refl
table_rises Trim = refl

table_end : (t : TableId) → start (table_row t) (answers_of t) ≡ (table_row t).total
table_end Tapset = refl
table_end Small = refl
table_end Spread = refl
table_end Trim = refl

pub table_fills : (t : TableId) → Fills (table_row t) (answers_of t)
table_fills t =
    record {
      some = λ n below. less (start (table_row t) n) (start (table_row t) (suc n)) (at_each (λ k. nat_lt (start (table_row t) k) (start (table_row t) (suc k))) (answers_of t) n (table_rises t) below);
      all = table_end t;
    }

-- a number of which each is as likely
pub uniform_sum : (limit : ℕ) → IsSum (uniform_row limit) ((limit - 1) / 2 ^ low_bits limit + 1) (λ n. n)
uniform_sum limit = record { none = refl; more = λ n below. omega arith; some = λ n below. omega arith; all = refl }

pub uniform_fills : (limit : ℕ) → Fills (uniform_row limit) ((limit - 1) / 2 ^ low_bits limit + 1)
uniform_fills limit = sum_fills (uniform_row limit) ((limit - 1) / 2 ^ low_bits limit + 1) (λ n. n) (uniform_sum limit)

-- three for each of the lower half and one for each of the upper half
abbrev pub step_at : ℕ → ℕ → ℕ
step_at half n = n + 2 * min n (half + 1)

step_more : (half n : ℕ) → step_at half (suc n) ≡ step_at half n + (if nat_le n half then 3 else 1)
step_more half n = grind (arith, nat_tests)

step_some : (half n : ℕ) → 1 ≤ (if nat_le n half then 3 else 1)
step_some half n = grind (arith, nat_tests)

pub step_sum : (most : ℕ) → IsEven most → IsSum (step_row most) (most + 1) (step_at (most / 2))
step_sum most even =
    let two = even.0 in
    record {
      none = omega arith;
      more = λ n below. step_more (most / 2) n;
      some = λ n below. step_some (most / 2) n;
      all = omega arith;
    }

pub step_fills : (most : ℕ) → IsEven most → Fills (step_row most) (most + 1)
step_fills most even = sum_fills (step_row most) (most + 1) (step_at (most / 2)) (step_sum most even)

-- one more for each up to the middle, and one less for each behind it
abbrev pub sum_to : ℕ → ℕ
sum_to zero = 0
sum_to (suc n) = sum_to n + suc n

pub twice_sum_to : (n : ℕ) → 2 * sum_to n ≡ n * (n + 1)
twice_sum_to zero = omega arith
twice_sum_to (suc n) = let before = twice_sum_to n in omega arith

pub sum_to_rises : (n m : ℕ) → n ≤ m → sum_to n ≤ sum_to m
sum_to_rises n zero le = let e : n ≡ 0 = omega arith in subst (λ k. sum_to k ≤ 0) (sym e) (omega arith)
sum_to_rises n (suc m) le =
    elim (cases_eq n (suc m)) [
      | inl e ↦ subst (λ k. sum_to k ≤ sum_to (suc m)) (sym e) (omega arith)
      | inr ne ↦ let before = sum_to_rises n m (omega arith) in omega arith
    ]

abbrev pub triangle_at : ℕ → ℕ → ℕ
triangle_at half n =
    if nat_le n half then sum_to n else (half + 1) * (half + 1) - sum_to (2 * half + 1 - n)

-- the square is two sums, one to the middle and one before it
pub square_is : (half : ℕ) → (half + 1) * (half + 1) ≡ sum_to (suc half) + sum_to half
square_is half = let before = twice_sum_to half in omega arith

pub triangle_low : (half n : ℕ) → n ≤ half → triangle_at half n ≡ sum_to n
triangle_low half n le = let test : nat_le n half ≡ true = grind (arith, nat_tests) in
    ap (λ b. if b then sum_to n else (half + 1) * (half + 1) - sum_to (2 * half + 1 - n)) test

pub triangle_high : (half n : ℕ) → half < n → triangle_at half n ≡ (half + 1) * (half + 1) - sum_to (2 * half + 1 - n)
triangle_high half n lt = let test : nat_le n half ≡ false = grind (arith, nat_tests) in
    ap (λ b. if b then sum_to n else (half + 1) * (half + 1) - sum_to (2 * half + 1 - n)) test

triangle_more : (half n : ℕ) → n < 2 * half + 1 → triangle_at half (suc n) ≡ triangle_at half n + (if nat_le n half then n + 1 else 2 * half + 1 - n)
triangle_more half n below =
    elim (cases_lt n half) [
      | inl low ↦
          let test : nat_le n half ≡ true = grind (arith, nat_tests) in
          let own = triangle_low half n (omega arith) in
          let next = triangle_low half (suc n) (omega arith) in
          let step : triangle_at half (suc n) ≡ triangle_at half n + (n + 1) = omega arith in
          step ∙ ap (λ b. triangle_at half n + (if b then n + 1 else 2 * half + 1 - n)) (sym test)
      | inr up ↦
          elim (cases_eq n half) [
            | inl e ↦
                let test : nat_le n half ≡ true = grind (arith, nat_tests) in
                let own : triangle_at half n ≡ sum_to half = triangle_low half n (omega arith) ∙ ap sum_to e in
                let left : 2 * half + 1 - suc n ≡ half = omega arith in
                let next : triangle_at half (suc n) ≡ (half + 1) * (half + 1) - sum_to half = triangle_high half (suc n) (omega arith) ∙ ap (λ k. (half + 1) * (half + 1) - sum_to k) left in
                let square = square_is half in
                let step : triangle_at half (suc n) ≡ triangle_at half n + (n + 1) = omega arith in
                step ∙ ap (λ b. triangle_at half n + (if b then n + 1 else 2 * half + 1 - n)) (sym test)
            | inr ne ↦
                let test : nat_le n half ≡ false = grind (arith, nat_tests) in
                let left : 2 * half + 1 - n ≡ suc (2 * half + 1 - suc n) = omega arith in
                let own : triangle_at half n ≡ (half + 1) * (half + 1) - sum_to (suc (2 * half + 1 - suc n)) = triangle_high half n (omega arith) ∙ ap (λ k. (half + 1) * (half + 1) - sum_to k) left in
                let next = triangle_high half (suc n) (omega arith) in
                let square = square_is half in
                let rises = sum_to_rises (suc (2 * half + 1 - suc n)) half (omega arith) in
                let step : triangle_at half (suc n) ≡ triangle_at half n + (2 * half + 1 - n) = omega arith in
                step ∙ ap (λ b. triangle_at half n + (if b then n + 1 else 2 * half + 1 - n)) (sym test)
          ]
    ]

triangle_some : (half n : ℕ) → n < 2 * half + 1 → 1 ≤ (if nat_le n half then n + 1 else 2 * half + 1 - n)
triangle_some half n below = grind (arith, nat_tests)

pub triangle_sum : (most : ℕ) → IsEven most → IsSum (triangle_row most) (most + 1) (triangle_at (most / 2))
triangle_sum most even =
    let two : 2 * (most / 2) ≡ most = let e = even.0 in omega arith in
    let none : 2 * (most / 2) + 1 - (most + 1) ≡ 0 = omega arith in
    record {
      none = triangle_low (most / 2) 0 (omega arith);
      more = λ n below. triangle_more (most / 2) n (omega arith) ∙ ap (λ k. triangle_at (most / 2) n + (if nat_le n (most / 2) then n + 1 else k + 1 - n)) two;
      some = λ n below. subst (λ k. 1 ≤ (if nat_le n (most / 2) then n + 1 else k + 1 - n)) two (triangle_some (most / 2) n (omega arith));
      all = triangle_high (most / 2) (most + 1) (omega arith) ∙ ap (λ k. (most / 2 + 1) * (most / 2 + 1) - sum_to k) none ∙ omega arith;
    }

pub triangle_fills : (most : ℕ) → IsEven most → Fills (triangle_row most) (most + 1)
triangle_fills most even = sum_fills (triangle_row most) (most + 1) (triangle_at (most / 2)) (triangle_sum most even)

-- parts of one or more, cut at the total
cut_from : (row : Row) → ((n : ℕ) → 1 ≤ row.len n) → (left n : ℕ) → row.total ≤ start row n + left
    → ((m : ℕ) → m < n → start row m < start row (suc m)) → (count : ℕ) × Fills row count
cut_from row some zero n enough rises =
    let within = start_le row n in (n, record { some = rises; all = omega arith })
cut_from row some (suc left) n enough rises =
    elim (cases_lt (start row n) row.total) [
      | inl less ↦
          let one = some n in
          cut_from row some left (suc n) (omega arith)
          (λ m below. elim (cases_eq m n) [
            | inl e ↦ subst (λ k. start row k < start row (suc k)) (sym e) (omega arith)
            | inr ne ↦ rises m (omega arith)
          ])
      | inr whole ↦ let within = start_le row n in (n, record { some = rises; all = omega arith })
    ]

laplace_some : (fs decay n : ℕ) → 1 ≤ fs → 1 ≤ laplace_len fs decay n
laplace_some fs decay zero some = some
laplace_some fs decay (suc n) some = omega arith

pub laplace_fills : (fs decay : ℕ) → IsLaplace fs decay → (count : ℕ) × Fills (laplace_row fs decay) count
laplace_fills fs decay is =
    cut_from (laplace_row fs decay) (λ n. laplace_some fs decay n is.0) (2 ^ 15) 0 (omega arith) (λ m below. absurd (omega arith))

-- the places below the count are those that begin below the total
pub filled_place : (row : Row) (count n : ℕ) → Fills row count → (n < count) ↔ (start row n < row.total)
filled_place row count n fills = (
  λ below. let some = fills.some n below in let within = start_le row (suc n) in omega arith,
  λ begins. elim (cases_lt n count) [
    | inl below ↦ below
    | inr past ↦ let rises = start_rises row count n past in let all = fills.all in absurd (omega arith)
  ],
)

-- each place is that of one signed number
pub value_at : (n : ℕ) → (a : ℤ) × (place_of a ≡ n)
value_at n =
    elim (cases_eq (n % 2) 0) [
      | inl even ↦ (pos (n / 2), omega arith)
      | inr odd ↦ (negsuc (n / 2), omega arith)
    ]

pub place_of_one : (a b : ℤ) → place_of a ≡ place_of b → a ≡ b
place_of_one (pos m) (pos n) e = ap pos (omega arith)
place_of_one (pos m) (negsuc n) e = absurd (omega arith)
place_of_one (negsuc m) (pos n) e = absurd (omega arith)
place_of_one (negsuc m) (negsuc n) e = ap negsuc (omega arith)

-- where a part begins and ends, half by half
pub step_low : (most n : ℕ) → IsEven most → n ≤ most / 2 → (start (step_row most) n ≡ 3 * n) × (start (step_row most) (suc n) ≡ 3 * n + 3)
step_low most n even low =
    let own = sum_start (step_row most) (most + 1) (step_at (most / 2)) (step_sum most even) n (omega arith) in
    let next = sum_start (step_row most) (most + 1) (step_at (most / 2)) (step_sum most even) (suc n) (omega arith) in
    (omega arith, omega arith)

pub step_high : (most n : ℕ) → IsEven most → most / 2 < n → n ≤ most
    → (start (step_row most) n ≡ n + 2 * (most / 2 + 1)) × (start (step_row most) (suc n) ≡ n + 2 * (most / 2 + 1) + 1)
step_high most n even high within =
    let own = sum_start (step_row most) (most + 1) (step_at (most / 2)) (step_sum most even) n (omega arith) in
    let next = sum_start (step_row most) (most + 1) (step_at (most / 2)) (step_sum most even) (suc n) (omega arith) in
    (omega arith, omega arith)

pub triangle_part_low : (most n : ℕ) → IsEven most → n < most / 2
    → (start (triangle_row most) n ≡ sum_to n) × (start (triangle_row most) (suc n) ≡ sum_to (suc n))
triangle_part_low most n even low =
    let own = sum_start (triangle_row most) (most + 1) (triangle_at (most / 2)) (triangle_sum most even) n (omega arith) in
    let next = sum_start (triangle_row most) (most + 1) (triangle_at (most / 2)) (triangle_sum most even) (suc n) (omega arith) in
    (own ∙ triangle_low (most / 2) n (omega arith), next ∙ triangle_low (most / 2) (suc n) (omega arith))

-- `left` numbers are above it
pub triangle_part_high : (most left n : ℕ) → IsEven most → left ≤ most / 2 → n + left ≡ most
    → (start (triangle_row most) n ≡ (most / 2 + 1) * (most / 2 + 1) - sum_to (suc left))
    × (start (triangle_row most) (suc n) ≡ (most / 2 + 1) * (most / 2 + 1) - sum_to left)
triangle_part_high most left n even few at =
    let half = most / 2 in
    let two = even.0 in
    let own = sum_start (triangle_row most) (most + 1) (triangle_at half) (triangle_sum most even) n (omega arith) in
    let next = sum_start (triangle_row most) (most + 1) (triangle_at half) (triangle_sum most even) (suc n) (omega arith) in
    let upper = triangle_high half (suc n) (omega arith) ∙ ap (λ k. (half + 1) * (half + 1) - sum_to k) (let e : 2 * half + 1 - suc n ≡ left = omega arith in e) in (
      elim (cases_eq left half) [
        | inl e ↦
            let n_is : n ≡ half = omega arith in
            let low = triangle_low half n (omega arith) ∙ ap sum_to n_is in
            let square = square_is half in
            let last : sum_to (suc left) ≡ sum_to (suc half) = ap (λ k. sum_to (suc k)) e in
            omega arith
        | inr ne ↦ own ∙ triangle_high half n (omega arith) ∙ ap (λ k. (half + 1) * (half + 1) - sum_to k) (let e : 2 * half + 1 - n ≡ suc left = omega arith in e)
      ],
      next ∙ upper,
    )
