-- The nearest answer of a question, as it is computed.
use Rattle.std.proofs.Common.{◌≡◌, ℕ, zero, suc, ◌+◌, ◌*◌, ◌^◌, ◌<◌, ◌≤◌, Bool, true, false, inl, inr, sym, subst, ℤ, pos, negsuc, arith}
use Rattle.std.specs.Prelude.{nat_lt}
use Rattle.std.proofs.lemmas.Bool.{cases_lt, cases_Bool, cond-true, cond-false, ltb-true}
use Rattle.std.proofs.lemmas.Bool.Decides.{nat_tests}
use Rattle.std.proofs.lemmas.Int.{ints}
use Rattle.std.proofs.lemmas.Nat.{pow_pos}
use Rattle.celt_base.specs.declared.question.Question.{Question}
use Rattle.celt_base.specs.declared.question.TableId.TheVariants.{Tapset, Small, Spread, Trim}
use Rattle.celt_base.specs.declared.question.Question.TheVariants.{Bit, Table, Uniform, Laplace, Step, Triangle, Raw}
use Rattle.celt_base.specs.Questions.{laplace_row, answers_of, place_of, start, IsBelow, IsAnswer, IsValid}
use Rattle.celt_base.proofs.Rows.{start_rises}
use Rattle.fixed_math.specs.Search.{greatest}
use Rattle.fixed_math.proofs.SearchLemmas.{greatest-found, greatest-above}
use Rattle.range_coder.specs.Nearest.{IsNearest, distance}
use Rattle.range_coder.proofs.NearestOne.{nearest_one}
use Rattle.celt_encode.specs.Choices.{is_among, has_answer, nearest_of}

-- ---- the test of an answer

lt_true : (a b : ℕ) → nat_lt a b ≡ true → a < b
lt_true a b e = ltb-true a b e

lt_is : (a b : ℕ) → a < b → nat_lt a b ≡ true
lt_is a b h = grind (arith, nat_tests, h)

among_is : (count : ℕ) (a : ℤ) → is_among count a ≡ true → IsBelow count a
among_is count (pos n) e = lt_true n count e
among_is count (negsuc n) e = absurd (cc e)

is_among_of : (count : ℕ) (a : ℤ) → IsBelow count a → is_among count a ≡ true
is_among_of count (pos n) h = lt_is n count h
is_among_of count (negsuc n) h = absurd h

has_is : (q : Question) (a : ℤ) → has_answer q a ≡ true → IsAnswer q a
has_is (Bit p) a e = among_is 2 a e
has_is (Table table) a e = among_is (answers_of table) a e
has_is (Uniform limit) a e = among_is limit a e
has_is (Laplace fs decay) a e = lt_true (start (laplace_row fs decay) (place_of a)) (2 ^ 15) e
has_is (Step most) a e = among_is (most + 1) a e
has_is (Triangle most) a e = among_is (most + 1) a e
has_is (Raw count) a e = among_is (2 ^ count) a e

is_has : (q : Question) (a : ℤ) → IsAnswer q a → has_answer q a ≡ true
is_has (Bit p) a h = is_among_of 2 a h
is_has (Table table) a h = is_among_of (answers_of table) a h
is_has (Uniform limit) a h = is_among_of limit a h
is_has (Laplace fs decay) a h = lt_is (start (laplace_row fs decay) (place_of a)) (2 ^ 15) h
is_has (Step most) a h = is_among_of (most + 1) a h
is_has (Triangle most) a h = is_among_of (most + 1) a h
is_has (Raw count) a h = is_among_of (2 ^ count) a h

-- ---- answers have no gaps

below_less : (count n m : ℕ) → m ≤ n → IsBelow count (pos n) → IsBelow count (pos m)
below_less count n m le h = omega arith

-- each number from 0 to an answer is one
less_above : (q : Question) (n m : ℕ) → m ≤ n → IsAnswer q (pos n) → IsAnswer q (pos m)
less_above (Bit p) n m le h = below_less 2 n m le h
less_above (Table table) n m le h = below_less (answers_of table) n m le h
less_above (Uniform limit) n m le h = below_less limit n m le h
less_above (Laplace fs decay) n m le h = let rises = start_rises (laplace_row fs decay) (2 * m) (2 * n) (omega arith) in omega arith
less_above (Step most) n m le h = below_less (most + 1) n m le h
less_above (Triangle most) n m le h = below_less (most + 1) n m le h
less_above (Raw count) n m le h = below_less (2 ^ count) n m le h

less_below : (q : Question) (n m : ℕ) → m ≤ n → IsAnswer q (negsuc n) → IsAnswer q (negsuc m)
less_below (Bit p) n m le h = absurd h
less_below (Table table) n m le h = absurd h
less_below (Uniform limit) n m le h = absurd h
less_below (Laplace fs decay) n m le h = let rises = start_rises (laplace_row fs decay) (2 * m + 1) (2 * n + 1) (omega arith) in omega arith
less_below (Step most) n m le h = absurd h
less_below (Triangle most) n m le h = absurd h
less_below (Raw count) n m le h = absurd h

zero_is : (q : Question) → IsValid q → IsAnswer q (pos 0)
zero_is (Bit p) v = omega arith
zero_is (Table Tapset) v = omega arith
zero_is (Table Small) v = omega arith
zero_is (Table Spread) v = omega arith
zero_is (Table Trim) v = omega arith
zero_is (Uniform limit) v = omega arith
zero_is (Laplace fs decay) v = omega arith
zero_is (Step most) v = omega arith
zero_is (Triangle most) v = omega arith
zero_is (Raw count) v = pow_pos count

-- ---- the nearest

-- every answer up to the wanted number is at most the greatest
most_above : (q : Question) (w n : ℕ) → n ≤ w → IsAnswer q (pos n) → n ≤ greatest (λ n. has_answer q (pos n)) (w + 1)
most_above q w n le h =
    let g : ℕ = greatest (λ n. has_answer q (pos n)) (w + 1) in
    elim (cases_lt g n) [
      | inl less ↦ let e : has_answer q (pos n) ≡ false = greatest-above (λ n. has_answer q (pos n)) (w + 1) n less (omega arith) in absurd (cc (e, is_has q (pos n) h))
      | inr more ↦ more
    ]

most_below : (q : Question) (w n : ℕ) → n ≤ w → IsAnswer q (negsuc n) → n ≤ greatest (λ n. has_answer q (negsuc n)) (w + 1)
most_below q w n le h =
    let g : ℕ = greatest (λ n. has_answer q (negsuc n)) (w + 1) in
    elim (cases_lt g n) [
      | inl less ↦ let e : has_answer q (negsuc n) ≡ false = greatest-above (λ n. has_answer q (negsuc n)) (w + 1) n less (omega arith) in absurd (cc (e, is_has q (negsuc n) h))
      | inr more ↦ more
    ]

greatest_less : (t : ℕ → Bool) (n : ℕ) → greatest t (suc n) < suc n
unfolding greatest
greatest_less t zero = elim (cases_Bool (t 0)) [
  | inl e ↦ subst (λ g. g < 1) (sym (cond-true (t 0) 0 (greatest t 0) e)) (omega arith)
  | inr e ↦ subst (λ g. g < 1) (sym (cond-false (t 0) 0 (greatest t 0) e)) (omega arith)
]
greatest_less t (suc n) = elim (cases_Bool (t (suc n))) [
  | inl e ↦ subst (λ g. g < suc (suc n)) (sym (cond-true (t (suc n)) (suc n) (greatest t (suc n)) e)) (omega arith)
  | inr e ↦ subst (λ g. g < suc (suc n)) (sym (cond-false (t (suc n)) (suc n) (greatest t (suc n)) e)) (let h = greatest_less t n in omega arith)
]

greatest_within : (t : ℕ → Bool) (n : ℕ) → greatest t (n + 1) ≤ n
greatest_within t n = let e : n + 1 ≡ suc n = omega arith in let h = greatest_less t n in subst (λ m. greatest t m ≤ n) (sym e) (omega arith)

near_above : (q : Question) (w : ℕ) → IsValid q → IsNearest q (pos w) (pos (greatest (λ n. has_answer q (pos n)) (w + 1)))
near_above q w v = record {
  is_answer = has_is q (pos (greatest (λ n. has_answer q (pos n)) (w + 1)))
      (greatest-found (λ n. has_answer q (pos n)) (w + 1) 0 (omega arith) (is_has q (pos 0) (zero_is q v)));
  nearest = λ other h. nearer other h;
}
  where
    nearer : (other : ℤ) → IsAnswer q other → distance (pos (greatest (λ n. has_answer q (pos n)) (w + 1))) (pos w) ≤ distance other (pos w)
    nearer (pos o) h =
        let in_range = greatest_within (λ n. has_answer q (pos n)) w in
        elim (cases_lt w o) [
          | inl beyond ↦ let e = most_above q w w (omega arith) (less_above q o w (omega arith) h) in omega (arith, ints, e, in_range)
          | inr before ↦ let e = most_above q w o before h in omega (arith, ints, e, in_range)
        ]
    nearer (negsuc o) h = let in_range = greatest_within (λ n. has_answer q (pos n)) w in omega (arith, ints, in_range)

near_below : (q : Question) (w : ℕ) → has_answer q (negsuc 0) ≡ true → IsNearest q (negsuc w) (negsuc (greatest (λ n. has_answer q (negsuc n)) (w + 1)))
near_below q w some = record {
  is_answer = has_is q (negsuc (greatest (λ n. has_answer q (negsuc n)) (w + 1)))
      (greatest-found (λ n. has_answer q (negsuc n)) (w + 1) 0 (omega arith) some);
  nearest = λ other h. nearer other h;
}
  where
    nearer : (other : ℤ) → IsAnswer q other → distance (negsuc (greatest (λ n. has_answer q (negsuc n)) (w + 1))) (negsuc w) ≤ distance other (negsuc w)
    nearer (negsuc o) h =
        let in_range = greatest_within (λ n. has_answer q (negsuc n)) w in
        elim (cases_lt w o) [
          | inl beyond ↦ let e = most_below q w w (omega arith) (less_below q o w (omega arith) h) in omega (arith, ints, e, in_range)
          | inr before ↦ let e = most_below q w o before h in omega (arith, ints, e, in_range)
        ]
    nearer (pos o) h = let in_range = greatest_within (λ n. has_answer q (negsuc n)) w in omega (arith, ints, in_range)

near_zero : (q : Question) (w : ℕ) → IsValid q → has_answer q (negsuc 0) ≡ false → IsNearest q (negsuc w) (pos 0)
near_zero q w v none = record { is_answer = zero_is q v; nearest = λ other h. nearer other h }
  where
    nearer : (other : ℤ) → IsAnswer q other → distance (pos 0) (negsuc w) ≤ distance other (negsuc w)
    nearer (negsuc o) h = absurd (cc (none, is_has q (negsuc 0) (less_below q o 0 (omega arith) h)))
    nearer (pos o) h = omega (arith, ints)

pub is_nearest : (q : Question) (w : ℤ) → IsValid q → IsNearest q w (nearest_of q w)
unfolding nearest_of
is_nearest q (pos w) v = near_above q w v
is_nearest q (negsuc w) v = elim (cases_Bool (has_answer q (negsuc 0))) [
  | inl some ↦ subst (IsNearest q (negsuc w)) (sym (cond-true (has_answer q (negsuc 0)) (negsuc (greatest (λ n. has_answer q (negsuc n)) (w + 1))) (pos 0) some)) (near_below q w some)
  | inr none ↦ subst (IsNearest q (negsuc w)) (sym (cond-false (has_answer q (negsuc 0)) (negsuc (greatest (λ n. has_answer q (negsuc n)) (w + 1))) (pos 0) none)) (near_zero q w v none)
]

pub nearest_is : (q : Question) (w a : ℤ) → IsValid q → IsNearest q w a → a ≡ nearest_of q w
nearest_is q w a v near = nearest_one q w a (nearest_of q w) near (is_nearest q w v)

-- ---- the greatest that passes

pub greatest_is : (t : ℕ → Bool) (n k : ℕ) → k < n → t k ≡ true → ((j : ℕ) → k < j → j < n → t j ≡ false) → greatest t n ≡ k
greatest_is t n k within passes above =
    let g : ℕ = greatest t n in
    let found : t g ≡ true = greatest-found t n k within passes in
    let below : g < n = greatest_most t n (omega arith) in
    elim (cases_lt g k) [
      | inl less ↦ let e : t k ≡ false = greatest-above t n k less within in absurd (cc (e, passes))
      | inr more ↦ elim (cases_lt k g) [
        | inl beyond ↦ let e : t g ≡ false = above g beyond below in absurd (cc (e, found))
        | inr same ↦ omega arith
      ]
    ]
  where
    greatest_most : (t : ℕ → Bool) (n : ℕ) → 0 < n → greatest t n < n
    greatest_most t zero some = absurd (omega arith)
    greatest_most t (suc n) some = greatest_less t n
