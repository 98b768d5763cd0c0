-- The answers of a frame are determined, and the answer of a bit is computed.
use Rattle.std.proofs.Common.{◌≡◌, ℕ, zero, suc, ◌+◌, ◌-◌, ◌*◌, ◌/◌, ◌^◌, ◌<◌, ◌≤◌, min, true, false, nat_lt, if◌then◌else◌, List, [], ◌∷◌, ◌++◌, map, ℤ, pos, negsuc, refl, sym, ap, ◌∙◌, subst, arith}
use Rattle.std.proofs.lemmas.Bool.Decides.{nat_tests}
use Rattle.celt_base.specs.declared.question.Question.{Question}
use Rattle.celt_base.specs.declared.question.Question.TheVariants.{Bit, Table, Uniform, Laplace, Step, Triangle, Raw}
use Rattle.celt_base.specs.Intervals.{Interval, whole, narrowed}
use Rattle.celt_base.specs.Questions.{Row, Answered, IsBelow, part_of, part_steps, raw_steps, bit_row, table_row, answers_of, uniform_row, low_bits, laplace_row, place_of, step_row, triangle_row, after_answer, interval_of}
use Rattle.celt_base.specs.WalkOrders.{Decided}
use Rattle.celt_base.proofs.Fillings.{place_of_one}
use Rattle.celt_base.proofs.PaceSteps.{interval_longer}
use Rattle.range_coder.specs.FrameBits.{head, tail}
use Rattle.range_coder.specs.Reading.{Holds, AreRead, IsNumberRead, Answers, AnswersFrom, bit_of, first_bit}
use Rattle.range_coder.proofs.Parts.{one_is_cut, zero_is_cut, place_determined}

-- one part of a row holds the number
row_determined : (frame : List ℕ) (i : Interval) (row : Row) (m n : ℤ) (first_count second_count : ℕ) → IsBelow first_count m → IsBelow second_count n
    → AreRead frame i (part_steps row m) → AreRead frame i (part_steps row n) → m ≡ n
row_determined frame i row (pos m) (pos n) a b below less first second = ap pos (place_determined frame i row m n first.0 second.0)
row_determined frame i row (pos m) (negsuc n) a b below less first second = absurd less
row_determined frame i row (negsuc m) n a b below less first second = absurd below

raw_determined : (frame : List ℕ) (i : Interval) (count : ℕ) (m n : ℤ) → IsBelow (2 ^ count) m → IsBelow (2 ^ count) n
    → AreRead frame i (raw_steps count m) → AreRead frame i (raw_steps count n) → m ≡ n
raw_determined frame i count (pos m) (pos n) below less first second = ap pos (sym first.0 ∙ second.0)
raw_determined frame i count (pos m) (negsuc n) below less first second = absurd less
raw_determined frame i count (negsuc m) n below less first second = absurd below

-- the tops agree, and then the low bits and the last number decide
number_determined : (frame : List ℕ) (i : Interval) (limit : ℕ) (m n : ℤ) → IsNumberRead frame i limit m → IsNumberRead frame i limit n → m ≡ n
number_determined frame i limit (pos m) (pos n) first second =
    let unit = 2 ^ low_bits limit in
    let same : m / unit ≡ n / unit = place_determined frame i (uniform_row limit) (m / unit) (n / unit) first.top second.top in
    ap pos (first.number ∙ ap (λ k. min (limit - 1) (k * unit + tail frame i.raw (low_bits limit))) same ∙ sym second.number)
number_determined frame i limit (pos m) (negsuc n) first second = absurd second
number_determined frame i limit (negsuc m) n first second = absurd first

laplace_determined : (frame : List ℕ) (i : Interval) (fs decay : ℕ) (a b : ℤ) → Answers frame i (Laplace fs decay) a → Answers frame i (Laplace fs decay) b → a ≡ b
laplace_determined frame i fs decay a b first second =
    place_of_one a b (place_determined frame i (laplace_row fs decay) (place_of a) (place_of b) first.read.0 second.read.0)

-- a frame has at most one answer of a question
pub answer_determined : (frame : List ℕ) (i : Interval) (q : Question) (a b : ℤ) → Answers frame i q a → Answers frame i q b → a ≡ b
answer_determined frame i (Bit p) a b first second = row_determined frame i (bit_row p) a b 2 2 first.is_answer second.is_answer first.read second.read
answer_determined frame i (Table t) a b first second =
    row_determined frame i (table_row t) a b (answers_of t) (answers_of t) first.is_answer second.is_answer first.read second.read
answer_determined frame i (Uniform limit) a b first second = number_determined frame i limit a b first.read second.read
answer_determined frame i (Laplace fs decay) a b first second = laplace_determined frame i fs decay a b first second
answer_determined frame i (Step most) a b first second =
    row_determined frame i (step_row most) a b (most + 1) (most + 1) first.is_answer second.is_answer first.read second.read
answer_determined frame i (Triangle most) a b first second =
    row_determined frame i (triangle_row most) a b (most + 1) (most + 1) first.is_answer second.is_answer first.read second.read
answer_determined frame i (Raw count) a b first second = raw_determined frame i count a b first.is_answer second.is_answer first.read second.read

-- and at most one list of answers of the same questions
pub reading_determined : (frame : List ℕ) (i : Interval) (first second : List Answered)
    → map (λ a. a.question) first ≡ map (λ a. a.question) second
    → AnswersFrom frame i first → AnswersFrom frame i second → first ≡ second
reading_determined frame i [] [] same one two = refl
reading_determined frame i [] (b ∷ second) same one two = cc
reading_determined frame i (a ∷ first) [] same one two = cc
reading_determined frame i (a ∷ first) (b ∷ second) same one two =
    let question : a.question ≡ b.question = cc in
    let rest : map (λ a. a.question) first ≡ map (λ a. a.question) second = cc in
    let other : Answers frame i a.question b.answer = subst (λ q. Answers frame i q b.answer) (sym question) two.0 in
    let answer : a.answer ≡ b.answer = answer_determined frame i a.question a.answer b.answer one.0 other in
    let equal : a ≡ b =
    ap (λ q. let x : Answered = record { question = q; answer = a.answer } in x) question
    ∙ ap (λ v. let x : Answered = record { question = b.question; answer = v } in x) answer in
    let later : AnswersFrom frame (after_answer i a) second = subst (λ x. AnswersFrom frame (after_answer i x) second) (sym equal) two.1 in
    ap (λ x. x ∷ first) equal ∙ ap (λ l. b ∷ l) (reading_determined frame (after_answer i a) first second rest one.1 later)

-- the lower part is below the place where the parts meet
zero_read : (frame : List ℕ) (i : Interval) (p : ℕ) → 1 ≤ p → Holds frame (narrowed (part_of (bit_row p) 0) i)
    → head frame (31 + i.shift) < i.low + (i.width - i.width / 2 ^ p)
unfolding narrowed
zero_read frame i p some holds =
    let cut = zero_is_cut i.width p some in
    let meet = cut.to in
    let below = holds.below in
    let above = holds.above in
    omega arith

one_read : (frame : List ℕ) (i : Interval) (p : ℕ) → 1 ≤ p → Holds frame (narrowed (part_of (bit_row p) 1) i)
    → i.low + (i.width - i.width / 2 ^ p) ≤ head frame (31 + i.shift)
unfolding narrowed
one_read frame i p some holds =
    let cut = one_is_cut i.width p some in
    let meet = cut.from in
    let above = holds.above in
    omega arith

-- the answer of a bit is the computed one
pub bit_answer : (frame : List ℕ) (i : Interval) (p : ℕ) (answer : ℤ) → 1 ≤ p → Answers frame i (Bit p) answer → answer ≡ pos (bit_of frame i p)
unfolding bit_of
bit_answer frame i p (pos zero) some a =
    let below = zero_read frame i p some a.read.0 in
    let test : nat_lt (head frame (31 + i.shift)) (i.low + (i.width - i.width / 2 ^ p)) ≡ true = grind (arith, nat_tests) in
    ap (λ b. pos (if b then 0 else 1)) (sym test)
bit_answer frame i p (pos (suc zero)) some a =
    let above = one_read frame i p some a.read.0 in
    let test : nat_lt (head frame (31 + i.shift)) (i.low + (i.width - i.width / 2 ^ p)) ≡ false = grind (arith, nat_tests) in
    ap (λ b. pos (if b then 0 else 1)) (sym test)
bit_answer frame i p (pos (suc (suc n))) some a = absurd (let less = a.is_answer in omega arith)
bit_answer frame i p (negsuc n) some a = absurd a.is_answer

-- the first answer of a frame
pub first_bit_answer : (frame : List ℕ) (p : ℕ) (answer : ℤ) → 1 ≤ p → Answers frame (interval_of []) (Bit p) answer → answer ≡ pos (first_bit frame p)
unfolding first_bit interval_of
first_bit_answer frame p answer some a = bit_answer frame whole p answer some a

-- by the list that stood before each answer, and by its interval
pub answers_from : (frame : List ℕ) (before list : List Answered)
    → Decided (λ list question answer. Answers frame (interval_of list) question answer) (λ list a. list ++ a ∷ []) before list
    → AnswersFrom frame (interval_of before) list
answers_from frame before [] decided = tt
answers_from frame before (a ∷ list) decided = (
  decided.0,
  subst (λ i. AnswersFrom frame i list) (interval_longer before a) (answers_from frame (before ++ a ∷ []) list decided.1),
)
