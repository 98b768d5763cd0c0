-- The computed answer is the frame's.
use Rattle.std.proofs.Common.{◌≡◌, ◌≢◌, ℕ, zero, suc, ◌+◌, ◌-◌, ◌*◌, ◌/◌, ◌%◌, ◌^◌, ◌<◌, ◌≤◌, min, Bool, true, false, ◌&&◌, nat_eq, nat_lt, if◌then◌else◌, List, [], ◌∷◌, ℤ, pos, negsuc, refl, sym, ap, ◌∙◌, subst, arith}
use Rattle.std.specs.Prelude.{nat_le}
use Rattle.std.proofs.lemmas.Bool.{and_parts}
use Rattle.std.proofs.lemmas.Bool.Decides.{nat_tests}
use Rattle.celt_base.specs.declared.question.Question.{Question}
use Rattle.celt_base.specs.declared.question.Question.TheVariants.{Bit, Table, Uniform, Laplace, Step, Triangle, Raw}
use Rattle.celt_base.specs.Intervals.{Symbol, InPart, InBits, Interval, narrowed, after}
use Rattle.celt_base.specs.Questions.{answers_of, start, part_of, uniform_row, low_bits, laplace_row, place_of, steps}
use Rattle.range_coder.specs.FrameBits.{head, tail}
use Rattle.range_coder.specs.Reading.{Holds, IsRead, AreRead, IsNumber, Answers}
use Rattle.range_coder.proofs.Answering.{answer_determined}
use Rattle.frame_symbols.specs.Computing.{last_below, holds, reads, all_read, counted, gives, answer_of}

-- below a bound, and not at its last place
not_last : (test : ℕ → Bool) (n k : ℕ) → k < suc n → test k ≡ true → test n ≡ false → k < n
not_last test n k below passes e = by_place (nat_eq k n) refl
  where
    by_place : (b : Bool) → nat_eq k n ≡ b → k < n
    by_place true same =
        let at : k ≡ n = grind (arith, nat_tests, same) in
        let u : true ≡ false = sym passes ∙ subst (λ j. test j ≡ false) (sym at) e in
        absurd (grind (arith, u))
    by_place false other = grind (arith, nat_tests, other, below)

-- the one number below a bound that passes a test
last_is : (test : ℕ → Bool) (n k : ℕ) → k < n → test k ≡ true → ((j : ℕ) → j < n → test j ≡ true → j ≡ k) → last_below test n ≡ k
unfolding last_below
last_is test zero k below passes only = absurd (omega arith)
last_is test (suc n) k below passes only =
    by_test (λ less. last_is test n k less passes (λ j under passed. only j (omega arith) passed)) (test n) refl
  where
    by_test : (k < n → last_below test n ≡ k) → (b : Bool) → test n ≡ b → (if b then n else last_below test n) ≡ k
    by_test earlier true e = only n (omega arith) e
    by_test earlier false e = earlier (not_last test n k below passes e)

both : (a b : Bool) → a ≡ true → b ≡ true → (a && b) ≡ true
both a b p q = grind (arith, p, q)

holds_true : (frame : List ℕ) (i : Interval) → Holds frame i → holds frame i ≡ true
holds_true frame i h =
    let a = h.above in
    let b = h.below in
    both (nat_le i.low (head frame (31 + i.shift))) (nat_lt (head frame (31 + i.shift)) (i.low + i.width)) (grind (arith, nat_tests, a)) (grind (arith, nat_tests, b))

true_holds : (frame : List ℕ) (i : Interval) → holds frame i ≡ true → Holds frame i
true_holds frame i t =
    let p = and_parts (nat_le i.low (head frame (31 + i.shift))) (nat_lt (head frame (31 + i.shift)) (i.low + i.width)) t in
    let a = p.0 in
    let b = p.1 in
    record { above = grind (arith, nat_tests, a); below = grind (arith, nat_tests, b) }

same_number : (a b : ℕ) → a ≡ b → nat_eq a b ≡ true
same_number a b e = grind (arith, nat_tests, e)

number_same : (a b : ℕ) → nat_eq a b ≡ true → a ≡ b
number_same a b t = grind (arith, nat_tests, t)

reads_true : (frame : List ℕ) (i : Interval) (s : Symbol) → IsRead frame i s → reads frame i s ≡ true
reads_true frame i (InPart part) is = holds_true frame (narrowed part i) is
reads_true frame i (InBits count number) is = same_number (tail frame i.raw count) number is

true_reads : (frame : List ℕ) (i : Interval) (s : Symbol) → reads frame i s ≡ true → IsRead frame i s
true_reads frame i (InPart part) t = true_holds frame (narrowed part i) t
true_reads frame i (InBits count number) t = number_same (tail frame i.raw count) number t

all_true : (frame : List ℕ) (i : Interval) (symbols : List Symbol) → AreRead frame i symbols → all_read frame i symbols ≡ true
all_true frame i [] are = refl
all_true frame i (s ∷ symbols) are = both (reads frame i s) (all_read frame (after i s) symbols) (reads_true frame i s are.0) (all_true frame (after i s) symbols are.1)

true_all : (frame : List ℕ) (i : Interval) (symbols : List Symbol) → all_read frame i symbols ≡ true → AreRead frame i symbols
true_all frame i [] t = tt
true_all frame i (s ∷ symbols) t =
    let p = and_parts (reads frame i s) (all_read frame (after i s) symbols) t in
    (true_reads frame i s p.0, true_all frame (after i s) symbols p.1)

pos_same : (m n : ℕ) → pos m ≡ pos n → m ≡ n
pos_same m n e = grind (arith, e)

-- a question whose answers are counted from 0
plain_is : (frame : List ℕ) (i : Interval) (q : Question) (test : ℕ → Bool) (count m : ℕ)
    → m < count → test m ≡ true → Answers frame i q (pos m) → ((j : ℕ) → j < count → test j ≡ true → Answers frame i q (pos j))
    → pos (last_below test count) ≡ pos m
plain_is frame i q test count m below passes is back =
    ap pos (last_is test count m below passes (λ j less passed. pos_same j m (answer_determined frame i q (pos j) (pos m) (back j less passed) is)))

-- the answers of Laplace
laplace_of : (fs decay n : ℕ) → place_of (counted (Laplace fs decay) n) ≡ n
laplace_of fs decay n = by_rest (nat_eq (n % 2) 0) refl
  where
    by_rest : (b : Bool) → nat_eq (n % 2) 0 ≡ b → place_of (if b then pos (n / 2) else negsuc (n / 2)) ≡ n
    by_rest true e = let r : n % 2 ≡ 0 = grind (arith, nat_tests, e) in omega (arith, r)
    by_rest false e = let r : n % 2 ≢ 0 = grind (arith, nat_tests, e) in omega (arith, r)

laplace_back : (fs decay : ℕ) (a : ℤ) → counted (Laplace fs decay) (place_of a) ≡ a
laplace_back fs decay (pos m) =
    let r : nat_eq (2 * m % 2) 0 ≡ true = grind (arith, nat_tests) in
    let h : 2 * m / 2 ≡ m = omega arith in
    ap (λ b. if b then pos (2 * m / 2) else negsuc (2 * m / 2)) r ∙ ap pos h
laplace_back fs decay (negsuc m) =
    let r : nat_eq ((2 * m + 1) % 2) 0 ≡ false = grind (arith, nat_tests) in
    let h : (2 * m + 1) / 2 ≡ m = omega arith in
    ap (λ b. if b then pos ((2 * m + 1) / 2) else negsuc ((2 * m + 1) / 2)) r ∙ ap negsuc h

-- each length but the first is at least one
laplace_rises : (fs decay n : ℕ) → min (2 ^ 15) n ≤ start (laplace_row fs decay) (suc n)
laplace_rises fs decay zero = omega arith
laplace_rises fs decay (suc n) = let r = laplace_rises fs decay n in omega (arith, r)

laplace_few : (fs decay n : ℕ) → start (laplace_row fs decay) n < 2 ^ 15 → n < 2 ^ 16
laplace_few fs decay zero below = omega arith
laplace_few fs decay (suc n) below = let r = laplace_rises fs decay n in omega (arith, r, below)

laplace_true : (frame : List ℕ) (i : Interval) (fs decay : ℕ) (a : ℤ) → Answers frame i (Laplace fs decay) a → gives frame i (Laplace fs decay) (place_of a) ≡ true
laplace_true frame i fs decay a is =
    let b = is.is_answer in
    both (nat_lt (start (laplace_row fs decay) (place_of a)) (2 ^ 15)) (holds frame (narrowed (part_of (laplace_row fs decay) (place_of a)) i))
    (grind (arith, nat_tests, b)) (holds_true frame (narrowed (part_of (laplace_row fs decay) (place_of a)) i) is.read.0)

true_laplace : (frame : List ℕ) (i : Interval) (fs decay n : ℕ) → gives frame i (Laplace fs decay) n ≡ true → Answers frame i (Laplace fs decay) (counted (Laplace fs decay) n)
true_laplace frame i fs decay n t =
    let p = and_parts (nat_lt (start (laplace_row fs decay) n) (2 ^ 15)) (holds frame (narrowed (part_of (laplace_row fs decay) n) i)) t in
    let a = p.0 in
    let at = sym (laplace_of fs decay n) in
    let below : start (laplace_row fs decay) n < 2 ^ 15 = grind (arith, nat_tests, a) in
    let in_part : Holds frame (narrowed (part_of (laplace_row fs decay) n) i) = true_holds frame (narrowed (part_of (laplace_row fs decay) n) i) p.1 in
    record {
      is_answer = subst (λ k. start (laplace_row fs decay) k < 2 ^ 15) at below;
      read = (subst (λ k. Holds frame (narrowed (part_of (laplace_row fs decay) k) i)) at in_part, tt);
    }

laplace_is : (frame : List ℕ) (i : Interval) (fs decay : ℕ) (a : ℤ) → Answers frame i (Laplace fs decay) a
    → counted (Laplace fs decay) (last_below (gives frame i (Laplace fs decay)) (2 ^ 16)) ≡ a
laplace_is frame i fs decay a is =
    ap (counted (Laplace fs decay))
    (last_is (gives frame i (Laplace fs decay)) (2 ^ 16) (place_of a) (laplace_few fs decay (place_of a) is.is_answer) (laplace_true frame i fs decay a is)
    (λ j less passed. sym (laplace_of fs decay j) ∙ ap place_of (answer_determined frame i (Laplace fs decay) (counted (Laplace fs decay) j) a (true_laplace frame i fs decay j passed) is)))
    ∙ laplace_back fs decay a

number_true : (frame : List ℕ) (i : Interval) (limit n : ℕ) → IsNumber frame i limit n → gives frame i (Uniform limit) n ≡ true
number_true frame i limit n is =
    both (holds frame (narrowed (part_of (uniform_row limit) (n / 2 ^ low_bits limit)) i))
    (nat_eq n (min (limit - 1) (n / 2 ^ low_bits limit * 2 ^ low_bits limit + tail frame i.raw (low_bits limit))))
    (holds_true frame (narrowed (part_of (uniform_row limit) (n / 2 ^ low_bits limit)) i) is.top) (same_number n _ is.number)

true_number : (frame : List ℕ) (i : Interval) (limit n : ℕ) → gives frame i (Uniform limit) n ≡ true → IsNumber frame i limit n
true_number frame i limit n t =
    let p = and_parts (holds frame (narrowed (part_of (uniform_row limit) (n / 2 ^ low_bits limit)) i))
    (nat_eq n (min (limit - 1) (n / 2 ^ low_bits limit * 2 ^ low_bits limit + tail frame i.raw (low_bits limit)))) t in
    record {
      top = true_holds frame (narrowed (part_of (uniform_row limit) (n / 2 ^ low_bits limit)) i) p.0;
      number = number_same n (min (limit - 1) (n / 2 ^ low_bits limit * 2 ^ low_bits limit + tail frame i.raw (low_bits limit))) p.1;
    }

-- a frame's answer is the computed one
pub answer_is : (frame : List ℕ) (i : Interval) (q : Question) (a : ℤ) → Answers frame i q a → answer_of frame i q ≡ a
unfolding answer_of
answer_is frame i (Bit p) (pos m) is =
    plain_is frame i (Bit p) (gives frame i (Bit p)) 2 m is.is_answer (all_true frame i (steps (Bit p) (pos m)) is.read) is
    (λ j less t. record { is_answer = less; read = true_all frame i (steps (Bit p) (pos j)) t })
answer_is frame i (Bit p) (negsuc m) is = absurd is.is_answer
answer_is frame i (Table table) (pos m) is =
    plain_is frame i (Table table) (gives frame i (Table table)) (answers_of table) m is.is_answer (all_true frame i (steps (Table table) (pos m)) is.read) is
    (λ j less t. record { is_answer = less; read = true_all frame i (steps (Table table) (pos j)) t })
answer_is frame i (Table table) (negsuc m) is = absurd is.is_answer
answer_is frame i (Uniform limit) (pos m) is =
    plain_is frame i (Uniform limit) (gives frame i (Uniform limit)) limit m is.is_answer (number_true frame i limit m is.read) is
    (λ j less t. record { is_answer = less; read = true_number frame i limit j t })
answer_is frame i (Uniform limit) (negsuc m) is = absurd is.is_answer
answer_is frame i (Laplace fs decay) a is = laplace_is frame i fs decay a is
answer_is frame i (Step most) (pos m) is =
    plain_is frame i (Step most) (gives frame i (Step most)) (most + 1) m is.is_answer (all_true frame i (steps (Step most) (pos m)) is.read) is
    (λ j less t. record { is_answer = less; read = true_all frame i (steps (Step most) (pos j)) t })
answer_is frame i (Step most) (negsuc m) is = absurd is.is_answer
answer_is frame i (Triangle most) (pos m) is =
    plain_is frame i (Triangle most) (gives frame i (Triangle most)) (most + 1) m is.is_answer (all_true frame i (steps (Triangle most) (pos m)) is.read) is
    (λ j less t. record { is_answer = less; read = true_all frame i (steps (Triangle most) (pos j)) t })
answer_is frame i (Triangle most) (negsuc m) is = absurd is.is_answer
answer_is frame i (Raw count) (pos m) is =
    plain_is frame i (Raw count) (gives frame i (Raw count)) (2 ^ count) m is.is_answer (all_true frame i (steps (Raw count) (pos m)) is.read) is
    (λ j less t. record { is_answer = less; read = true_all frame i (steps (Raw count) (pos j)) t })
answer_is frame i (Raw count) (negsuc m) is = absurd is.is_answer
