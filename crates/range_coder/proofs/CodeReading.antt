-- A frame whose number is in the interval of a list, and whose last bits are the list's raw bits, answers with that list:
-- from the last answer to the first.
use Rattle.std.proofs.Common.{◌≡◌, ℕ, zero, suc, ◌+◌, ◌*◌, ◌/◌, ◌%◌, ◌^◌, ◌<◌, Bool, true, false, nat_lt, if◌then◌else◌, List, [], ◌∷◌, ℤ, pos, negsuc, refl, sym, ap, ◌∙◌, arith}
use Rattle.std.specs.Prelude.{⊤}
use Rattle.std.specs.List.{fold}
use Rattle.std.proofs.lemmas.Nat.{pow-add, pow_pos, mul-le, mod-pow-add, mod_below, same_from_place, shr_split}
use Rattle.celt_base.specs.declared.question.Question.{Question}
use Rattle.celt_base.specs.declared.question.Question.TheVariants.{Bit, Table, Uniform, Laplace, Step, Triangle, Raw}
use Rattle.celt_base.specs.Intervals.{Part, Symbol, InPart, InBits, Interval, whole, narrowed, grown, after}
use Rattle.celt_base.specs.Questions.{Row, Answered, IsAnswer, part_of, part_steps, low_steps, uniform_row, low_bits, steps, after_answer, interval_of}
use Rattle.celt_base.proofs.Narrowing.{depth_le, wider}
use Rattle.range_coder.specs.FrameBits.{number, tail}
use Rattle.range_coder.specs.Reading.{Holds, IsRead, AreRead, IsNumberRead, IsGiven, Answers, AnswersFrom}
use Rattle.range_coder.specs.Codes.{AreAnswers}
use Rattle.range_coder.proofs.CodeNumbers.{AreBytes, head_eight, tail_number, tail_end}
use Rattle.range_coder.proofs.Tails.{tail_none}

pub record Inside (frame : List ℕ) (i : Interval) : Type 0 where
  pub holds : Holds frame i
  pub raw_is : tail frame 0 i.raw ≡ i.bits

-- the raw bits are as many as are counted
abbrev pub RawFits : Interval → Type 0
RawFits i = i.bits < 2 ^ i.raw

abbrev pub Fits : Symbol → Type 0
Fits (InPart part) = ⊤
Fits (InBits count n) = n < 2 ^ count

abbrev pub AllFit : List Symbol → Type 0
AllFit [] = ⊤
AllFit (s ∷ symbols) = Fits s × AllFit symbols

grown_fits_by : (b : Bool) (i : Interval) → RawFits i → RawFits (if b then i else wider i)
grown_fits_by true i fits = fits
grown_fits_by false i fits = fits

grown_fits : (i : Interval) → RawFits i → RawFits (grown i)
unfolding grown
grown_fits i fits = grown_fits_by (nat_lt (2 ^ 23) i.width) i fits

narrowed_fits : (part : Part) (i : Interval) → RawFits i → RawFits (narrowed part i)
unfolding narrowed
narrowed_fits part i fits = fits

more_fits : (bits raw n count : ℕ) → bits < 2 ^ raw → n < 2 ^ count → bits + n * 2 ^ raw < 2 ^ (raw + count)
more_fits bits raw n count below small =
    let power = pow-add 2 raw count in
    let most = mul-le (n + 1) (2 ^ raw) (2 ^ count) (2 ^ raw) (omega arith) (omega arith) in
    omega arith

after_fits : (s : Symbol) (i : Interval) → Fits s → RawFits i → RawFits (after i s)
unfolding after
after_fits (InPart part) i small fits =
    grown_fits (grown (grown (narrowed part i))) (grown_fits (grown (narrowed part i)) (grown_fits (narrowed part i) (narrowed_fits part i fits)))
after_fits (InBits count n) i small fits = more_fits i.bits i.raw n count fits small

pub all_after_fit : (symbols : List Symbol) (i : Interval) → AllFit symbols → RawFits i → RawFits (fold after i symbols)
all_after_fit [] i small fits = fits
all_after_fit (s ∷ symbols) i small fits = all_after_fit symbols (after i s) small.1 (after_fits s i small.0 fits)

-- before a growth
grown_before_by : (frame : List ℕ) (b : Bool) (i : Interval) → AreBytes frame → Inside frame (if b then i else wider i) → Inside frame i
grown_before_by frame true i bytes inside = inside
grown_before_by frame false i bytes inside =
    let above = inside.holds.above in
    let below = inside.holds.below in
    let before = head_eight frame i.shift bytes in
    record { holds = record { above = omega arith; below = omega arith }; raw_is = inside.raw_is }

grown_before : (frame : List ℕ) (i : Interval) → AreBytes frame → Inside frame (grown i) → Inside frame i
unfolding grown
grown_before frame i bytes inside = grown_before_by frame (nat_lt (2 ^ 23) i.width) i bytes inside

-- before a part
narrowed_before : (frame : List ℕ) (part : Part) (i : Interval) → Inside frame (narrowed part i) → Inside frame i
unfolding narrowed
narrowed_before frame part i inside =
    let above = inside.holds.above in
    let below = inside.holds.below in
    let within = depth_le i.width part.total part.from in
    record { holds = record { above = omega arith; below = omega arith }; raw_is = inside.raw_is }

-- before raw bits
split_end : (n raw count bits more : ℕ) → bits < 2 ^ raw → more < 2 ^ count → n % 2 ^ (raw + count) ≡ bits + more * 2 ^ raw
    → (n / 2 ^ raw % 2 ^ count ≡ more) × (n % 2 ^ raw ≡ bits)
split_end n raw count bits more below small e =
    let split = mod-pow-add n count raw in
    let order : n % 2 ^ (raw + count) ≡ n % 2 ^ (count + raw) = ap (λ k. n % 2 ^ k) (let e : raw + count ≡ count + raw = omega arith in e) in
    same_from_place (n / 2 ^ raw % 2 ^ count) (n % 2 ^ raw) more bits (2 ^ raw) (mod_below n (2 ^ raw) (pow_pos raw)) below (omega arith)

-- The frame's number was in the interval before the symbol too, and the frame reads that symbol.
pub record Before (frame : List ℕ) (i : Interval) (s : Symbol) : Type 0 where
  pub inside : Inside frame i
  pub read : IsRead frame i s

symbol_before : (frame : List ℕ) (s : Symbol) (i : Interval) → AreBytes frame → Fits s → RawFits i → Inside frame (after i s) → Before frame i s
unfolding after
symbol_before frame (InPart part) i bytes small fits inside =
    let narrow =
    grown_before frame (narrowed part i) bytes
    (grown_before frame (grown (narrowed part i)) bytes (grown_before frame (grown (grown (narrowed part i))) bytes inside)) in
    record { inside = narrowed_before frame part i narrow; read = narrow.holds }
symbol_before frame (InBits count n) i bytes small fits inside =
    let whole : number frame % 2 ^ (i.raw + count) ≡ i.bits + n * 2 ^ i.raw = sym (tail_end frame (i.raw + count)) ∙ inside.raw_is in
    let split = split_end (number frame) i.raw count i.bits n fits small whole in
    record {
      inside = record {
        holds = record { above = inside.holds.above; below = inside.holds.below };
        raw_is = tail_end frame i.raw ∙ split.1;
      };
      read = tail_number frame i.raw count ∙ split.0;
    }

pub record AllBefore (frame : List ℕ) (i : Interval) (symbols : List Symbol) : Type 0 where
  pub inside : Inside frame i
  pub read : AreRead frame i symbols

all_before : (frame : List ℕ) (symbols : List Symbol) (i : Interval) → AreBytes frame → AllFit symbols → RawFits i
    → Inside frame (fold after i symbols) → AllBefore frame i symbols
all_before frame [] i bytes small fits inside = record { inside = inside; read = tt }
all_before frame (s ∷ symbols) i bytes small fits inside =
    let later = all_before frame symbols (after i s) bytes small.1 (after_fits s i small.0 fits) inside in
    let own = symbol_before frame s i bytes small.0 fits later.inside in
    record { inside = own.inside; read = (own.read, later.read) }

-- the symbols of an answer
part_fits : (row : Row) (a : ℤ) → AllFit (part_steps row a)
part_fits row (pos n) = (tt, tt)
part_fits row (negsuc n) = tt

low_fit : (low n : ℕ) → AllFit (low_steps low n)
low_fit zero n = tt
low_fit (suc k) n = (mod_below n (2 ^ suc k) (pow_pos (suc k)), tt)

pub steps_fit : (q : Question) (a : ℤ) → IsAnswer q a → AllFit (steps q a)
steps_fit (Bit p) a is = part_fits _ a
steps_fit (Table table) a is = part_fits _ a
steps_fit (Uniform limit) (pos n) is = (tt, low_fit (low_bits limit) n)
steps_fit (Uniform limit) (negsuc n) is = tt
steps_fit (Laplace fs decay) a is = (tt, tt)
steps_fit (Step most) a is = part_fits _ a
steps_fit (Triangle most) a is = part_fits _ a
steps_fit (Raw count) (pos n) is = (is, tt)
steps_fit (Raw count) (negsuc n) is = tt

-- a part moves no raw bits
grown_raw_by : (b : Bool) (i : Interval) → (if b then i else wider i).raw ≡ i.raw
grown_raw_by true i = refl
grown_raw_by false i = refl

grown_raw : (i : Interval) → (grown i).raw ≡ i.raw
unfolding grown
grown_raw i = grown_raw_by (nat_lt (2 ^ 23) i.width) i

part_raw : (i : Interval) (part : Part) → (after i (InPart part)).raw ≡ i.raw
unfolding after narrowed
part_raw i part = grown_raw (grown (grown (narrowed part i))) ∙ grown_raw (grown (narrowed part i)) ∙ grown_raw (narrowed part i)

low_read : (frame : List ℕ) (i : Interval) (from low n : ℕ) → i.raw ≡ from → AreRead frame i (low_steps low n) → tail frame from low ≡ n % 2 ^ low
low_read frame i from zero n e read = tail_none frame from ∙ omega arith
low_read frame i from (suc k) n e read = ap (λ m. tail frame m (suc k)) (sym e) ∙ read.0

number_given : (frame : List ℕ) (i : Interval) (limit : ℕ) (a : ℤ) → IsAnswer (Uniform limit) a → AreRead frame i (steps (Uniform limit) a) → IsNumberRead frame i limit a
number_given frame i limit (pos n) is read =
    let low = low_bits limit in
    let part = part_of (uniform_row limit) (n / 2 ^ low) in
    let raw = low_read frame (after i (InPart part)) i.raw low n (part_raw i part) read.1 in
    let split = shr_split n low in
    record { top = read.0; number = omega arith }
number_given frame i limit (negsuc n) is read = absurd is

pub given : (frame : List ℕ) (i : Interval) (q : Question) (a : ℤ) → IsAnswer q a → AreRead frame i (steps q a) → IsGiven frame i q a
given frame i (Bit p) a is read = read
given frame i (Table table) a is read = read
given frame i (Uniform limit) a is read = number_given frame i limit a is read
given frame i (Laplace fs decay) a is read = read
given frame i (Step most) a is read = read
given frame i (Triangle most) a is read = read
given frame i (Raw count) a is read = read

-- the answers of a list
pub answer_fits : (a : Answered) (i : Interval) → IsAnswer a.question a.answer → RawFits i → RawFits (after_answer i a)
unfolding after_answer
answer_fits a i is fits = all_after_fit (steps a.question a.answer) i (steps_fit a.question a.answer is) fits

answer_before : (frame : List ℕ) (a : Answered) (i : Interval) → AreBytes frame → IsAnswer a.question a.answer → RawFits i
    → Inside frame (after_answer i a) → Inside frame i × Answers frame i a.question a.answer
unfolding after_answer
answer_before frame a i bytes is fits inside =
    let before = all_before frame (steps a.question a.answer) i bytes (steps_fit a.question a.answer is) fits inside in
    (before.inside, record { is_answer = is; read = given frame i a.question a.answer is before.read })

list_fits : (list : List Answered) (i : Interval) → AreAnswers list → RawFits i → RawFits (fold after_answer i list)
list_fits [] i are fits = fits
list_fits (a ∷ list) i are fits = list_fits list (after_answer i a) are.2 (answer_fits a i are.1 fits)

pub interval_fits : (list : List Answered) → AreAnswers list → RawFits (interval_of list)
unfolding interval_of
interval_fits list are = list_fits list whole are (omega arith)

list_before : (frame : List ℕ) (list : List Answered) (i : Interval) → AreBytes frame → AreAnswers list → RawFits i
    → Inside frame (fold after_answer i list) → Inside frame i × AnswersFrom frame i list
list_before frame [] i bytes are fits inside = (inside, tt)
list_before frame (a ∷ list) i bytes are fits inside =
    let later = list_before frame list (after_answer i a) bytes are.2 (answer_fits a i are.1 fits) inside in
    let own = answer_before frame a i bytes are.1 fits later.0 in
    (own.0, (own.1, later.1))

-- a frame that is inside the interval of a list answers with that list
pub inside_answers : (frame : List ℕ) (list : List Answered) → AreBytes frame → AreAnswers list → Inside frame (interval_of list) → AnswersFrom frame whole list
unfolding interval_of
inside_answers frame list bytes are inside =
    let before = list_before frame list whole bytes are (omega arith) inside in before.1
