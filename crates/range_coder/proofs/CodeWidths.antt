-- The interval of a list of answers is never empty: each of its parts leaves a width above 2^23.
use Rattle.std.proofs.Common.{◌≡◌, ℕ, zero, suc, ◌+◌, ◌-◌, ◌*◌, ◌/◌, ◌^◌, ◌<◌, ◌≤◌, Bool, true, false, nat_lt, if◌then◌else◌, List, [], ◌∷◌, ℤ, pos, negsuc, refl, arith}
use Rattle.std.specs.Prelude.{⊤}
use Rattle.std.specs.List.{fold}
use Rattle.std.proofs.lemmas.Bool.Decides.{nat_tests}
use Rattle.std.proofs.lemmas.Nat.{mul-le, le-div, pow_pos}
use Rattle.std.proofs.Math.Nat.{div-mul-le_self}
use Rattle.celt_base.specs.declared.question.Question.{Question}
use Rattle.celt_base.specs.declared.question.Question.TheVariants.{Bit, Table, Uniform, Laplace, Step, Triangle, Raw}
use Rattle.celt_base.specs.declared.question.TableId.{TableId}
use Rattle.celt_base.specs.declared.question.TableId.TheVariants.{Tapset, Small, Spread, Trim}
use Rattle.celt_base.specs.Intervals.{Part, Symbol, InPart, InBits, Interval, whole, narrowed, grown, after}
use Rattle.celt_base.specs.Questions.{Row, Fills, Answered, IsValid, IsAnswer, part_of, low_steps, low_bits, steps, bit_row, table_row, total_of, answers_of, uniform_row, laplace_row, place_of, step_row, triangle_row, after_answer, interval_of}
use Rattle.celt_base.proofs.Narrowing.{wider}
use Rattle.celt_base.proofs.Rows.{start_le, bit_fills}
use Rattle.celt_base.proofs.Fillings.{table_fills, uniform_fills, step_fills, triangle_fills, laplace_fills, filled_place}
use Rattle.range_coder.specs.Codes.{AreAnswers, FitsType, FitTypes}
use Rattle.range_coder.proofs.Cuts.{unit_wide, part_wide}
use Rattle.range_coder.proofs.Parts.{bit_total}
use Rattle.range_coder.proofs.Taking.{top_small}
use Rattle.range_coder.proofs.CodeEndings.{HasEnding, has_ending}

-- a part that is not empty, of a total that is not too fine
pub record IsSome (part : Part) : Type 0 where
  pub some : part.from < part.to
  pub within : part.to ≤ part.total
  pub coarse : part.total ≤ 2 ^ 15

abbrev IsWideAfter : Symbol → Type 0
IsWideAfter (InPart part) = IsSome part
IsWideAfter (InBits count n) = ⊤

abbrev AllWideAfter : List Symbol → Type 0
AllWideAfter [] = ⊤
AllWideAfter (s ∷ symbols) = IsWideAfter s × AllWideAfter symbols

grown_raises_by : (b : Bool) (i : Interval) (m n : ℕ) → nat_lt (2 ^ 23) i.width ≡ b → m ≤ i.width → n ≤ m * 256 → n ≤ 2 ^ 23 + 1
    → n ≤ (if b then i else wider i).width
grown_raises_by true i m n test low more few = let wide : 2 ^ 23 < i.width = grind (arith, nat_tests) in omega arith
grown_raises_by false i m n test low more few = omega arith

grown_raises : (i : Interval) (m n : ℕ) → m ≤ i.width → n ≤ m * 256 → n ≤ 2 ^ 23 + 1 → n ≤ (grown i).width
unfolding grown
grown_raises i m n low more few = grown_raises_by (nat_lt (2 ^ 23) i.width) i m n refl low more few

narrowed_wide : (part : Part) (i : Interval) → IsSome part → 2 ^ 23 < i.width → 2 ^ 8 ≤ (narrowed part i).width
unfolding narrowed
narrowed_wide part i is wide =
    let some = is.some in
    let within = is.within in
    let unit = unit_wide i.width part.total wide (omega arith) is.coarse in
    let least = part_wide i.width part.total part.from part.to some within in
    omega arith

after_wide : (s : Symbol) (i : Interval) → IsWideAfter s → 2 ^ 23 < i.width → 2 ^ 23 < (after i s).width
unfolding after
after_wide (InPart part) i is wide =
    let first = grown_raises (narrowed part i) (2 ^ 8) (2 ^ 16) (narrowed_wide part i is wide) (omega arith) (omega arith) in
    let second = grown_raises (grown (narrowed part i)) (2 ^ 16) (2 ^ 23 + 1) first (omega arith) (omega arith) in
    let third = grown_raises (grown (grown (narrowed part i))) (2 ^ 23 + 1) (2 ^ 23 + 1) second (omega arith) (omega arith) in
    omega arith
after_wide (InBits count n) i is wide = wide

all_after_wide : (symbols : List Symbol) (i : Interval) → AllWideAfter symbols → 2 ^ 23 < i.width → 2 ^ 23 < (fold after i symbols).width
all_after_wide [] i are wide = wide
all_after_wide (s ∷ symbols) i are wide = all_after_wide symbols (after i s) are.1 (after_wide s i are.0 wide)

-- the parts of each kind
row_some : (row : Row) (count n : ℕ) → Fills row count → n < count → row.total ≤ 2 ^ 15 → IsSome (part_of row n)
row_some row count n fills below coarse = record { some = fills.some n below; within = start_le row (suc n); coarse = coarse }

table_coarse : (t : TableId) → total_of t ≤ 2 ^ 15
table_coarse Tapset = omega arith
table_coarse Small = omega arith
table_coarse Spread = omega arith
table_coarse Trim = omega arith

triangle_coarse : (half : ℕ) → half ≤ 128 → (half + 1) * (half + 1) ≤ 2 ^ 15
triangle_coarse half few = let most = mul-le (half + 1) (half + 1) 129 129 (omega arith) (omega arith) in omega arith

low_wide : (low n : ℕ) → AllWideAfter (low_steps low n)
low_wide zero n = tt
low_wide (suc k) n = (tt, tt)

number_some : (limit n : ℕ) → limit < 2 ^ 32 → n < limit → IsSome (part_of (uniform_row limit) (n / 2 ^ low_bits limit))
number_some limit n word below =
    let unit = 2 ^ low_bits limit in
    let own = div-mul-le_self n unit in
    let top = le-div (n / unit) (limit - 1) unit (pow_pos (low_bits limit)) (omega arith) in
    let few = top_small limit word in
    row_some (uniform_row limit) ((limit - 1) / 2 ^ low_bits limit + 1) (n / 2 ^ low_bits limit) (uniform_fills limit) (omega arith) (omega arith)

laplace_part : (fs decay : ℕ) (a : ℤ) → IsValid (Laplace fs decay) → IsAnswer (Laplace fs decay) a → IsSome (part_of (laplace_row fs decay) (place_of a))
laplace_part fs decay a valid is =
    let fills = laplace_fills fs decay valid in
    let place = filled_place (laplace_row fs decay) fills.0 (place_of a) fills.1 in
    row_some (laplace_row fs decay) fills.0 (place_of a) fills.1 (place.1 is) (omega arith)

steps_wide : (q : Question) (a : ℤ) → IsValid q → FitsType q → IsAnswer q a → AllWideAfter (steps q a)
steps_wide (Bit p) (pos n) valid word is = (row_some (bit_row p) 2 n (bit_fills p valid.0) is (bit_total p valid.0 valid.1).1, tt)
steps_wide (Bit p) (negsuc n) valid word is = tt
steps_wide (Table t) (pos n) valid word is = (row_some (table_row t) (answers_of t) n (table_fills t) is (table_coarse t), tt)
steps_wide (Table t) (negsuc n) valid word is = tt
steps_wide (Uniform limit) (pos n) valid word is = (number_some limit n word is, low_wide (low_bits limit) n)
steps_wide (Uniform limit) (negsuc n) valid word is = tt
steps_wide (Laplace fs decay) a valid word is = (laplace_part fs decay a valid is, tt)
steps_wide (Step most) (pos n) valid word is =
    let few = valid.2 in
    (row_some (step_row most) (most + 1) n (step_fills most valid) is (omega arith), tt)
steps_wide (Step most) (negsuc n) valid word is = tt
steps_wide (Triangle most) (pos n) valid word is =
    let few = valid.2 in
    (row_some (triangle_row most) (most + 1) n (triangle_fills most valid) is (triangle_coarse (most / 2) (omega arith)), tt)
steps_wide (Triangle most) (negsuc n) valid word is = tt
steps_wide (Raw count) (pos n) valid word is = (tt, tt)
steps_wide (Raw count) (negsuc n) valid word is = tt

list_wide : (list : List Answered) (i : Interval) → AreAnswers list → FitTypes list → 2 ^ 23 < i.width → 2 ^ 23 < (fold after_answer i list).width
unfolding after_answer
list_wide [] i are words wide = wide
list_wide (a ∷ list) i are words wide =
    list_wide list (after_answer i a) are.2 words.1
    (all_after_wide (steps a.question a.answer) i (steps_wide a.question a.answer are.0 words.0 are.1) wide)

pub interval_wide : (list : List Answered) → AreAnswers list → FitTypes list → 2 ^ 23 < (interval_of list).width
unfolding interval_of
interval_wide list are words = list_wide list whole are words (omega arith)

pub list_ending : (list : List Answered) → AreAnswers list → FitTypes list → HasEnding (interval_of list)
list_ending list are words = let wide = interval_wide list are words in has_ending (interval_of list) (omega arith)
