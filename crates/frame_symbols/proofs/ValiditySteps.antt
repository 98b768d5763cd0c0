-- Each question of joined scripts is valid, where those of the parts are; and so is each of a list in order.
use Rattle.std.proofs.Common.{◌≡◌, ℕ, zero, suc, ◌+◌, ◌<◌, ◌≤◌, ℤ, List, [], ◌∷◌, ◌++◌, Bool, true, false, nat_le, if◌then◌else◌, refl, sym, ap, subst, arith}
use Rattle.std.specs.Prelude.{pos, negsuc, unsigned_abs}
use Rattle.celt_base.specs.declared.coder.Enter.{Enter}
use Rattle.celt_base.specs.declared.coder.Place.{Place}
use Rattle.celt_base.specs.declared.question.Question.{Question}
use Rattle.celt_base.specs.declared.question.Question.TheVariants.{Bit, Uniform}
use Rattle.celt_base.specs.Paces.{Pace, paced, tell_of, tell_frac_of}
use Rattle.celt_base.specs.Questions.{Answered, IsValid, IsAnswer, IsBelow}
use Rattle.celt_base.specs.WalkOrders.{InOrder, MayGive}
use Rattle.celt_base.specs.WalkScripts.{Script, Done, Look, Ask, Begin, and_then, asks_at, asks_value_at, asks_bit, asks_number, bit_within, each, row_of, table}
use Rattle.frame_symbols.specs.Askings.{number_within, number_within_eighths}
use Rattle.frame_symbols.specs.Validity.{AllValid, IsAllValid}
use Rattle.range_coder.specs.Codes.{AreAnswers, FitsType, FitTypes}

pub valid_done : {A : Type 0} {value : A} → IsAllValid (Done value)
valid_done = record { is = tt }

pub valid_look : {A : Type 0} {from : Pace → Script A} → ((pace : Pace) → IsAllValid (from pace)) → IsAllValid (Look from)
valid_look f = record { is = λ pace. (f pace).is }

pub valid_begin : {A : Type 0} {at : Enter} {script : Script A} → IsAllValid script → IsAllValid (Begin at script)
valid_begin a = record { is = a.is }

-- Of two joined scripts the second is the one of a value that the first may give.
all_then : {A B : Type 0} (script : Script A) (follow : A → Script B)
    → AllValid script
    → ((value : A) → MayGive script value → AllValid (follow value))
    → AllValid (and_then script follow)
all_then (Done value) follow valid later = later value refl
all_then (Look look) follow valid later = λ pace. all_then (look pace) follow (valid pace) (λ value gives. later value (pace, gives))
all_then (Begin at script) follow valid later = all_then script follow valid later
all_then (Ask at question answers) follow valid later =
    (valid.0, valid.1, λ answer is. all_then (answers answer) follow (valid.2 answer is) (λ value gives. later value (answer, is, gives)))

pub valid_given : {A B : Type 0} {first : Script A} {next : A → Script B}
    → IsAllValid first
    → ((value : A) → MayGive first value → IsAllValid (next value))
    → IsAllValid (and_then first next)
valid_given {first = first} {next = next} a b = record { is = all_then first next a.is (λ value gives. (b value gives).is) }

pub valid_then : {A B : Type 0} {first : Script A} {next : A → Script B}
    → IsAllValid first
    → ((value : A) → IsAllValid (next value))
    → IsAllValid (and_then first next)
valid_then a b = valid_given a (λ value gives. b value)

pub valid_if : {A : Type 0} (test : Bool) {first second : Script A}
    → IsAllValid first
    → IsAllValid second
    → IsAllValid (if test then first else second)
valid_if true a b = a
valid_if false a b = b

pub valid_by : {A : Type 0} (test : Bool) {first second : Script A}
    → (test ≡ true → IsAllValid first)
    → (test ≡ false → IsAllValid second)
    → IsAllValid (if test then first else second)
valid_by true a b = a refl
valid_by false a b = b refl

-- one question
pub valid_answer : (at : Place) (question : Question) → IsValid question → FitsType question → IsAllValid (asks_at at question)
unfolding asks_at
valid_answer at question valid fits = record { is = (valid, fits, λ answer is. tt) }

pub valid_value : (at : Place) (question : Question) → IsValid question → FitsType question → IsAllValid (asks_value_at at question)
unfolding asks_value_at
valid_value at question valid fits = valid_then (valid_answer at question valid fits) (λ answer. valid_done)

pub valid_number : (at : Place) (question : Question) → IsValid question → FitsType question → IsAllValid (asks_number at question)
unfolding asks_number
valid_number at question valid fits = valid_then (valid_answer at question valid fits) (λ answer. valid_done)

pub valid_bit : (at : Place) (p : ℕ) → 1 ≤ p → p ≤ 15 → IsAllValid (asks_bit at p)
unfolding asks_bit
valid_bit at p some few = valid_then (valid_answer at (Bit p) (some, few) tt) (λ answer. valid_done)

pub valid_bit_within : (at : Place) (p cost budget : ℕ) → 1 ≤ p → p ≤ 15 → IsAllValid (bit_within at p cost budget)
unfolding bit_within
valid_bit_within at p cost budget some few =
    valid_look (λ pace. valid_if (nat_le (tell_of pace + cost) budget) (valid_bit at p some few) valid_done)

pub valid_number_within : (at : Place) (question : Question) (cost budget other : ℕ) → IsValid question → FitsType question
    → IsAllValid (number_within at question cost budget other)
unfolding number_within
valid_number_within at question cost budget other valid fits =
    valid_look (λ pace. valid_if (nat_le (tell_of pace + cost) budget) (valid_number at question valid fits) valid_done)

pub valid_eighths_within : (at : Place) (question : Question) (cost budget other : ℕ) → IsValid question → FitsType question
    → IsAllValid (number_within_eighths at question cost budget other)
unfolding number_within_eighths
valid_eighths_within at question cost budget other valid fits =
    valid_look (λ pace. valid_if (nat_le (tell_frac_of pace + cost) budget) (valid_number at question valid fits) valid_done)

-- one script for each place
pub valid_each : {A : Type 0} (script : ℕ → List A → Script A) (last : ℕ)
    → ((at : ℕ) (values : List A) → at < last → IsAllValid (script at values))
    → (left at : ℕ) (values : List A)
    → at + left ≤ last
    → IsAllValid (each script left at values)
valid_each script last valid zero at values le = valid_done
valid_each script last valid (suc left) at values le =
    valid_then (valid at values (omega arith)) (λ value. valid_each script last valid left (at + 1) (values ++ value ∷ []) (omega arith))

pub valid_table : {A : Type 0} (script : ℕ → ℕ → Script A) (channels bands : ℕ)
    → ((band channel : ℕ) → band < bands → IsAllValid (script band channel))
    → IsAllValid (table script channels bands)
valid_table script channels bands valid =
    valid_each (λ band before. row_of script band channels 0 []) bands
    (λ band before inside. valid_each (λ channel before. script band channel) channels (λ channel before within. valid band channel inside) channels 0 [] (omega arith))
    bands 0 [] (omega arith)

-- a number that was asked is below its limit
below_limit : (count : ℕ) (answer : ℤ) → IsBelow count answer → unsigned_abs answer < count
below_limit count (pos n) below = below
below_limit count (negsuc n) below = absurd below

pub number_below : (at : Place) (limit value : ℕ) → MayGive (asks_number at (Uniform limit)) value → value < limit
unfolding asks_number asks_at
number_below at limit value gives = subst (λ n. n < limit) (sym gives.2) (below_limit limit gives.0 gives.1)

-- Each question of a list in order is valid and fits its type.
valid_answered : (question : Question) (a : Answered) (list : List Answered)
    → IsValid question
    → FitsType question
    → (a.question ≡ question) × IsAnswer question a.answer
    → AreAnswers list × FitTypes list
    → AreAnswers (a ∷ list) × FitTypes (a ∷ list)
valid_answered question a list valid fits follows rest =
    let same = sym follows.0 in
    ((subst IsValid same valid, subst (λ q. IsAnswer q a.answer) same follows.1, rest.0), (subst FitsType same fits, rest.1))

pub valid_list : {A : Type 0} (script : Script A) (pace : Pace) (list : List Answered) → AllValid script → InOrder script pace list
    → AreAnswers list × FitTypes list
valid_list script pace [] valid order = (tt, tt)
valid_list (Done value) pace (a ∷ list) valid order = absurd (order [] a list refl)
valid_list (Look look) pace (a ∷ list) valid order = valid_list (look pace) pace (a ∷ list) (valid pace) order
valid_list (Begin at script) pace (a ∷ list) valid order = valid_list script pace (a ∷ list) valid order
valid_list (Ask at question follow) pace (a ∷ list) valid order =
    let is = order [] a list refl in
    valid_answered question a list valid.0 valid.1 is
    (valid_list (follow a.answer) (paced question a.answer pace) list (valid.2 a.answer is.1) (λ front b more e. order (a ∷ front) b more (ap (λ l. a ∷ l) e)))
