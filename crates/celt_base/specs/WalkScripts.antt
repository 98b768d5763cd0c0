-- Scripts: which questions are asked, at which places, and what comes of the answers. A script has no coder and no
-- bytes; where the next question depends on the bits used so far, it looks at the pace.
use Rattle.std.specs.Prelude.{ℕ, zero, suc, ◌+◌, nat_le, ℤ, pos, unsigned_abs, Bool, true, false, if◌then◌else◌, List, [], ◌∷◌, ◌++◌}
use Rattle.celt_base.specs.declared.coder.Enter.{Enter}
use Rattle.celt_base.specs.declared.coder.Place.{Place}
use Rattle.celt_base.specs.declared.question.Question.{Question}
use Rattle.celt_base.specs.declared.question.Question.TheVariants.{Bit}
use Rattle.celt_base.specs.Paces.{Pace, tell_of}
use Rattle.celt_base.specs.WalkCalls.{heard}

-- A value; or a look at the pace; or a question at a place, and what follows each answer; or a band of one channel is
-- entered.
pub data Script (A : Type 0) : Type 0 where
  Done : A → Script A
  Look : (Pace → Script A) → Script A
  Ask : Place → Question → (ℤ → Script A) → Script A
  Begin : Enter → Script A → Script A

-- One script, and then the one that its value chooses.
abbrev pub and_then : {A B : Type 0} → Script A → (A → Script B) → Script B
and_then (Done value) next = next value
and_then (Look look) next = Look (λ pace. and_then (look pace) next)
and_then (Ask at question follow) next = Ask at question (λ answer. and_then (follow answer) next)
and_then (Begin at script) next = Begin at (and_then script next)

-- One question: its answer, the value of its answer, or whether it is 1.
unfoldable pub asks_at : Place → Question → Script ℤ
asks_at at question = Ask at question (λ answer. Done answer)

unfoldable pub asks_value_at : Place → Question → Script ℤ
asks_value_at at question = and_then (asks_at at question) (λ answer. Done (heard at question answer))

unfoldable pub is_one : ℤ → Bool
is_one (pos (suc zero)) = true
is_one answer = false

unfoldable pub asks_bit : Place → ℕ → Script Bool
asks_bit at p = and_then (asks_at at (Bit p)) (λ answer. Done (is_one answer))

-- One question whose answers are the numbers from 0 on.
unfoldable pub asks_number : Place → Question → Script ℕ
asks_number at question = and_then (asks_at at question) (λ answer. Done (unsigned_abs answer))

-- Whether a bit is 1, which is asked where at least `cost` bits are left of a budget of bits; elsewhere it is not.
unfoldable pub bit_within : Place → ℕ → ℕ → ℕ → Script Bool
bit_within at p cost budget = Look (λ pace. if nat_le (tell_of pace + cost) budget then asks_bit at p else Done false)

-- The scripts of the next `left` places in order, each given its place and the values before it.
abbrev pub each : {A : Type 0} → (ℕ → List A → Script A) → ℕ → ℕ → List A → Script (List A)
each script zero at values = Done values
each script (suc left) at values = and_then (script at values) (λ value. each script left (at + 1) (values ++ value ∷ []))

-- One band: an entry for each channel.
abbrev pub row_of : {A : Type 0} → (ℕ → ℕ → Script A) → ℕ → ℕ → ℕ → List A → Script (List A)
row_of script band left channel values = each (λ channel before. script band channel) left channel values

-- Bands in order, the channels inside each.
abbrev pub rows_of : {A : Type 0} → (ℕ → ℕ → Script A) → ℕ → ℕ → ℕ → List (List A) → Script (List (List A))
rows_of script channels left band rows = each (λ band before. row_of script band channels 0 []) left band rows

abbrev pub table : {A : Type 0} → (ℕ → ℕ → Script A) → ℕ → ℕ → Script (List (List A))
table script channels bands = rows_of script channels bands 0 []
