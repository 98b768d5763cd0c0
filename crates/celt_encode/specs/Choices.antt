-- The choice of a frame: the questions of its script in their order, each with the answer that is nearest to what is wanted
-- of it, by what was answered before. It is said over any state that is kept of the events, and any wanted number.
use Rattle.std.specs.Prelude.{ℕ, ◌+◌, ◌^◌, Bool, false, if◌then◌else◌, nat_lt, ℤ, pos, negsuc, ⊤, List, [], ◌∷◌}
use Rattle.celt_base.specs.declared.coder.Place.{Place}
use Rattle.celt_base.specs.declared.question.Question.{Question}
use Rattle.celt_base.specs.declared.question.Question.TheVariants.{Bit, Table, Uniform, Laplace, Step, Triangle, Raw}
use Rattle.celt_base.specs.Paces.{Pace, paced}
use Rattle.celt_base.specs.Questions.{answers_of, laplace_row, place_of, start}
use Rattle.celt_base.specs.WalkCalls.{meant}
use Rattle.celt_base.specs.WalkScripts.{Script, Done, Look, Ask, Begin}
use Rattle.celt_base.specs.Walks.{Event, Asked, Entered}
use Rattle.fixed_math.specs.Search.{greatest}
use Rattle.range_coder.specs.Nearest.{IsNearest}

-- the number is one of the first `count`
abbrev pub is_among : ℕ → ℤ → Bool
is_among count (pos n) = nat_lt n count
is_among count (negsuc n) = false

-- The question has this answer.
abbrev pub has_answer : Question → ℤ → Bool
has_answer (Bit p) answer = is_among 2 answer
has_answer (Table table) answer = is_among (answers_of table) answer
has_answer (Uniform limit) answer = is_among limit answer
has_answer (Laplace fs decay) answer = nat_lt (start (laplace_row fs decay) (place_of answer)) (2 ^ 15)
has_answer (Step most) answer = is_among (most + 1) answer
has_answer (Triangle most) answer = is_among (most + 1) answer
has_answer (Raw count) answer = is_among (2 ^ count) answer

-- The nearest answer: of those from 0 to the wanted number the farthest from 0.
unfoldable pub nearest_of : Question → ℤ → ℤ
nearest_of question (pos wanted) = pos (greatest (λ n. has_answer question (pos n)) (wanted + 1))
nearest_of question (negsuc wanted) =
    if has_answer question (negsuc 0) then negsuc (greatest (λ n. has_answer question (negsuc n)) (wanted + 1)) else pos 0

-- the events of a choice, and the value that its script comes to
pub record Chosen (A : Type 0) : Type 0 where
  pub events : List Event
  pub value : A

abbrev pub preceded : {A : Type 0} → Event → Chosen A → Chosen A
preceded event chosen = record { events = event ∷ chosen.events; value = chosen.value }

-- the answer at a place: the one that is meant by the wanted number, or the nearest to it
abbrev pub answer_at : Place → Question → ℤ → ℤ
answer_at at question wanted = nearest_of question (meant at question wanted)

-- The choice of a script.
abbrev pub choose : {K A : Type 0} → (K → Event → K) → (K → Place → ℤ) → K → Script A → Pace → Chosen A
choose noted wants known (Done value) pace = record { events = []; value = value }
choose noted wants known (Look look) pace = choose noted wants known (look pace) pace
choose noted wants known (Begin at script) pace = preceded (Entered at) (choose noted wants (noted known (Entered at)) script pace)
choose noted wants known (Ask at question follow) pace =
    let answer = answer_at at question (wants known at) in
    preceded (Asked at question answer)
    (choose noted wants (noted known (Asked at question answer)) (follow answer) (paced question answer pace))

-- Each answer is the nearest to what is wanted, by what is known of the events before it.
abbrev pub AreNearest : {K : Type 0} → (K → Event → K) → (K → Place → ℤ) → K → List Event → Type 0
AreNearest noted wants known [] = ⊤
AreNearest noted wants known (Asked at question answer ∷ events) =
    IsNearest question (meant at question (wants known at)) answer × AreNearest noted wants (noted known (Asked at question answer)) events
AreNearest noted wants known (Entered at ∷ events) = AreNearest noted wants (noted known (Entered at)) events
