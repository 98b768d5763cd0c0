-- Scripts whose places are those that a frame has, and how they are joined.
use Rattle.std.proofs.Common.{◌≡◌, ℕ, zero, suc, ◌+◌, ◌<◌, ◌≤◌, List, [], ◌∷◌, ◌++◌, Bool, true, false, nat_le, if◌then◌else◌, refl, arith}
use Rattle.std.specs.Prelude.{ℤ, ⊤}
use Rattle.celt_base.specs.declared.coder.Place.{Place}
use Rattle.celt_base.specs.declared.kind.Kind.{Kind}
use Rattle.celt_base.specs.declared.question.Question.{Question}
use Rattle.celt_base.specs.Paces.{Pace, tell_of, tell_frac_of}
use Rattle.celt_base.specs.declared.question.Question.TheVariants.{Bit}
use Rattle.celt_base.specs.Questions.{IsAnswer}
use Rattle.celt_base.specs.WalkCalls.{heard, meant}
use Rattle.celt_base.specs.WalkOrders.{MayGive}
use Rattle.celt_base.specs.WalkScripts.{Script, Done, Look, Ask, Begin, and_then, each, row_of, table, asks_at, asks_value_at, asks_bit, asks_number, bit_within}
use Rattle.celt_base.specs.Walks.{Asked}
use Rattle.frame_symbols.specs.Askings.{number_within, number_within_eighths}
use Rattle.range_coder.specs.Nearest.{IsNearest}
use Rattle.celt_encode.specs.Outsets.{Outset}
use Rattle.celt_encode.specs.Places.{IsKnown, IsPlace, IsTold, IsEntered, AllPlaces}
use Rattle.celt_encode.specs.Standing.{Standing, entered_in, noted}
use Rattle.celt_encode.specs.Wanted.{wanted}
use Rattle.celt_encode.proofs.PlaceKnown.{told_known}

-- Each place is one that the frame has, and at the end this holds of what stands there and of the value.
abbrev pub Goes : {A : Type 0} → Kind → (Standing → A → Type 0) → Standing → Script A → Type 0
Goes kind holds s (Done value) = holds s value
Goes kind holds s (Look look) = (pace : Pace) → Goes kind holds s (look pace)
Goes kind holds s (Begin at script) = IsKnown s.answers × IsEntered kind s at × Goes kind holds (entered_in s at) script
Goes kind holds s (Ask at question follow) =
    IsKnown s.answers
    × IsPlace kind s at
    × ((answer : ℤ) → IsNearest question (meant at question (wanted s at)) answer
    → IsTold at (heard at question answer) × Goes kind holds (noted s (Asked at question answer)) (follow answer))

pub goes_then : {A B : Type 0} (kind : Kind) (holds : Standing → A → Type 0) (later : Standing → B → Type 0) (script : Script A) (next : A → Script B) (s : Standing)
    → Goes kind holds s script
    → ((t : Standing) (value : A) → holds t value → MayGive script value → Goes kind later t (next value))
    → Goes kind later s (and_then script next)
goes_then kind holds later (Done value) next s g h = h s value g refl
goes_then kind holds later (Look look) next s g h = λ pace. goes_then kind holds later (look pace) next s (g pace) (λ t value i m. h t value i (pace, m))
goes_then kind holds later (Begin at script) next s g h = (g.0, g.1, goes_then kind holds later script next (entered_in s at) g.2 h)
goes_then kind holds later (Ask at question follow) next s g h = (
  g.0,
  g.1,
  λ answer near. (
    (g.2 answer near).0,
    goes_then kind holds later (follow answer) next (noted s (Asked at question answer))
        (g.2 answer near).1 (λ t value i m. h t value i (answer, near.is_answer, m)),
  ),
)

pub goes_weaker : {A : Type 0} (kind : Kind) (holds later : Standing → A → Type 0) (script : Script A) (s : Standing)
    → ((t : Standing) (value : A) → holds t value → later t value)
    → Goes kind holds s script
    → Goes kind later s script
goes_weaker kind holds later (Done value) s w g = w s value g
goes_weaker kind holds later (Look look) s w g = λ pace. goes_weaker kind holds later (look pace) s w (g pace)
goes_weaker kind holds later (Begin at script) s w g = (g.0, g.1, goes_weaker kind holds later script (entered_in s at) w g.2)
goes_weaker kind holds later (Ask at question follow) s w g = (g.0, g.1, λ answer near. ((g.2 answer near).0, goes_weaker kind holds later (follow answer) (noted s (Asked at question answer)) w (g.2 answer near).1))

pub all_places : {A : Type 0} (kind : Kind) (holds : Standing → A → Type 0) (script : Script A) (s : Standing)
    → Goes kind holds s script
    → AllPlaces kind s script
all_places kind holds (Done value) s g = tt
all_places kind holds (Look look) s g = λ pace. all_places kind holds (look pace) s (g pace)
all_places kind holds (Begin at script) s g = (g.0, g.1, all_places kind holds script (entered_in s at) g.2)
all_places kind holds (Ask at question follow) s g = (g.0, g.1, λ answer near. ((g.2 answer near).0, all_places kind holds (follow answer) (noted s (Asked at question answer)) (g.2 answer near).1))

-- What stands in a frame of this outset, and holds of the two vectors that were entered last.
pub record Stands (f : Outset) (held : List ℤ → List ℤ → Type 0) (s : Standing) : Type 0 where
  pub frame_is : s.frame ≡ f
  pub known : IsKnown s.answers
  pub held_is : held s.first s.second

abbrev pub whatever : List ℤ → List ℤ → Type 0
whatever first second = ⊤

-- an answer changes neither the outset nor the vectors
pub stays : {f : Outset} {held : List ℤ → List ℤ → Type 0} (s : Standing) (at : Place) (question : Question) (answer : ℤ)
    → IsPlace f.kind s at
    → Stands f held s
    → Stands f held (noted s (Asked at question answer))
stays {f} s at question answer place is = record { frame_is = is.frame_is; known = told_known f.kind s at (heard at question answer) place is.known; held_is = is.held_is }

-- A script whose places are those of the frame, and which leaves what holds as it was.
pub record Keeps {A : Type 0} (f : Outset) (held : List ℤ → List ℤ → Type 0) (script : Script A) : Type 0 where
  pub is : (s : Standing) → Stands f held s → Goes f.kind (λ t value. Stands f held t) s script

-- The place is one of the frame, and what is told of an answer is kept as it is.
abbrev pub Fits : Outset → (List ℤ → List ℤ → Type 0) → Place → Question → Type 0
Fits f held at question =
    ((s : Standing) → Stands f held s → IsPlace f.kind s at) × ((answer : ℤ) → IsAnswer question answer → IsTold at (heard at question answer))

module _ {f : Outset} {held : List ℤ → List ℤ → Type 0} where
  pub keep_none : {A : Type 0} {value : A} → Keeps f held (Done value)
  keep_none = record { is = λ s i. i }

  pub keep_then : {A B : Type 0} {first : Script A} {next : A → Script B}
      → Keeps f held first
      → ((value : A) → MayGive first value → Keeps f held (next value))
      → Keeps f held (and_then first next)
  keep_then {first = first} {next = next} a b = record { is = λ s i. goes_then f.kind (λ t value. Stands f held t) (λ t value. Stands f held t) first next s (a.is s i) (λ t value j m. (b value m).is t j) }

  pub keep_look : {A : Type 0} {from : Pace → Script A} → ((pace : Pace) → Keeps f held (from pace)) → Keeps f held (Look from)
  keep_look g = record { is = λ s i pace. (g pace).is s i }

  pub keep_if : {A : Type 0} (test : Bool) {first second : Script A} → Keeps f held first → Keeps f held second → Keeps f held (if test then first else second)
  keep_if true a b = a
  keep_if false a b = b

  pub keep_test : {A : Type 0} (test : Bool) {first second : Script A} → (test ≡ true → Keeps f held first) → (test ≡ false → Keeps f held second)
      → Keeps f held (if test then first else second)
  keep_test true a b = a refl
  keep_test false a b = b refl

  pub keep_ask : (at : Place) (question : Question) → Fits f held at question → Keeps f held (asks_at at question)
  unfolding asks_at
  keep_ask at question fits = record { is = λ s i. (i.known, fits.0 s i, λ answer near. (fits.1 answer near.is_answer, stays s at question answer (fits.0 s i) i)) }

  pub keep_value : (at : Place) (question : Question) → Fits f held at question → Keeps f held (asks_value_at at question)
  unfolding asks_value_at
  keep_value at question fits = keep_then (keep_ask at question fits) (λ answer m. keep_none)

  pub keep_bit : (at : Place) (p : ℕ) → Fits f held at (Bit p) → Keeps f held (asks_bit at p)
  unfolding asks_bit
  keep_bit at p fits = keep_then (keep_ask at _ fits) (λ answer m. keep_none)

  pub keep_number : (at : Place) (question : Question) → Fits f held at question → Keeps f held (asks_number at question)
  unfolding asks_number
  keep_number at question fits = keep_then (keep_ask at question fits) (λ answer m. keep_none)

  pub keep_bit_within : (at : Place) (p cost budget : ℕ) → Fits f held at (Bit p) → Keeps f held (bit_within at p cost budget)
  unfolding bit_within
  keep_bit_within at p cost budget fits = keep_look (λ pace. keep_if (nat_le (tell_of pace + cost) budget) (keep_bit at p fits) keep_none)

  pub keep_number_within : (at : Place) (question : Question) (cost budget other : ℕ) → Fits f held at question → Keeps f held (number_within at question cost budget other)
  unfolding number_within
  keep_number_within at question cost budget other fits = keep_look (λ pace. keep_if (nat_le (tell_of pace + cost) budget) (keep_number at question fits) keep_none)

  pub keep_eighths_within : (at : Place) (question : Question) (cost eighths other : ℕ) → Fits f held at question → Keeps f held (number_within_eighths at question cost eighths other)
  unfolding number_within_eighths
  keep_eighths_within at question cost eighths other fits =
      keep_look (λ pace. keep_if (nat_le (tell_frac_of pace + cost) eighths) (keep_number at question fits) keep_none)

  pub keep_each : {A : Type 0} (script : ℕ → List A → Script A) (end : ℕ) → ((at : ℕ) (before : List A) → at < end → Keeps f held (script at before))
      → (left at : ℕ) (values : List A) → left + at ≤ end → Keeps f held (each script left at values)
  keep_each script end one zero at values inside = keep_none
  keep_each script end one (suc left) at values inside =
      keep_then (one at values (omega (arith, inside))) (λ value m. keep_each script end one left (at + 1) (values ++ value ∷ []) (omega (arith, inside)))

  pub keep_table : {A : Type 0} (script : ℕ → ℕ → Script A) (channels bands : ℕ)
      → ((band channel : ℕ) → band < bands → channel < channels → Keeps f held (script band channel))
      → Keeps f held (table script channels bands)
  keep_table script channels bands one =
      keep_each (λ band before. row_of script band channels 0 []) bands (λ band before below. keep_each (λ channel before. script band channel) channels (λ channel values inside. one band channel below inside) channels 0 [] (omega arith)) bands 0 [] (omega arith)
