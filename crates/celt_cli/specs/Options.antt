-- Options on a command line, and the words that write them.
use Rattle.std.specs.Prelude.{ℕ, Bool, true, false, not, ◌&&◌, ◌||◌, List, [], ◌∷◌, ◌++◌, find, if◌then◌else◌, Option, None, Some, is_some, option_and_then, slice_get}
use Rattle.std.specs.List.{list_any, list_all}
use Rattle.std.specs.Option.{option_map_or}
use Rattle.std.specs.Str.{bytes_eq, chars}
use Rattle.clap.specs.Lexer.{long_of, short_of}

abbrev pub Text : Type 0
Text = List ℕ

-- an option of a command: written `--name value` or `--name=value`, or `--name` where it is a flag
pub record Known : Type 0 where
  pub name : Text
  pub takes_value : Bool
  pub is_required : Bool

-- an option that stands among the words; a flag has no value
pub record Given : Type 0 where
  pub name : Text
  pub values : List Text

abbrev pub known_by : List Known → Text → Option Known
known_by knowns name = find (λ k. bytes_eq k.name name) knowns

abbrev pub has_option : Text → List Given → Bool
has_option name givens = list_any (λ g. bytes_eq g.name name) givens

-- `--`, behind which no option stands
abbrev pub is_ending : Text → Bool
is_ending word = bytes_eq word (45 ∷ 45 ∷ [])

-- a hyphen and at least one character
abbrev pub is_short : Text → Bool
is_short word = option_map_or (λ flags. is_some (slice_get (chars flags) 0)) (short_of word) false

-- a word that can be a value by itself: none that looks like an option
abbrev pub is_value : Text → Bool
is_value word = not (is_ending word) && (not (is_some (long_of word)) && not (is_short word))

abbrev pub is_last : List Text → Bool
is_last [] = true
is_last (word ∷ words) = false

-- ---- THE WORDS ONE AFTER THE OTHER

-- what the words behind an option make of those that were read, and of one that waits for its value
abbrev pub Next : Type 0
Next = Option Known → List Given → Option (List Given)

-- an option stands once
abbrev pub given : Known → List Text → List Given → Next → Option (List Given)
given k values before next = if has_option k.name before then None else next None (before ++ record { name = k.name; values = values } ∷ [])

-- with or without `=`
abbrev pub written_as : Bool → Known → Option Text → List Given → Next → Option (List Given)
written_as true k (Some value) before next = given k (value ∷ []) before next
written_as true k None before next = next (Some k) before
written_as false k (Some value) before next = None
written_as false k None before next = given k [] before next

abbrev pub written : Option Known → Option Text → List Given → Next → Option (List Given)
written None value before next = None
written (Some k) value before next = written_as k.takes_value k value before next

-- the name and what stands behind `=`
abbrev pub option_word : List Known → Option (Text × Option Text) → List Given → Next → Option (List Given)
option_word knowns None before next = None
option_word knowns (Some p) before next = written (known_by knowns p.0) p.1 before next

abbrev pub first_word : List Known → Bool → Option (Text × Option Text) → List Text → List Given → Next → Option (List Given)
first_word knowns true parts words before next = if is_last words then Some before else None
first_word knowns false parts words before next = option_word knowns parts before next

abbrev pub next_word : List Known → Option Known → Text → List Text → List Given → Next → Option (List Given)
next_word knowns None word words before next = first_word knowns (is_ending word) (long_of word) words before next
next_word knowns (Some k) word words before next = if is_value word then given k (word ∷ []) before next else None

abbrev pub at_end : Option Known → List Given → Option (List Given)
at_end None before = Some before
at_end (Some k) before = None

-- the options that the words write, behind those that were read before, one of which may wait for its value
unfoldable pub options_from : List Known → List Text → Option Known → List Given → Option (List Given)
options_from knowns [] waits before = at_end waits before
options_from knowns (word ∷ words) waits before = next_word knowns waits word words before (options_from knowns words)

-- ---- ALL WORDS

-- the options that must stand do
abbrev pub has_required : List Known → List Given → Bool
has_required knowns givens = list_all (λ k. not k.is_required || has_option k.name givens) knowns

abbrev pub with_required : List Known → Option (List Given) → Option (List Given)
with_required knowns None = None
with_required knowns (Some givens) = if has_required knowns givens then Some givens else None

-- the options of a command that the words write
unfoldable pub options_in : List Known → List Text → Option (List Given)
options_in knowns words = with_required knowns (options_from knowns words None [])

-- the value of an option
abbrev pub value_of : Text → List Given → Option Text
value_of name givens = option_and_then (λ (g : Given). slice_get g.values 0) (find (λ g. bytes_eq g.name name) givens)
