-- The lists of words that are accepted as options, said at once and not word after word.
use Rattle.std.specs.Prelude.{◌≡◌, ℕ, ◌+◌, ◌-◌, ◌*◌, Bool, true, false, List, [], ◌∷◌, ◌++◌, map, not, ◌==◌, if◌then◌else◌, Some, ⊤}
use Rattle.std.specs.List.{flat_map, fold, list_any, list_all}
use Rattle.celt_cli.specs.Options.{Text, Known, Given, known_by, has_option, is_value, has_required}

-- an option among the words: as `--name=value`, or in words of their own
pub record Entry : Type 0 where
  pub given : Given
  pub joined : Bool

-- `--name`, and `--name=value`
abbrev pub long_word : Text → Text
long_word name = 45 ∷ 45 ∷ name

abbrev pub joined_word : Text → Text → Text
joined_word name value = long_word (name ++ 61 ∷ value)

-- a flag has no value
abbrev pub value_words : Bool → Text → List Text → List Text
value_words joined name [] = long_word name ∷ []
value_words true name (value ∷ more) = joined_word name value ∷ []
value_words false name (value ∷ more) = long_word name ∷ value ∷ []

abbrev pub entry_words : Entry → List Text
entry_words e = value_words e.joined e.given.name e.given.values

-- the words of options one behind the other; `--` may stand behind them
abbrev pub words_of : List Entry → Bool → List Text
words_of entries ending = flat_map entry_words entries ++ (if ending then long_word [] ∷ [] else [])

-- an option that takes a value has one; in a word of its own it does not look like an option
abbrev pub FitsValue : Bool → Bool → List Text → Type 0
FitsValue true joined [] = ⊥
FitsValue true true (value ∷ []) = ⊤
FitsValue true false (value ∷ []) = is_value value ≡ true
FitsValue true joined (value ∷ second ∷ more) = ⊥
FitsValue false joined [] = ⊤
FitsValue false joined (value ∷ more) = ⊥

pub record Stands (knowns : List Known) (e : Entry) : Type 0 where
  pub known : Known
  pub is_known : known_by knowns e.given.name ≡ Some known
  pub fits : FitsValue known.takes_value e.joined e.given.values

unfoldable pub AllStand : List Known → List Entry → Type 0
AllStand knowns [] = ⊤
AllStand knowns (e ∷ entries) = Stands knowns e × AllStand knowns entries

-- behind those before, no option stands twice
unfoldable pub AreOnce : List Given → List Given → Type 0
AreOnce before [] = ⊤
AreOnce before (g ∷ givens) = (has_option g.name before ≡ false) × AreOnce (before ++ g ∷ []) givens

-- the words write these options of a command, in this order: each is known and fits, none stands twice, and those that must stand do
pub record AreWritten (knowns : List Known) (words : List Text) (givens : List Given) : Type 0 where
  pub entries : List Entry
  pub ending : Bool
  pub words_are : words ≡ words_of entries ending
  pub givens_are : givens ≡ map (λ (e : Entry). e.given) entries
  pub stand : AllStand knowns entries
  pub once : AreOnce [] givens
  pub required : has_required knowns givens ≡ true

-- a name that can be told from what stands around it: not empty, and without `=`
abbrev pub is_plain : Text → Bool
is_plain [] = false
is_plain (code ∷ name) = not (list_any (λ x. x == 61) (code ∷ name))

abbrev pub are_plain : List Known → Bool
are_plain knowns = list_all (λ (k : Known). is_plain k.name) knowns

-- ---- NUMBERS

-- the number of decimal digits
abbrev pub with_digit : ℕ → ℕ → ℕ
with_digit number code = 10 * number + (code - 48)

abbrev pub digits_value : Text → ℕ
digits_value text = fold with_digit 0 text
