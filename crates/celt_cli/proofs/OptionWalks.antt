-- How a parse by clap walks over words: it fails just where the words write no options, and finds the options that they write.
use Rattle.std.proofs.Common.{◌≡◌, ℕ, Bool, true, false, not, List, [], ◌∷◌, ◌++◌, length, map, refl, sym, ◌∙◌, ap, subst, append-nil, Option, Some, None, is_some}
use Rattle.std.specs.Prelude.{◌&&◌, ◌||◌, ◌==◌, if◌then◌else◌, fold, option_map, option_and_then, slice_get, drop, encode_utf8, nat_lt, codes}
use Rattle.std.specs.Option.{option_map_or}
use Rattle.std.specs.Str.{bytes_eq, chars}
use Rattle.std.proofs.lemmas.Slice.Eq.{bytes_eq-Decides}
use Rattle.clap.specs.Lexer.{long_of, short_of, short_of_rest, strip_byte}
use Rattle.clap.specs.Walk.{Held, Row, Rule, Walk, Waiting, Step, arg_by_id, arg_by_index, arg_by_long, arg_by_short, has_row, at_row, without, with_values, more_values, used, settled, reacted, walked, walk_from, bundle_met, bundle, long_met, short_or_plain, after_step, after_flag, bundle_step, long_or_other, plain_word, option_word as option_word_met, takes_values, most_values, used_by_id}
use Rattle.clap.specs.Walk.Waiting.{idle, option}
use Rattle.clap.specs.Walk.Step.{next as next_step, trailing as trailing_step, value as value_step}
use Rattle.clap.specs.Walk.Outcome.{plain as plain_outcome}
use Rattle.clap.specs.Simple.{Shape, new_rule, new_shape}
use Rattle.clap.specs.Faults.{use_fault, settle_fault, react_fault, long_fault, bundle_fault, flags_fault, step_fault, turn_fault, walk_fault, stray_fault, flag_word_fault, positional_fault, bundle_step_fault, short_fault, option_fault}
use Rattle.clap.specs.Kinds.{Kinds, or_else}
use Rattle.clap.specs.declared.builder.action.ArgAction.TheVariants.{Set}
use Rattle.clap.specs.declared.builder.range.ValueRange.{ValueRange}
use Rattle.clap.specs.declared.builder.value_parser.ValueParser.TheVariants as vp
use Rattle.clap.specs.declared.builder.value_parser.Reading.TheVariants as reading
use Rattle.clap.specs.declared.error.kind.ErrorKind.TheVariants as kind
use Rattle.clap.specs.declared.parser.matches.ValueSource.TheVariants.{CommandLine}
use Rattle.celt_cli.specs.Parses.{row_for, rows_for}
use Rattle.celt_cli.specs.Options.{Text, Known, Given, known_by, has_option, is_ending, is_last, given, written_as, written, first_word, options_from}

-- ---- THE COMMAND, AS IT IS BUILT

abbrev pub range_by : Bool → ValueRange
range_by true = record { start_inclusive = 1; end_inclusive = 1 }
range_by false = record { start_inclusive = 0; end_inclusive = 0 }

abbrev pub rule_by : Text → Bool → Bool → Rule
rule_by name takes required = record (new_rule name) {
  long = Some name;
  action = Some Set;
  range = Some (range_by takes);
  parser = Some vp.String;
  required = required;
}

abbrev pub rule_for : Known → Rule
rule_for k = rule_by k.name k.takes_value k.is_required

abbrev pub rules_for : List Known → List Rule
rules_for ks = map rule_for ks

abbrev pub shape_for : List Known → Shape
shape_for ks = record (new_shape (codes "celt")) {
  rules = rules_for ks;
  no_binary_name = true;
  disable_help_flag = true;
  disable_help_subcommand = true;
  is_built = true;
}

-- an argument is found by its name
find_long : (ks : List Known) (name : Text) → arg_by_long (rules_for ks) name ≡ option_map rule_for (known_by ks name)
find_long [] name = refl
find_long (k ∷ ks) name = by (bytes_eq k.name name) (find_long ks name) where
  by : (b : Bool) → arg_by_long (rules_for ks) name ≡ option_map rule_for (known_by ks name)
      → (if b || false then Some (rule_for k) else arg_by_long (rules_for ks) name) ≡ option_map rule_for (if b then Some k else known_by ks name)
  by true rest = refl
  by false rest = rest

find_id : (ks : List Known) (name : Text) → arg_by_id (rules_for ks) name ≡ option_map rule_for (known_by ks name)
find_id [] name = refl
find_id (k ∷ ks) name = by (bytes_eq k.name name) (find_id ks name) where
  by : (b : Bool) → arg_by_id (rules_for ks) name ≡ option_map rule_for (known_by ks name)
      → (if b then Some (rule_for k) else arg_by_id (rules_for ks) name) ≡ option_map rule_for (if b then Some k else known_by ks name)
  by true rest = refl
  by false rest = rest

no_short : (ks : List Known) (x : ℕ) → arg_by_short (rules_for ks) x ≡ None
no_short [] x = refl
no_short (k ∷ ks) x = no_short ks x

no_place : (ks : List Known) → arg_by_index (rules_for ks) 1 ≡ None
no_place [] = refl
no_place (k ∷ ks) = no_place ks

known_name : (ks : List Known) (name : Text) (k : Known) → known_by ks name ≡ Some k → k.name ≡ name
known_name [] name k h = cc
known_name (x ∷ ks) name k h = by (bytes_eq x.name name) refl (known_name ks name k) h where
  by : (b : Bool) → bytes_eq x.name name ≡ b → (known_by ks name ≡ Some k → k.name ≡ name) → (if b then Some x else known_by ks name) ≡ Some k → k.name ≡ name
  by true e rest g =
      let same : x ≡ k = cc in
      ap (λ (y : Known). y.name) (sym same) ∙ (bytes_eq-Decides x.name name).0 e
  by false e rest g = rest g

known_itself : (ks : List Known) (name : Text) (k : Known) → known_by ks name ≡ Some k → known_by ks k.name ≡ Some k
known_itself ks name k h = ap (known_by ks) (known_name ks name k h) ∙ h

-- ---- FAULTS

abbrev pub fails : Kinds → Bool
fails [] = false
fails (k ∷ ks) = true

pub or_first : (a b : Kinds) → fails a ≡ true → fails (or_else a b) ≡ true
or_first [] b h = cc
or_first (k ∷ ks) b h = refl

pub or_second : (a b : Kinds) → fails b ≡ true → fails (or_else a b) ≡ true
or_second [] b h = h
or_second (k ∷ ks) b h = refl

or-assoc : (a b d : Kinds) → or_else (or_else a b) d ≡ or_else a (or_else b d)
or-assoc [] b d = refl
or-assoc (k ∷ ks) b d = refl

none-or : (a b : Kinds) → a ≡ [] → or_else a b ≡ b
none-or a b e = ap (λ k. or_else k b) e

-- ---- WHAT WAS FOUND

rows-append : (gs : List Given) (g : Given) → rows_for (gs ++ g ∷ []) ≡ rows_for gs ++ row_for g ∷ []
rows-append [] g = refl
rows-append (x ∷ gs) g = ap (λ l. row_for x ∷ l) (rows-append gs g)

has-rows : (name : Text) (gs : List Given) → has_row name (rows_for gs) ≡ has_option name gs
has-rows name [] = refl
has-rows name (g ∷ gs) = ap (λ b. bytes_eq g.name name || b) (has-rows name gs)

-- a row that is not there is put behind the others
at_row-none : (id : Text) (change : Row → List Row) (missing rows : List Row) → has_row id rows ≡ false → at_row id change missing rows ≡ rows ++ missing
at_row-none id change missing [] h = refl
at_row-none id change missing (r ∷ rows) h = by (bytes_eq r.id id) h (at_row-none id change missing rows) where
  by : (b : Bool) → (b || has_row id rows) ≡ false → (has_row id rows ≡ false → at_row id change missing rows ≡ rows ++ missing)
      → (if b then change r ++ rows else r ∷ at_row id change missing rows) ≡ r ∷ (rows ++ missing)
  by true g rest = cc
  by false g rest = ap (λ l. r ∷ l) (rest g)

-- so many values as the option takes
abbrev pub Fits : Bool → List Text → Type 0
Fits true (value ∷ []) = Unit {0}
Fits true values = ⊥
Fits false [] = Unit {0}
Fits false (value ∷ values) = ⊥

used-is : (name : Text) (takes required : Bool) (values : List Text) (gs : List Given) → has_option name gs ≡ false → Fits takes values
    → used (rule_by name takes required) values (rows_for gs) ≡ rows_for (gs ++ record { name = name; values = values } ∷ [])
used-is name takes required values gs h fits =
    let none : has_row name (rows_for gs) ≡ false = has-rows name gs ∙ h in
    let kept : without name (rows_for gs) ≡ rows_for gs = at_row-none name (λ _. []) [] (rows_for gs) none ∙ append-nil (rows_for gs) in
    by takes values fits kept none where
      by : (takes : Bool) (values : List Text) → Fits takes values → without name (rows_for gs) ≡ rows_for gs → has_row name (rows_for gs) ≡ false
          → used (rule_by name takes required) values (rows_for gs) ≡ rows_for (gs ++ record { name = name; values = values } ∷ [])
      by true [] f kept none = absurd f
      by true (value ∷ []) f kept none =
          ap (with_values name reading.AsWritten CommandLine (value ∷ [])) kept
          ∙ at_row-none name (more_values CommandLine (value ∷ [])) (row_for (record { name = name; values = value ∷ [] }) ∷ []) (rows_for gs) none
          ∙ sym (rows-append gs (record { name = name; values = value ∷ [] }))
      by true (value ∷ other ∷ values) f kept none = absurd f
      by false [] f kept none =
          ap (with_values name reading.AsWritten CommandLine []) kept
          ∙ at_row-none name (more_values CommandLine []) (row_for (record { name = name; values = [] }) ∷ []) (rows_for gs) none
          ∙ sym (rows-append gs (record { name = name; values = [] }))
      by false (value ∷ values) f kept none = absurd f

-- a use fails just where the option was used before
use_none : (name : Text) (takes required : Bool) (values : List Text) (gs : List Given) → has_option name gs ≡ false → Fits takes values → use_fault false (rule_by name takes required) values (rows_for gs) ≡ []
use_none name takes required values gs h fits = by takes values fits (has_row name (rows_for gs)) refl (has-rows name gs ∙ h) where
  by : (takes : Bool) (values : List Text) → Fits takes values → (b : Bool) → has_row name (rows_for gs) ≡ b → b ≡ false → use_fault false (rule_by name takes required) values (rows_for gs) ≡ []
  by true [] f b e n = absurd f
  by true (value ∷ []) f b e n = ap (λ b. or_else (if b && true then kind.ArgumentConflict ∷ [] else []) []) (e ∙ n)
  by true (value ∷ other ∷ values) f b e n = absurd f
  by false [] f b e n = ap (λ b. or_else (if b && true then kind.ArgumentConflict ∷ [] else []) []) (e ∙ n)
  by false (value ∷ values) f b e n = absurd f

use_again : (name : Text) (takes required : Bool) (values : List Text) (gs : List Given) → has_option name gs ≡ true → Fits takes values → fails (use_fault false (rule_by name takes required) values (rows_for gs)) ≡ true
use_again name takes required values gs h fits = by takes values fits (has-rows name gs ∙ h) where
  by : (takes : Bool) (values : List Text) → Fits takes values → has_row name (rows_for gs) ≡ true → fails (use_fault false (rule_by name takes required) values (rows_for gs)) ≡ true
  by true [] f n = absurd f
  by true (value ∷ []) f n = ap (λ b. fails (or_else (if b && true then kind.ArgumentConflict ∷ [] else []) [])) n
  by true (value ∷ other ∷ values) f n = absurd f
  by false [] f n = ap (λ b. fails (or_else (if b && true then kind.ArgumentConflict ∷ [] else []) [])) n
  by false (value ∷ values) f n = absurd f

-- ---- THE WALK

-- the faults of a walk from here on, with that of the option whose value was read last; and the rows at its end
abbrev pub fault_from : List Known → Walk → List Text → Kinds
fault_from ks w words = or_else (walk_fault (shape_for ks) [] w words) (settle_fault (rules_for ks) false (fold (walked (rules_for ks) []) w words).held)

abbrev pub rows_from : List Known → Walk → List Text → List Row
rows_from ks w words = (settled (rules_for ks) (fold (walked (rules_for ks) []) w words).held).rows

-- the walk finds these options
abbrev pub Finds : List Known → Walk → List Text → Option (List Given) → Type 0
Finds ks w words None = fails (fault_from ks w words) ≡ true
Finds ks w words (Some gs) = (fault_from ks w words ≡ []) × (rows_from ks w words ≡ rows_for gs)

fault_next : (ks : List Known) (w : Walk) (word : Text) (words : List Text)
    → fault_from ks w (word ∷ words) ≡ or_else (turn_fault (shape_for ks) [] w word) (fault_from ks (walked (rules_for ks) [] w word) words)
unfolding walk_fault
fault_next ks w word words =
    or-assoc (turn_fault (shape_for ks) [] w word) (walk_fault (shape_for ks) [] (walked (rules_for ks) [] w word) words)
    (settle_fault (rules_for ks) false (fold (walked (rules_for ks) []) (walked (rules_for ks) [] w word) words).held)

turn_fails : (ks : List Known) (w : Walk) (word : Text) (words : List Text) → fails (turn_fault (shape_for ks) [] w word) ≡ true → Finds ks w (word ∷ words) None
turn_fails ks w word words h = ap fails (fault_next ks w word words) ∙ or_first (turn_fault (shape_for ks) [] w word) (fault_from ks (walked (rules_for ks) [] w word) words) h

turn_goes : (ks : List Known) (w next : Walk) (word : Text) (words : List Text) (o : Option (List Given)) → turn_fault (shape_for ks) [] w word ≡ [] → walked (rules_for ks) [] w word ≡ next
    → Finds ks next words o → Finds ks w (word ∷ words) o
turn_goes ks w next word words None none is f =
    ap fails (fault_next ks w word words ∙ none-or (turn_fault (shape_for ks) [] w word) (fault_from ks (walked (rules_for ks) [] w word) words) none ∙ ap (λ v. fault_from ks v words) is) ∙ f
turn_goes ks w next word words (Some gs) none is f = (
  fault_next ks w word words ∙ none-or (turn_fault (shape_for ks) [] w word) (fault_from ks (walked (rules_for ks) [] w word) words) none ∙ ap (λ v. fault_from ks v words) is ∙ f.0,
  ap (λ v. rows_from ks v words) is ∙ f.1,
)

-- the turn of a word, by whether it is `--` and by what it is else
abbrev met_by : List Known → Waiting → Text → Bool → Option (Text × Option Text) → Held → Held × Step
met_by ks waiting word ends parts h = if ends then (h, trailing_step 1) else long_or_other (rules_for ks) waiting word parts h

abbrev turn_by : List Known → Waiting → Text → Bool → Option (Text × Option Text) → Held → Kinds
turn_by ks waiting word ends parts h =
    or_else (if ends then [] else flag_word_fault (rules_for ks) false parts word h)
    (step_fault (shape_for ks) 1 (met_by ks waiting word ends parts h).0 (met_by ks waiting word ends parts h).1)

abbrev at_option : Held → Text → Walk
at_option h name = record (walk_from h) { waiting = option name }

abbrev at_trailing : Held → Waiting → Walk
at_trailing h waiting = record (walk_from h) { waiting = waiting; is_trailing = true }

idle_turn : (ks : List Known) (h : Held) (word : Text) → turn_fault (shape_for ks) [] (walk_from h) word ≡ turn_by ks idle word (is_ending word) (long_of word) h
idle_turn ks h word = refl

option_turn : (ks : List Known) (h : Held) (name word : Text) → turn_fault (shape_for ks) [] (at_option h name) word ≡ turn_by ks (option name) word (is_ending word) (long_of word) h
option_turn ks h name word = refl

idle_walked : (ks : List Known) (h : Held) (word : Text)
    → walked (rules_for ks) [] (walk_from h) word ≡ after_step (rules_for ks) word (walk_from h) (met_by ks idle word (is_ending word) (long_of word) h).0 (met_by ks idle word (is_ending word) (long_of word) h).1
unfolding walked
idle_walked ks h word = refl

option_walked : (ks : List Known) (h : Held) (name word : Text)
    → walked (rules_for ks) [] (at_option h name) word ≡ after_step (rules_for ks) word (at_option h name) (met_by ks (option name) word (is_ending word) (long_of word) h).0 (met_by ks (option name) word (is_ending word) (long_of word) h).1
unfolding walked
option_walked ks h name word = refl

-- a word that no option takes
stray : (ks : List Known) (h : Held) → fails (step_fault (shape_for ks) 1 h value_step) ≡ true
stray ks h = ap (λ o. fails (option_map_or (λ a. positional_fault (rules_for ks) false a h) o (stray_fault (shape_for ks)))) (no_place ks)

-- ---- behind `--`

behind_ending : (ks : List Known) (words : List Text) (h : Held) (waiting : Waiting) (gs : List Given) → settle_fault (rules_for ks) false h ≡ [] → (settled (rules_for ks) h).rows ≡ rows_for gs
    → Finds ks (at_trailing h waiting) words (if is_last words then Some gs else None)
unfolding walk_fault
behind_ending ks [] h waiting gs none rows = (none, rows)
behind_ending ks (word ∷ words) h waiting gs none rows = turn_fails ks (at_trailing h waiting) word words (stray ks h)

broken_ending : (ks : List Known) (words : List Text) (h : Held) (waiting : Waiting) → fails (settle_fault (rules_for ks) false h) ≡ true → Finds ks (at_trailing h waiting) words None
unfolding walk_fault
broken_ending ks [] h waiting bad = bad
broken_ending ks (word ∷ words) h waiting bad = turn_fails ks (at_trailing h waiting) word words (stray ks h)

-- ---- an option by its name

abbrev pub held : List Row → Option (Text × List Text) → Held
held rows pending = record { rows = rows; pending = pending; skip = 0 }

-- what the words behind a word come to
abbrev pub Idle : List Known → List Text → Type 0
Idle ks words = (rows : List Row) (pending : Option (Text × List Text)) (gs : List Given) → settle_fault (rules_for ks) false (held rows pending) ≡ []
    → (settled (rules_for ks) (held rows pending)).rows ≡ rows_for gs → Finds ks (walk_from (held rows pending)) words (options_from ks words None gs)

abbrev pub Waits : List Known → List Text → Type 0
Waits ks words = (k : Known) (rows : List Row) (gs : List Given) → known_by ks k.name ≡ Some k → k.takes_value ≡ true → rows ≡ rows_for gs
    → Finds ks (at_option (held rows (Some (k.name, []))) k.name) words (options_from ks words (Some k) gs)

react_none : (ks : List Known) (a : Rule) (values : List Text) (h : Held) (rows : List Row) → settle_fault (rules_for ks) false h ≡ [] → (settled (rules_for ks) h).rows ≡ rows → use_fault false a values rows ≡ []
    → or_else (react_fault (rules_for ks) false a values h) [] ≡ []
react_none ks a values h rows none same ok =
    ap (λ k. or_else (or_else k (use_fault false a values (settled (rules_for ks) h).rows)) []) none
    ∙ ap (λ r. or_else (use_fault false a values r) []) same ∙ ap (λ k. or_else k []) ok

react_fails : (ks : List Known) (a : Rule) (values : List Text) (h : Held) (rows : List Row) → (settled (rules_for ks) h).rows ≡ rows → fails (use_fault false a values rows) ≡ true
    → fails (or_else (react_fault (rules_for ks) false a values h) []) ≡ true
react_fails ks a values h rows same bad =
    or_first (react_fault (rules_for ks) false a values h) []
    (or_second (settle_fault (rules_for ks) false h) (use_fault false a values (settled (rules_for ks) h).rows) (ap (λ r. fails (use_fault false a values r)) same ∙ bad))

option_given : (ks : List Known) (word : Text) (words : List Text) (k : Known) (values : List Text) (rows : List Row) (pending : Option (Text × List Text)) (gs : List Given) → Idle ks words → Fits k.takes_value values
    → settle_fault (rules_for ks) false (held rows pending) ≡ [] → (settled (rules_for ks) (held rows pending)).rows ≡ rows_for gs
    → turn_fault (shape_for ks) [] (walk_from (held rows pending)) word ≡ or_else (react_fault (rules_for ks) false (rule_for k) values (held rows pending)) []
    → walked (rules_for ks) [] (walk_from (held rows pending)) word ≡ walk_from (reacted (rules_for ks) (rule_for k) values (held rows pending))
    → Finds ks (walk_from (held rows pending)) (word ∷ words) (given k values gs (options_from ks words))
option_given ks word words k values rows pending gs next fits none same turn goes = by (has_option k.name gs) refl where
  h : Held
  h = held rows pending

  by : (b : Bool) → has_option k.name gs ≡ b
      → Finds ks (walk_from h) (word ∷ words) (if b then None else options_from ks words None (gs ++ record { name = k.name; values = values } ∷ []))
  by true e = turn_fails ks (walk_from h) word words (ap fails turn ∙ react_fails ks (rule_for k) values h (rows_for gs) same (use_again k.name k.takes_value k.is_required values gs e fits))
  by false e =
      turn_goes ks (walk_from h) (walk_from (reacted (rules_for ks) (rule_for k) values h)) word words (options_from ks words None (gs ++ record { name = k.name; values = values } ∷ []))
      (turn ∙ react_none ks (rule_for k) values h (rows_for gs) none same (use_none k.name k.takes_value k.is_required values gs e fits)) goes
      (next (used (rule_for k) values (settled (rules_for ks) h).rows) None (gs ++ record { name = k.name; values = values } ∷ []) refl
      (ap (used (rule_for k) values) same ∙ used-is k.name k.takes_value k.is_required values gs e fits))

-- the turn of a word that is written as an option, by the argument that has its name
abbrev long_step : List Known → Waiting → Text → Option Text → Held → Option Rule → Held × Step
long_step ks waiting word value h o = after_flag (rules_for ks) waiting word (long_met (rules_for ks) o value h).0 (long_met (rules_for ks) o value h).1

abbrev long_turn : List Known → Waiting → Text → Option Text → Held → Option Rule → Kinds
long_turn ks waiting word value h o =
    or_else (long_fault (rules_for ks) false o value h)
    (step_fault (shape_for ks) 1 (long_step ks waiting word value h o).0 (long_step ks waiting word value h o).1)

abbrev long_next : List Known → Walk → Waiting → Text → Option Text → Held → Option Rule → Walk
long_next ks w waiting word value h o = after_step (rules_for ks) word w (long_step ks waiting word value h o).0 (long_step ks waiting word value h o).1

-- an option with its value behind `=`
value_turn : (ks : List Known) (word value name : Text) (required : Bool) (h : Held) (t : Bool) → t ≡ true
    → long_turn ks idle word (Some value) h (Some (rule_by name t required)) ≡ or_else (react_fault (rules_for ks) false (rule_by name t required) (value ∷ []) h) []
value_turn ks word value name required h true e = refl
value_turn ks word value name required h false e = cc

value_goes : (ks : List Known) (word value name : Text) (required : Bool) (h : Held) (t : Bool) → t ≡ true
    → long_next ks (walk_from h) idle word (Some value) h (Some (rule_by name t required)) ≡ walk_from (reacted (rules_for ks) (rule_by name t required) (value ∷ []) h)
value_goes ks word value name required h true e = refl
value_goes ks word value name required h false e = cc

-- a flag
flag_turn : (ks : List Known) (word name : Text) (required : Bool) (h : Held) (t : Bool) → t ≡ false
    → long_turn ks idle word None h (Some (rule_by name t required)) ≡ or_else (react_fault (rules_for ks) false (rule_by name t required) [] h) []
flag_turn ks word name required h false e = refl
flag_turn ks word name required h true e = cc

flag_goes : (ks : List Known) (word name : Text) (required : Bool) (h : Held) (t : Bool) → t ≡ false
    → long_next ks (walk_from h) idle word None h (Some (rule_by name t required)) ≡ walk_from (reacted (rules_for ks) (rule_by name t required) [] h)
flag_goes ks word name required h false e = refl
flag_goes ks word name required h true e = cc

-- a flag with a value
flag_fails : (ks : List Known) (word value name : Text) (required : Bool) (h : Held) (t : Bool) → t ≡ false
    → fails (long_turn ks idle word (Some value) h (Some (rule_by name t required))) ≡ true
flag_fails ks word value name required h false e = refl
flag_fails ks word value name required h true e = cc

-- an option whose value stands in the next word
waits_turn : (ks : List Known) (word name : Text) (required : Bool) (h : Held) (t : Bool) → t ≡ true
    → long_turn ks idle word None h (Some (rule_by name t required)) ≡ or_else (settle_fault (rules_for ks) false h) []
waits_turn ks word name required h true e = refl
waits_turn ks word name required h false e = cc

waits_goes : (ks : List Known) (word name : Text) (required : Bool) (h : Held) (t : Bool) → t ≡ true
    → long_next ks (walk_from h) idle word None h (Some (rule_by name t required)) ≡ at_option (record (settled (rules_for ks) h) { pending = Some (name, []) }) name
waits_goes ks word name required h true e = refl
waits_goes ks word name required h false e = cc

module _ (ks : List Known) (word : Text) (words : List Text) (rows : List Row) (pending : Option (Text × List Text)) (gs : List Given)
    (none : settle_fault (rules_for ks) false (held rows pending) ≡ []) (same : (settled (rules_for ks) (held rows pending)).rows ≡ rows_for gs) where
  -- an option that the command has
  written_known : (k : Known) (value : Option Text) → Idle ks words → Waits ks words → known_by ks k.name ≡ Some k
      → turn_fault (shape_for ks) [] (walk_from (held rows pending)) word ≡ long_turn ks idle word value (held rows pending) (Some (rule_for k))
      → walked (rules_for ks) [] (walk_from (held rows pending)) word ≡ long_next ks (walk_from (held rows pending)) idle word value (held rows pending) (Some (rule_for k))
      → Finds ks (walk_from (held rows pending)) (word ∷ words) (written_as k.takes_value k value gs (options_from ks words))
  written_known k value next wait known turn goes = by k.takes_value value refl turn goes where
    h : Held
    h = held rows pending

    by : (t : Bool) (value : Option Text) → k.takes_value ≡ t
        → turn_fault (shape_for ks) [] (walk_from h) word ≡ long_turn ks idle word value h (Some (rule_for k))
        → walked (rules_for ks) [] (walk_from h) word ≡ long_next ks (walk_from h) idle word value h (Some (rule_for k))
        → Finds ks (walk_from h) (word ∷ words) (written_as t k value gs (options_from ks words))
    by true (Some x) e turn goes =
        option_given ks word words k (x ∷ []) rows pending gs next (subst (λ t. Fits t (x ∷ [])) (sym e) (tt {0})) none same
        (turn ∙ value_turn ks word x k.name k.is_required h k.takes_value e) (goes ∙ value_goes ks word x k.name k.is_required h k.takes_value e)
    by true None e turn goes =
        turn_goes ks (walk_from h) (at_option (record (settled (rules_for ks) h) { pending = Some (k.name, []) }) k.name) word words (options_from ks words (Some k) gs)
        (turn ∙ waits_turn ks word k.name k.is_required h k.takes_value e ∙ ap (λ l. or_else l []) none) (goes ∙ waits_goes ks word k.name k.is_required h k.takes_value e)
        (wait k (settled (rules_for ks) h).rows gs known e same)
    by false (Some x) e turn goes = turn_fails ks (walk_from h) word words (ap fails turn ∙ flag_fails ks word x k.name k.is_required h k.takes_value e)
    by false None e turn goes =
        option_given ks word words k [] rows pending gs next (subst (λ t. Fits t []) (sym e) (tt {0})) none same
        (turn ∙ flag_turn ks word k.name k.is_required h k.takes_value e) (goes ∙ flag_goes ks word k.name k.is_required h k.takes_value e)

  -- a word that is written as an option
  idle_long : (parts : Text × Option Text) → is_ending word ≡ false → long_of word ≡ Some parts → Idle ks words → Waits ks words
      → Finds ks (walk_from (held rows pending)) (word ∷ words) (written (known_by ks parts.0) parts.1 gs (options_from ks words))
  idle_long parts ends long next wait = by (known_by ks parts.0) refl where
    h : Held
    h = held rows pending

    turn : turn_fault (shape_for ks) [] (walk_from h) word ≡ long_turn ks idle word parts.1 h (option_map rule_for (known_by ks parts.0))
    turn =
        idle_turn ks h word ∙ ap (λ b. turn_by ks idle word b (long_of word) h) ends ∙ ap (λ o. turn_by ks idle word false o h) long
        ∙ ap (long_turn ks idle word parts.1 h) (find_long ks parts.0)

    goes : walked (rules_for ks) [] (walk_from h) word ≡ long_next ks (walk_from h) idle word parts.1 h (option_map rule_for (known_by ks parts.0))
    goes =
        idle_walked ks h word
        ∙ ap (λ b. after_step (rules_for ks) word (walk_from h) (met_by ks idle word b (long_of word) h).0 (met_by ks idle word b (long_of word) h).1) ends
        ∙ ap (λ o. after_step (rules_for ks) word (walk_from h) (met_by ks idle word false o h).0 (met_by ks idle word false o h).1) long
        ∙ ap (long_next ks (walk_from h) idle word parts.1 h) (find_long ks parts.0)

    by : (o : Option Known) → known_by ks parts.0 ≡ o → Finds ks (walk_from h) (word ∷ words) (written o parts.1 gs (options_from ks words))
    by None e = turn_fails ks (walk_from h) word words (ap fails (turn ∙ ap (λ o. long_turn ks idle word parts.1 h (option_map rule_for o)) e))
    by (Some k) e =
        written_known k parts.1 next wait (known_itself ks parts.0 k e)
        (turn ∙ ap (λ o. long_turn ks idle word parts.1 h (option_map rule_for o)) e) (goes ∙ ap (λ o. long_next ks (walk_from h) idle word parts.1 h (option_map rule_for o)) e)

-- a word that is no option by its name, where none waits for a value
abbrev other_turn : List Known → Waiting → Text → Held → Option Text → Kinds
other_turn ks waiting word h o =
    or_else (option_map_or (λ flags. bundle_fault (rules_for ks) false flags h) o [])
    (step_fault (shape_for ks) 1 (short_or_plain (rules_for ks) waiting word o h).0 (short_or_plain (rules_for ks) waiting word o h).1)

-- the first character of a word of flags
bundle_first : (ks : List Known) (x : ℕ) (flags : Text) (rows : List Row) (pending : Option (Text × List Text))
    → bundle_fault (rules_for ks) false (x ∷ flags) (held rows pending)
    ≡ bundle_step_fault (rules_for ks) false (slice_get (chars (x ∷ flags)) 0) (x ∷ flags) 0 (held rows pending) (flags_fault (rules_for ks) false (length flags))
unfolding flags_fault
bundle_first ks x flags rows pending = refl

bundle_meets : (ks : List Known) (x : ℕ) (flags : Text) (rows : List Row) (pending : Option (Text × List Text))
    → bundle (rules_for ks) (x ∷ flags) (held rows pending)
    ≡ bundle_step (rules_for ks) (slice_get (chars (x ∷ flags)) 0) (x ∷ flags) 0 plain_outcome (held rows pending) (bundle_met (rules_for ks) (length flags))
unfolding bundle_met
bundle_meets ks x flags rows pending = refl

-- a flag of one character is none
short_fails : (ks : List Known) (o : Option ℕ) (flags : Text) (h : Held) (next : Text → ℕ → Held → Kinds) → is_some o ≡ true
    → fails (bundle_step_fault (rules_for ks) false o flags 0 h next) ≡ true
short_fails ks None flags h next e = cc
short_fails ks (Some x) flags h next e =
    ap (λ o. fails (short_fault (rules_for ks) false o (drop (length (encode_utf8 x)) flags) h (next (drop (length (encode_utf8 x)) flags) 0)))
    (no_short ks x)

-- the flags of a word are not empty
pub record IsMore (flags : Text) : Type 0 where
  pub first : ℕ
  pub rest : Text
  pub is : flags ≡ first ∷ rest

short_parts : (o : Option Text) (flags : Text) → option_and_then short_of_rest o ≡ Some flags → IsMore flags
short_parts None flags h = let z : ⊥ = cc in absurd z
short_parts (Some []) flags h = let z : ⊥ = cc in absurd z
short_parts (Some (x ∷ xs)) flags h = by (x == 45) h where
  by : (b : Bool) → (if b then None else Some (x ∷ xs)) ≡ Some flags → IsMore flags
  by true e = let z : ⊥ = cc in absurd z
  by false e = record { first = x; rest = xs; is = cc }

-- such a word fails in its place, and so does one that is no option at all
other_fails : (ks : List Known) (word : Text) (rows : List Row) (pending : Option (Text × List Text)) (o : Option Text) → short_of word ≡ o → fails (other_turn ks idle word (held rows pending) o) ≡ true
other_fails ks word rows pending None e = stray ks (held rows pending)
other_fails ks word rows pending (Some flags) e = by (short_parts (strip_byte 45 word) flags e) where
  h : Held
  h = held rows pending

  at_first : (x : ℕ) (rest : Text) (o : Option ℕ) → slice_get (chars (x ∷ rest)) 0 ≡ o → fails (other_turn ks idle word h (Some (x ∷ rest))) ≡ true
  at_first x rest None e =
      ap (λ m. fails (or_else (bundle_fault (rules_for ks) false (x ∷ rest) h) (step_fault (shape_for ks) 1 (after_flag (rules_for ks) idle word m.0 m.1).0 (after_flag (rules_for ks) idle word m.0 m.1).1)))
      (bundle_meets ks x rest rows pending ∙ ap (λ o. bundle_step (rules_for ks) o (x ∷ rest) 0 plain_outcome h (bundle_met (rules_for ks) (length rest))) e)
      ∙ or_second (bundle_fault (rules_for ks) false (x ∷ rest) h) (step_fault (shape_for ks) 1 h value_step) (stray ks h)
  at_first x rest (Some y) e =
      or_first (bundle_fault (rules_for ks) false (x ∷ rest) h) _
      (ap fails (bundle_first ks x rest rows pending) ∙ short_fails ks (slice_get (chars (x ∷ rest)) 0) (x ∷ rest) h (flags_fault (rules_for ks) false (length rest)) (ap is_some e))

  by : IsMore flags → fails (other_turn ks idle word h (Some flags)) ≡ true
  by m = ap (λ l. fails (other_turn ks idle word h (Some l))) m.is ∙ at_first m.first m.rest (slice_get (chars (m.first ∷ m.rest)) 0) refl

-- ---- THE TURN OF A WORD WHERE NO OPTION WAITS

idle_step : (ks : List Known) (word : Text) (words : List Text) → Idle ks words → Waits ks words → Idle ks (word ∷ words)
unfolding options_from
idle_step ks word words next wait rows pending gs none same = by (is_ending word) (long_of word) refl refl where
  h : Held
  h = held rows pending

  by : (b : Bool) (o : Option (Text × Option Text)) → is_ending word ≡ b → long_of word ≡ o → Finds ks (walk_from h) (word ∷ words) (first_word ks b o words gs (options_from ks words))
  by true o ends long =
      turn_goes ks (walk_from h) (at_trailing h idle) word words (if is_last words then Some gs else None)
      (idle_turn ks h word ∙ ap (λ b. turn_by ks idle word b (long_of word) h) ends)
      (idle_walked ks h word ∙ ap (λ b. after_step (rules_for ks) word (walk_from h) (met_by ks idle word b (long_of word) h).0 (met_by ks idle word b (long_of word) h).1) ends)
      (behind_ending ks words h idle gs none same)
  by false (Some parts) ends long = idle_long ks word words rows pending gs none same parts ends long next wait
  by false None ends long =
      turn_fails ks (walk_from h) word words
      (ap fails (idle_turn ks h word ∙ ap (λ b. turn_by ks idle word b (long_of word) h) ends ∙ ap (λ o. turn_by ks idle word false o h) long) ∙ other_fails ks word rows pending (short_of word) refl)

-- ---- WHERE THE OPTION THAT WAS READ LAST STOOD BEFORE

broken : (ks : List Known) (words : List Text) (rows : List Row) (pending : Option (Text × List Text)) → fails (settle_fault (rules_for ks) false (held rows pending)) ≡ true → Finds ks (walk_from (held rows pending)) words None
unfolding walk_fault
broken ks [] rows pending bad = bad
broken ks (word ∷ words) rows pending bad = by (is_ending word) (long_of word) refl refl where
  h : Held
  h = held rows pending

  long_bad : (o : Option Rule) (value : Option Text) → fails (long_fault (rules_for ks) false o value h) ≡ true
  long_bad None value = refl
  long_bad (Some a) value = by_kind (takes_values a) value where
    by_kind : (b : Bool) (value : Option Text)
        → fails (if b then option_fault (rules_for ks) false a value h else (if is_some value then kind.TooManyValues ∷ [] else react_fault (rules_for ks) false a [] h)) ≡ true
    by_kind true (Some x) = or_first (settle_fault (rules_for ks) false h) (use_fault false a (x ∷ []) (settled (rules_for ks) h).rows) bad
    by_kind true None = bad
    by_kind false (Some x) = refl
    by_kind false None = or_first (settle_fault (rules_for ks) false h) (use_fault false a [] (settled (rules_for ks) h).rows) bad

  by : (b : Bool) (o : Option (Text × Option Text)) → is_ending word ≡ b → long_of word ≡ o → Finds ks (walk_from h) (word ∷ words) None
  by true o ends long =
      turn_goes ks (walk_from h) (at_trailing h idle) word words None
      (idle_turn ks h word ∙ ap (λ b. turn_by ks idle word b (long_of word) h) ends)
      (idle_walked ks h word ∙ ap (λ b. after_step (rules_for ks) word (walk_from h) (met_by ks idle word b (long_of word) h).0 (met_by ks idle word b (long_of word) h).1) ends)
      (broken_ending ks words h idle bad)
  by false (Some parts) ends long =
      turn_fails ks (walk_from h) word words
      (ap fails (idle_turn ks h word ∙ ap (λ b. turn_by ks idle word b (long_of word) h) ends ∙ ap (λ o. turn_by ks idle word false o h) long)
      ∙ or_first (long_fault (rules_for ks) false (arg_by_long (rules_for ks) parts.0) parts.1 h) _ (long_bad (arg_by_long (rules_for ks) parts.0) parts.1))
  by false None ends long =
      turn_fails ks (walk_from h) word words
      (ap fails (idle_turn ks h word ∙ ap (λ b. turn_by ks idle word b (long_of word) h) ends ∙ ap (λ o. turn_by ks idle word false o h) long) ∙ other_fails ks word rows pending (short_of word) refl)

-- ---- THE TURN OF A WORD WHERE AN OPTION WAITS FOR ITS VALUE

module _ (ks : List Known) (word : Text) (words : List Text) (k : Known) (rows : List Row) (gs : List Given)
    (known : known_by ks k.name ≡ Some k) (takes : k.takes_value ≡ true) (same : rows ≡ rows_for gs) where
  -- the option has no value yet
  empty_fails : fails (settle_fault (rules_for ks) false (held rows (Some (k.name, [])))) ≡ true
  empty_fails =
      ap (λ o. fails (option_map_or (λ a. use_fault false a [] rows) o [])) (find_id ks k.name ∙ ap (option_map rule_for) known)
      ∙ by k.takes_value takes where
        by : (t : Bool) → t ≡ true → fails (use_fault false (rule_by k.name t k.is_required) [] rows) ≡ true
        by true e = refl
        by false e = cc

  abbrev waits_for : Held
  waits_for = held rows (Some (k.name, []))

  -- an option in its place
  option_fails : (parts : Text × Option Text) → fails (long_fault (rules_for ks) false (arg_by_long (rules_for ks) parts.0) parts.1 waits_for) ≡ true
  option_fails parts = at (arg_by_long (rules_for ks) parts.0) parts.1 where
    at : (o : Option Rule) (value : Option Text) → fails (long_fault (rules_for ks) false o value waits_for) ≡ true
    at None value = refl
    at (Some a) value = by (takes_values a) value where
      by : (b : Bool) (value : Option Text)
          → fails (if b then option_fault (rules_for ks) false a value waits_for else (if is_some value then kind.TooManyValues ∷ [] else react_fault (rules_for ks) false a [] waits_for)) ≡ true
      by true (Some x) = or_first (settle_fault (rules_for ks) false waits_for) (use_fault false a (x ∷ []) (settled (rules_for ks) waits_for).rows) empty_fails
      by true None = empty_fails
      by false (Some x) = refl
      by false None = or_first (settle_fault (rules_for ks) false waits_for) (use_fault false a [] (settled (rules_for ks) waits_for).rows) empty_fails

  -- its value
  abbrev value_there : Held
  value_there = held rows (Some (k.name, word ∷ []))

  value_settles : settle_fault (rules_for ks) false value_there ≡ use_fault false (rule_for k) (word ∷ []) (rows_for gs)
  value_settles =
      ap (λ o. option_map_or (λ a. use_fault false a (word ∷ []) rows) o []) (find_id ks k.name ∙ ap (option_map rule_for) known) ∙ ap (use_fault false (rule_for k) (word ∷ [])) same

  value_rows : (settled (rules_for ks) value_there).rows ≡ used (rule_for k) (word ∷ []) (rows_for gs)
  value_rows = ap (λ o. used_by_id o (word ∷ []) rows) (find_id ks k.name ∙ ap (option_map rule_for) known) ∙ ap (used (rule_for k) (word ∷ [])) same

  value_found : Idle ks words → Finds ks (walk_from value_there) words (given k (word ∷ []) gs (options_from ks words))
  value_found next = by (has_option k.name gs) refl where
    fits : Fits k.takes_value (word ∷ [])
    fits = subst (λ t. Fits t (word ∷ [])) (sym takes) (tt {0})

    by : (b : Bool) → has_option k.name gs ≡ b
        → Finds ks (walk_from value_there) words (if b then None else options_from ks words None (gs ++ record { name = k.name; values = word ∷ [] } ∷ []))
    by true e = broken ks words rows (Some (k.name, word ∷ [])) (ap fails value_settles ∙ use_again k.name k.takes_value k.is_required (word ∷ []) gs e fits)
    by false e =
        next rows (Some (k.name, word ∷ [])) (gs ++ record { name = k.name; values = word ∷ [] } ∷ [])
        (value_settles ∙ use_none k.name k.takes_value k.is_required (word ∷ []) gs e fits) (value_rows ∙ used-is k.name k.takes_value k.is_required (word ∷ []) gs e fits)

  abbrev Same : Held × Step → Held × Step → Type 0
  Same a b = a ≡ b

  -- a word that is no option is pushed
  plain_pushes : plain_word (rules_for ks) (option k.name) word waits_for ≡ (value_there, next_step idle)
  plain_pushes =
      ap (λ o. ((option_word_met o k.name word waits_for).0, next_step (option_word_met o k.name word waits_for).1)) (find_id ks k.name ∙ ap (option_map rule_for) known)
      ∙ by k.takes_value takes (bytes_eq k.name k.name) ((bytes_eq-Decides k.name k.name).1 refl) where
        by : (t : Bool) → t ≡ true → (b : Bool) → b ≡ true
            → Same (value_there, next_step (if nat_lt (if b then 1 else 0) (most_values (rule_by k.name t k.is_required)) then option k.name else idle)) (value_there, next_step idle)
        by true e true f = refl
        by true e false f = cc
        by false e b f = cc

  plain_value : is_ending word ≡ false → long_of word ≡ None → short_or_plain (rules_for ks) (option k.name) word (short_of word) waits_for ≡ (value_there, next_step idle)
      → option_map_or (λ flags. bundle_fault (rules_for ks) false flags waits_for) (short_of word) [] ≡ [] → Idle ks words
      → Finds ks (at_option waits_for k.name) (word ∷ words) (given k (word ∷ []) gs (options_from ks words))
  plain_value ends long met none next =
      turn_goes ks (at_option waits_for k.name) (walk_from value_there) word words (given k (word ∷ []) gs (options_from ks words))
      (option_turn ks waits_for k.name word ∙ ap (λ b. turn_by ks (option k.name) word b (long_of word) waits_for) ends ∙ ap (λ o. turn_by ks (option k.name) word false o waits_for) long
      ∙ ap (λ f. or_else f (step_fault (shape_for ks) 1 (short_or_plain (rules_for ks) (option k.name) word (short_of word) waits_for).0 (short_or_plain (rules_for ks) (option k.name) word (short_of word) waits_for).1)) none
      ∙ ap (λ (m : Held × Step). step_fault (shape_for ks) 1 m.0 m.1) met)
      (option_walked ks waits_for k.name word
      ∙ ap (λ b. after_step (rules_for ks) word (at_option waits_for k.name) (met_by ks (option k.name) word b (long_of word) waits_for).0 (met_by ks (option k.name) word b (long_of word) waits_for).1) ends
      ∙ ap (λ o. after_step (rules_for ks) word (at_option waits_for k.name) (met_by ks (option k.name) word false o waits_for).0 (met_by ks (option k.name) word false o waits_for).1) long
      ∙ ap (λ (m : Held × Step). after_step (rules_for ks) word (at_option waits_for k.name) m.0 m.1) met)
      (value_found next)

  turn_is : is_ending word ≡ false → long_of word ≡ None → turn_fault (shape_for ks) [] (at_option waits_for k.name) word ≡ other_turn ks (option k.name) word waits_for (short_of word)
  turn_is ends long = option_turn ks waits_for k.name word ∙ ap (λ b. turn_by ks (option k.name) word b (long_of word) waits_for) ends ∙ ap (λ o. turn_by ks (option k.name) word false o waits_for) long

  -- a word that begins with a hyphen
  short_step : (flags : Text) → is_ending word ≡ false → long_of word ≡ None → short_of word ≡ Some flags → Idle ks words
      → Finds ks (at_option waits_for k.name) (word ∷ words) (if not (is_some (slice_get (chars flags) 0)) then given k (word ∷ []) gs (options_from ks words) else None)
  short_step flags ends long short next = by_more (short_parts (strip_byte 45 word) flags short) where
    at_first : (x : ℕ) (rest : Text) → flags ≡ x ∷ rest → (o : Option ℕ) → slice_get (chars (x ∷ rest)) 0 ≡ o
        → Finds ks (at_option waits_for k.name) (word ∷ words) (if not (is_some o) then given k (word ∷ []) gs (options_from ks words) else None)
    at_first x rest is None e =
        plain_value ends long
        (ap (λ o. short_or_plain (rules_for ks) (option k.name) word o waits_for) (short ∙ ap Some is)
        ∙ ap (λ m. after_flag (rules_for ks) (option k.name) word m.0 m.1) (bundle_meets ks x rest rows (Some (k.name, []))
        ∙ ap (λ o. bundle_step (rules_for ks) o (x ∷ rest) 0 plain_outcome waits_for (bundle_met (rules_for ks) (length rest))) e)
        ∙ plain_pushes)
        (ap (λ o. option_map_or (λ flags. bundle_fault (rules_for ks) false flags waits_for) o []) (short ∙ ap Some is)
        ∙ bundle_first ks x rest rows (Some (k.name, []))
        ∙ ap (λ o. bundle_step_fault (rules_for ks) false o (x ∷ rest) 0 waits_for (flags_fault (rules_for ks) false (length rest))) e)
        next
    at_first x rest is (Some y) e =
        turn_fails ks (at_option waits_for k.name) word words
        (ap fails (turn_is ends long ∙ ap (other_turn ks (option k.name) word waits_for) (short ∙ ap Some is))
        ∙ or_first (bundle_fault (rules_for ks) false (x ∷ rest) waits_for) _
        (ap fails (bundle_first ks x rest rows (Some (k.name, []))) ∙ short_fails ks (slice_get (chars (x ∷ rest)) 0) (x ∷ rest) waits_for (flags_fault (rules_for ks) false (length rest)) (ap is_some e)))

    by_more : IsMore flags → Finds ks (at_option waits_for k.name) (word ∷ words) (if not (is_some (slice_get (chars flags) 0)) then given k (word ∷ []) gs (options_from ks words) else None)
    by_more m =
        subst (λ l. Finds ks (at_option waits_for k.name) (word ∷ words) (if not (is_some (slice_get (chars l) 0)) then given k (word ∷ []) gs (options_from ks words) else None)) (sym m.is)
        (at_first m.first m.rest m.is (slice_get (chars (m.first ∷ m.rest)) 0) refl)

  -- by what the word looks like
  waits_word : (b : Bool) (long : Option (Text × Option Text)) (short : Option Text) → is_ending word ≡ b → long_of word ≡ long → short_of word ≡ short → Idle ks words
      → Finds ks (at_option waits_for k.name) (word ∷ words)
      (if not b && (not (is_some long) && not (option_map_or (λ flags. is_some (slice_get (chars flags) 0)) short false)) then given k (word ∷ []) gs (options_from ks words) else None)
  waits_word true long short ends e f next =
      turn_goes ks (at_option waits_for k.name) (at_trailing waits_for (option k.name)) word words None
      (option_turn ks waits_for k.name word ∙ ap (λ b. turn_by ks (option k.name) word b (long_of word) waits_for) ends)
      (option_walked ks waits_for k.name word
      ∙ ap (λ b. after_step (rules_for ks) word (at_option waits_for k.name) (met_by ks (option k.name) word b (long_of word) waits_for).0 (met_by ks (option k.name) word b (long_of word) waits_for).1) ends)
      (broken_ending ks words waits_for (option k.name) empty_fails)
  waits_word false (Some parts) short ends e f next =
      turn_fails ks (at_option waits_for k.name) word words
      (ap fails (option_turn ks waits_for k.name word ∙ ap (λ b. turn_by ks (option k.name) word b (long_of word) waits_for) ends ∙ ap (λ o. turn_by ks (option k.name) word false o waits_for) e)
      ∙ or_first (long_fault (rules_for ks) false (arg_by_long (rules_for ks) parts.0) parts.1 waits_for) _ (option_fails parts))
  waits_word false None None ends e f next =
      plain_value ends e (ap (λ o. short_or_plain (rules_for ks) (option k.name) word o waits_for) f ∙ plain_pushes)
      (ap (λ o. option_map_or (λ flags. bundle_fault (rules_for ks) false flags waits_for) o []) f) next
  waits_word false None (Some flags) ends e f next = short_step flags ends e f next

waits_step : (ks : List Known) (word : Text) (words : List Text) → Idle ks words → Waits ks (word ∷ words)
unfolding options_from
waits_step ks word words next k rows gs known takes same =
    waits_word ks word words k rows gs known takes same (is_ending word) (long_of word) (short_of word) refl refl refl next

-- ---- ALL WORDS

mutual
  unfolding walk_fault options_from

  pub idle_words : (ks : List Known) (words : List Text) → Idle ks words
  idle_words ks [] = λ rows pending gs none same. (none, same)
  idle_words ks (word ∷ words) = idle_step ks word words (idle_words ks words) (waits_words ks words)

  pub waits_words : (ks : List Known) (words : List Text) → Waits ks words
  waits_words ks [] = λ k rows gs known takes same. empty_fails ks [] [] k rows gs known takes same
  waits_words ks (word ∷ words) = waits_step ks word words (idle_words ks words)
