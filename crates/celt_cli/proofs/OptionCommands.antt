-- A command of options: how clap builds it, and what it makes of all words.
use Rattle.std.proofs.Common.{◌≡◌, ℕ, Bool, true, false, not, List, [], ◌∷◌, map, refl, ◌∙◌, ap, Option, Some, None, is_some}
use Rattle.std.specs.Prelude.{◌&&◌, ◌||◌, if◌then◌else◌, find, fold, count_by}
use Rattle.std.specs.List.{list_any, list_all}
use Rattle.std.specs.Option.{option_map_or}
use Rattle.std.specs.Str.{bytes_eq}
use Rattle.clap.specs.Walk.{Held, Row, Rule, Walk, has_row, is_early_multiple, with_default, finished, settled, walk, walk_from, nothing_held, walked}
use Rattle.clap.specs.Simple.{App, Shape, new_rule, new_shape, built, entered, filled_from, is_simple, matches_of}
use Rattle.clap.specs.Faults.{fault_of, is_simple_and_free, defaults_fault, default_fault, check_fault, entered_fault, settle_fault, walk_fault}
use Rattle.clap.specs.Takes.{is_given}
use Rattle.clap.specs.Kinds.{Kinds, or_else}
use Rattle.clap.specs.declared.error.kind.ErrorKind.TheVariants as kind
use Rattle.celt_cli.specs.Options.{Text, Known, Given, has_option, options_from, has_required, with_required, options_in}
use Rattle.celt_cli.specs.Parses.{declared_by, declared, app_for, row_for, rows_for}
use Rattle.celt_cli.proofs.OptionWalks.{rule_by, rule_for, rules_for, shape_for, fails, fault_from, rows_from, or_first, or_second, Finds, idle_words}

-- ---- BUILDING

filled-all : (ks : List Known) → filled_from 1 (map declared ks) ≡ rules_for ks
filled-all [] = refl
filled-all (k ∷ ks) = by k.takes_value (filled-all ks) where
  by : (t : Bool) → filled_from 1 (map declared ks) ≡ rules_for ks
      → filled_from 1 (declared_by k.name t k.is_required ∷ map declared ks) ≡ rule_by k.name t k.is_required ∷ rules_for ks
  by true rest = ap (λ l. rule_by k.name true k.is_required ∷ l) rest
  by false rest = ap (λ l. rule_by k.name false k.is_required ∷ l) rest

built-is : (ks : List Known) → built (app_for ks) ≡ record { top = shape_for ks; subs = [] }
built-is ks = ap (λ l. record { top = record (shape_for ks) { rules = l }; subs = [] }) (filled-all ks)

-- ---- THE COMMAND IS SIMPLE

simple_declared : (ks : List Known) → list_all (λ (a : Rule). a.is_simple) (map declared ks) ≡ true
simple_declared [] = refl
simple_declared (k ∷ ks) = simple_declared ks

simple_built : (ks : List Known) → list_all (λ (a : Rule). a.is_simple) (rules_for ks) ≡ true
simple_built [] = refl
simple_built (k ∷ ks) = simple_built ks

free_built : (ks : List Known) → list_all (λ (a : Rule). a.is_free) (rules_for ks) ≡ true
free_built [] = refl
free_built (k ∷ ks) = free_built ks

no_early : (n : ℕ) (ks : List Known) → list_any (is_early_multiple n) (rules_for ks) ≡ false
no_early n [] = refl
no_early n (k ∷ ks) = no_early n ks

abbrev plain_app : List Known → App
plain_app ks = record { top = shape_for ks; subs = [] }

simple_by : (ks : List Known) → is_simple (app_for ks) ≡ true
simple_by ks =
    ap (λ b. b && (is_ready_by (built (app_for ks)))) (ap (λ b. b && true) (simple_declared ks)) ∙ ap is_ready_by (built-is ks)
    ∙ ap (λ b. ((true && b) && not (list_any (is_early_multiple (count_by (λ (a : Rule). is_some a.index) (rules_for ks))) (rules_for ks))) && true) (simple_built ks)
    ∙ ap (λ b. (true && not b) && true) (no_early (count_by (λ (a : Rule). is_some a.index) (rules_for ks)) ks) where
      is_ready_by : App → Bool
      is_ready_by a = Rattle.clap.specs.Simple.is_ready a.top && list_all Rattle.clap.specs.Simple.is_ready_leaf a.subs

pub simple_and_free : (ks : List Known) → is_simple_and_free (app_for ks) ≡ true
simple_and_free ks =
    ap (λ b. b && Rattle.clap.specs.Faults.is_free_app (built (app_for ks))) (simple_by ks) ∙ ap Rattle.clap.specs.Faults.is_free_app (built-is ks) ∙ ap (λ b. b && true) (free_built ks)

pub simple_app : (ks : List Known) → is_simple (app_for ks) ≡ true
simple_app ks = simple_by ks

-- ---- BEHIND THE WALK

no_default : (ks : List Known) (rows : List Row) → defaults_fault rows (rules_for ks) ≡ []
unfolding defaults_fault
no_default [] rows = refl
no_default (k ∷ ks) rows = by (has_row k.name rows) (no_default ks) where
  by : (b : Bool) → ((rows : List Row) → defaults_fault rows (rules_for ks) ≡ [])
      → or_else (if b || true then [] else Rattle.clap.specs.Faults.given_default_fault (rule_for k) []) (defaults_fault (if b then rows else rows) (rules_for ks)) ≡ []
  by true rest = rest rows
  by false rest = rest rows

no_default_rows : (ks : List Known) (rows : List Row) → fold with_default rows (rules_for ks) ≡ rows
no_default_rows [] rows = refl
no_default_rows (k ∷ ks) rows = by (has_row k.name rows) (no_default_rows ks) where
  by : (b : Bool) → ((rows : List Row) → fold with_default rows (rules_for ks) ≡ rows) → fold with_default (if b then rows else rows) (rules_for ks) ≡ rows
  by true rest = rest rows
  by false rest = rest rows

given-is : (name : Text) (gs : List Given) → is_given name (rows_for gs) ≡ has_option name gs
given-is name [] = refl
given-is name (g ∷ gs) = by (bytes_eq g.name name) (given-is name gs) where
  by : (b : Bool) → is_given name (rows_for gs) ≡ has_option name gs
      → option_map_or (λ (r : Row). Rattle.clap.specs.Facts.explicit_source r.source) (if b then Some (row_for g) else find (λ (r : Row). bytes_eq r.id name) (rows_for gs)) false
      ≡ (b || has_option name gs)
  by true rest = refl
  by false rest = rest

missing-is : (ks : List Known) (gs : List Given) → list_any (λ (a : Rule). a.required && not (is_given a.id (rows_for gs))) (rules_for ks) ≡ not (has_required ks gs)
missing-is [] gs = refl
missing-is (k ∷ ks) gs =
    ap (λ b. (k.is_required && not b) || list_any (λ (a : Rule). a.required && not (is_given a.id (rows_for gs))) (rules_for ks)) (given-is k.name gs)
    ∙ by k.is_required (has_option k.name gs) (missing-is ks gs) where
      by : (r b : Bool) → list_any (λ (a : Rule). a.required && not (is_given a.id (rows_for gs))) (rules_for ks) ≡ not (has_required ks gs)
          → ((r && not b) || list_any (λ (a : Rule). a.required && not (is_given a.id (rows_for gs))) (rules_for ks)) ≡ not ((not r || b) && has_required ks gs)
      by true true rest = rest
      by true false rest = refl
      by false b rest = rest

-- ---- ALL WORDS

-- the walk from the start, and what follows it
abbrev after_walk : List Known → List Text → Kinds
after_walk ks words =
    let rows = finished (rules_for ks) (walk (rules_for ks) [] nothing_held words).held in
    or_else (defaults_fault (settled (rules_for ks) (walk (rules_for ks) [] nothing_held words).held).rows (rules_for ks)) (check_fault (shape_for ks) rows false)

no_stop : (o : Option (Text × List Text)) (ks : List Known) → entered (plain_app ks) o ≡ None
no_stop None ks = refl
no_stop (Some p) ks = refl

no_stop_fault : (o : Option (Text × List Text)) (ks : List Known) → entered_fault (plain_app ks) o ≡ []
no_stop_fault None ks = refl
no_stop_fault (Some p) ks = refl

or_assoc_here : (a b d : Kinds) → or_else a (or_else b d) ≡ or_else (or_else a b) d
or_assoc_here [] b d = refl
or_assoc_here (k ∷ ks) b d = refl

fault-is : (ks : List Known) (words : List Text) → fault_of (app_for ks) words ≡ or_else (fault_from ks (walk_from nothing_held) words) (after_walk ks words)
fault-is ks words =
    ap (λ a. Rattle.clap.specs.Faults.built_fault a nothing_held words) (built-is ks)
    ∙ ap (λ o. level (is_some o) (entered_fault (plain_app ks) stop)) (no_stop stop ks)
    ∙ ap (level false) (no_stop_fault stop ks)
    ∙ or_assoc_here (walk_fault (shape_for ks) [] (walk_from nothing_held) words) (settle_fault (rules_for ks) false (walk (rules_for ks) [] nothing_held words).held) (after_walk ks words) where
      stop : Option (Text × List Text)
      stop = (walk (rules_for ks) [] nothing_held words).stopped

      level : Bool → Kinds → Kinds
      level b below = Rattle.clap.specs.Faults.level_fault (shape_for ks) [] nothing_held words b below

matches-is : (ks : List Known) (words : List Text) → matches_of (app_for ks) words ≡ rows_from ks (walk_from nothing_held) words
matches-is ks words =
    ap (λ (a : App). Rattle.clap.specs.Walk.rows_after a.top.rules (Rattle.clap.specs.Simple.names_of a) words) (built-is ks)
    ∙ no_default_rows ks (rows_from ks (walk_from nothing_held) words)

after-is : (ks : List Known) (words : List Text) (gs : List Given) → rows_from ks (walk_from nothing_held) words ≡ rows_for gs
    → after_walk ks words ≡ (if not (has_required ks gs) then kind.MissingRequiredArgument ∷ [] else [])
after-is ks words gs e =
    ap (λ k. or_else k (check_fault (shape_for ks) (finished (rules_for ks) (walk (rules_for ks) [] nothing_held words).held) false)) (no_default ks (rows_from ks (walk_from nothing_held) words))
    ∙ ap (λ rows. check_fault (shape_for ks) rows false) (no_default_rows ks (rows_from ks (walk_from nothing_held) words) ∙ e)
    ∙ ap (λ b. if b then kind.MissingRequiredArgument ∷ [] else []) (missing-is ks gs)

-- a parse fails just where the words write no options of the command, and finds what they write
abbrev pub Parses : List Known → List Text → Option (List Given) → Type 0
Parses ks words None = fails (fault_of (app_for ks) words) ≡ true
Parses ks words (Some gs) = (fault_of (app_for ks) words ≡ []) × (matches_of (app_for ks) words ≡ rows_for gs)

pub parses : (ks : List Known) (words : List Text) → Parses ks words (options_in ks words)
unfolding options_in
parses ks words = by (options_from ks words None []) (idle_words ks words [] None [] refl refl) where
  by : (o : Option (List Given)) → Finds ks (walk_from nothing_held) words o → Parses ks words (with_required ks o)
  by None f = ap fails (fault-is ks words) ∙ or_first (fault_from ks (walk_from nothing_held) words) (after_walk ks words) f
  by (Some gs) f = by_required (has_required ks gs) refl where
    by_required : (b : Bool) → has_required ks gs ≡ b → Parses ks words (if b then Some gs else None)
    by_required true e = (
      fault-is ks words ∙ ap (λ k. or_else k (after_walk ks words)) f.0 ∙ after-is ks words gs f.1 ∙ ap (λ b. if not b then kind.MissingRequiredArgument ∷ [] else []) e,
      matches-is ks words ∙ f.1,
    )
    by_required false e =
        ap fails (fault-is ks words)
        ∙ or_second (fault_from ks (walk_from nothing_held) words) (after_walk ks words)
        (ap fails (after-is ks words gs f.1 ∙ ap (λ b. if not b then kind.MissingRequiredArgument ∷ [] else []) e))
