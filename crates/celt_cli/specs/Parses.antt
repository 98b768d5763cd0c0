-- The options of a command, as clap is told of them, and what it finds.
use Rattle.std.specs.Prelude.{◌≡◌, Bool, true, List, [], map, codes, if◌then◌else◌, Option, None, Some}
use Rattle.clap.specs.Walk.{Row, Rule}
use Rattle.clap.specs.Words.{App, found_of, rows_of}
use Rattle.clap.specs.Simple.{new_rule, new_shape}
use Rattle.clap.specs.declared.builder.action.ArgAction.TheVariants.{Set}
use Rattle.clap.specs.declared.parser.matches.ArgMatches.{ArgMatches}
use Rattle.clap.specs.declared.parser.matches.ValueSource.TheVariants.{CommandLine}
use Rattle.clap.specs.declared.builder.value_parser.Reading.TheVariants as reading
use Rattle.celt_cli.specs.Options.{Text, Known, Given, options_in}

-- an option as it is declared: a flag takes no values
abbrev pub declared_by : Text → Bool → Bool → Rule
declared_by name takes required = record (new_rule name) {
  long = Some name;
  action = Some Set;
  range = if takes then None else Some (record { start_inclusive = 0; end_inclusive = 0 });
  required = required;
}

abbrev pub declared : Known → Rule
declared k = declared_by k.name k.takes_value k.is_required

-- the command of these options, whose words begin behind its name
abbrev pub app_for : List Known → App
app_for knowns = record {
  top = record (new_shape (codes "celt")) {
    rules = map declared knowns;
    no_binary_name = true;
    disable_help_flag = true;
  };
  subs = [];
}

-- an option that was found
abbrev pub row_for : Given → Row
row_for g = record { id = g.name; values = g.values; count = None; source = Some CommandLine; reading = reading.AsWritten }

abbrev pub rows_for : List Given → List Row
rows_for givens = map row_for givens

abbrev pub HasOptions : ArgMatches → List Given → Type 0
HasOptions matches givens = rows_of (found_of matches) ≡ rows_for givens

-- the words write no options of the command, or these
abbrev pub IsParse : List Known → List Text → Option ArgMatches → Type 0
IsParse knowns words None = options_in knowns words ≡ None
IsParse knowns words (Some matches) = (givens : List Given) × (options_in knowns words ≡ Some givens) × HasOptions matches givens
