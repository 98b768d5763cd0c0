-- What clap's parse of a command of options says, as options that the words write.
use Rattle.std.proofs.Common.{◌≡◌, ◌⊎◌, ℕ, inl, inr, Bool, true, false, List, [], ◌∷◌, map, refl, sym, ◌∙◌, ap, subst, Option, Some, None, is_some, string_bytes, suc, length, arith, ap₂, codes, not, String, Global}
use Rattle.std.specs.Prelude.{◌||◌, find, option_map, option_and_then, slice_get, if◌then◌else◌}
use Rattle.std.specs.Str.{bytes_eq}
use Rattle.clap.specs.Walk.{Row, first_of, all_of}
use Rattle.clap.specs.Words.{App, HasMatchesOf, found_of, rows_of, kind_of, first_value, matched_of}
use Rattle.clap.specs.Matches.{raw_values}
use Rattle.clap.specs.Faults.{fault_of, is_simple_and_free}
use Rattle.clap.specs.Kinds.{HasKind}
use Rattle.clap.specs.declared.error.Error.{Error}
use Rattle.clap.specs.declared.error.kind.ErrorKind.TheVariants as kind
use Rattle.clap.specs.declared.parser.matches.ArgMatches.{ArgMatches}
use Rattle.clap.specs.declared.parser.matches.Found.{Found}
use Rattle.clap.specs.declared.parser.matches.MatchedArg.{MatchedArg}
use Rattle.clap.proofs.WalkLemmas.{first_value-rows, raw_values-rows}
use Rattle.std.proofs.lemmas.Slice.Eq.{bytes_eq-Decides}
use Rattle.celt_session.specs.declared.settings.Form.{Form}
use Rattle.celt_session.specs.declared.settings.Form.TheVariants.{Wav, Plain}
use Rattle.celt_cli.specs.declared.words.Command.{Command}
use Rattle.celt_cli.specs.declared.words.Command.TheVariants.{Decode}
use Rattle.celt_cli.specs.Words.{decode_settings, decode_options, decode_by, encode_options, encode_by, encode_with, bytes_in, frame_in, band_in, group_in, gen_options, gen_by, gen_with, seed_in, frames_in, ranges_by, command_in, command_of}
use Rattle.celt_cli.specs.Options.{Text, Known, Given, has_option, value_of, options_in}
use Rattle.celt_cli.specs.Parses.{HasOptions, IsParse, app_for, row_for, rows_for}
use Rattle.celt_cli.proofs.OptionWalks.{fails}
use Rattle.celt_cli.proofs.OptionCommands.{Parses, parses, simple_and_free, simple_app}

-- ---- WHAT WAS FOUND

rows_has : (name : Text) (gs : List Given) → is_some (all_of name (rows_for gs)) ≡ has_option name gs
rows_has name [] = refl
rows_has name (g ∷ gs) = by (bytes_eq g.name name) (rows_has name gs) where
  by : (b : Bool) → is_some (all_of name (rows_for gs)) ≡ has_option name gs
      → is_some (option_map (λ (r : Row). r.values) (if b then Some (row_for g) else find (λ (r : Row). bytes_eq r.id name) (rows_for gs))) ≡ (b || has_option name gs)
  by true rest = refl
  by false rest = rest

is_mapped : (o : Option MatchedArg) → is_some o ≡ is_some (option_map raw_values o)
is_mapped None = refl
is_mapped (Some a) = refl

pub has_of : (f : Found) (name : Text) (gs : List Given) → rows_of f ≡ rows_for gs → is_some (matched_of f name) ≡ has_option name gs
has_of f name gs e = is_mapped (matched_of f name) ∙ ap is_some (raw_values-rows f name ∙ ap (all_of name) e) ∙ rows_has name gs

rows_value : (name : Text) (gs : List Given) → first_of name (rows_for gs) ≡ value_of name gs
rows_value name [] = refl
rows_value name (g ∷ gs) = by (bytes_eq g.name name) (rows_value name gs) where
  by : (b : Bool) → first_of name (rows_for gs) ≡ value_of name gs
      → option_and_then (λ (r : Row). slice_get r.values 0) (if b then Some (row_for g) else find (λ (r : Row). bytes_eq r.id name) (rows_for gs))
      ≡ option_and_then (λ (x : Given). slice_get x.values 0) (if b then Some g else find (λ (x : Given). bytes_eq x.name name) gs)
  by true rest = refl
  by false rest = rest

pub value_is : (f : Found) (name : Text) (gs : List Given) → rows_of f ≡ rows_for gs → first_value f name ≡ value_of name gs
value_is f name gs e = first_value-rows f name ∙ ap (first_of name) e ∙ rows_value name gs

-- ---- THE PARSE

pub found_ok : (ks : List Known) (words : List Text) (a : App) (m : ArgMatches) → a ≡ app_for ks → (is_simple_and_free a ≡ true → fault_of a words ≡ [])
    → HasMatchesOf a words m → (x : List Given) × (options_in ks words ≡ Some x) × HasOptions m x
found_ok ks words a m is free finds = by (options_in ks words) (parses ks words) where
  none : fault_of (app_for ks) words ≡ []
  none = subst (λ (b : App). is_simple_and_free b ≡ true → fault_of b words ≡ []) is free (simple_and_free ks)

  rows : rows_of (found_of m) ≡ Rattle.clap.specs.Simple.matches_of (app_for ks) words
  rows = (subst (λ (b : App). HasMatchesOf b words m) is finds (simple_app ks)).0

  by : (o : Option (List Given)) → Parses ks words o → (x : List Given) × (o ≡ Some x) × HasOptions m x
  by None p = let bad : false ≡ true = sym (ap fails none) ∙ p in let no : ⊥ = cc in absurd no
  by (Some gs) p = (gs, refl, rows ∙ p.1)

pub found_none : (ks : List Known) (words : List Text) (a : App) (e : Error) → a ≡ app_for ks → (is_simple_and_free a ≡ true → HasKind (fault_of a words) e)
    → (kind_of e ≡ kind.OutOfMemory → ⊥) → options_in ks words ≡ None
found_none ks words a e is faults room = by (options_in ks words) (parses ks words) where
  fault : HasKind (fault_of (app_for ks) words) e
  fault = subst (λ (b : App). is_simple_and_free b ≡ true → HasKind (fault_of b words) e) is faults (simple_and_free ks)

  no : HasKind [] e → ⊥
  no (inl out) = room out
  no (inr nothing) = nothing

  by : (o : Option (List Given)) → Parses ks words o → o ≡ None
  by None p = refl
  by (Some gs) p = absurd (no (subst (λ kinds. HasKind kinds e) p.0 fault))

-- ---- WHAT THE COMMANDS READ OF IT

pub parse_none : (ks : List Known) (words : List Text) (o : Option ArgMatches) → o ≡ None → IsParse ks words o → options_in ks words ≡ None
parse_none ks words o is p = subst (IsParse ks words) is p

pub parse_some : (ks : List Known) (words : List Text) (o : Option ArgMatches) (m : ArgMatches) → o ≡ Some m → IsParse ks words o
    → (givens : List Given) × (options_in ks words ≡ Some givens) × HasOptions m givens
parse_some ks words o m is p = subst (IsParse ks words) is p

pub decode_is : (form : Form) (raw plain : Bool) (gs : List Given) → form ≡ (if raw then Plain else Wav) → raw ≡ has_option (codes "raw") gs → plain ≡ has_option (codes "no-inversion") gs
    → Some (Decode (record { form = form; invert = not plain })) ≡ Some (Decode (decode_settings gs))
decode_is form raw plain gs f r p =
    ap₂ (λ (x : Form) (b : Bool). Some (Decode (record { form = x; invert = b }))) (f ∙ ap (λ b. if b then Plain else Wav) r) (ap not p)

pub encode_is : (bytes frame band group : Option ℕ) (gs : List Given) → bytes ≡ bytes_in (value_of (codes "bytes") gs) → frame ≡ frame_in (value_of (codes "frame") gs)
    → band ≡ band_in (value_of (codes "band") gs) → group ≡ group_in (value_of (codes "group") gs) → encode_with bytes frame band group ≡ encode_by (Some gs)
encode_is bytes frame band group gs b f n g =
    ap₂ (λ x y. encode_with x y band group) b f
    ∙ ap₂ (encode_with (bytes_in (value_of (codes "bytes") gs)) (frame_in (value_of (codes "frame") gs))) n g

pub gen_is : (seed frames : Option ℕ) (gs : List Given) → seed ≡ seed_in (value_of (codes "seed") gs) → frames ≡ frames_in (value_of (codes "frames") gs) → gen_with seed frames ≡ gen_by (Some gs)
gen_is seed frames gs s f = ap₂ gen_with s f

-- ---- THE COMMAND'S NAME

decode_named : (words : List Text) → command_in (codes "decode" ∷ words) ≡ decode_by (options_in decode_options words)
unfolding command_in
decode_named words = refl

encode_named : (words : List Text) → command_in (codes "encode" ∷ words) ≡ encode_by (options_in encode_options words)
unfolding command_in
encode_named words = refl

ranges_named : (words : List Text) → command_in (codes "ranges" ∷ words) ≡ ranges_by (options_in [] words)
unfolding command_in
ranges_named words = refl

gen_named : (words : List Text) → command_in (codes "gen" ∷ words) ≡ gen_by (options_in gen_options words)
unfolding command_in
gen_named words = refl

no_match : (x y : Text) → (x ≡ y → ⊥) → bytes_eq x y ≡ false
no_match x y n = by (bytes_eq x y) refl where
  by : (b : Bool) → bytes_eq x y ≡ b → b ≡ false
  by true e = absurd (n ((bytes_eq-Decides x y).0 e))
  by false e = refl

none_named : (name : Text) (words : List Text) → (name ≡ codes "decode" → ⊥) → (name ≡ codes "encode" → ⊥) → (name ≡ codes "ranges" → ⊥) → (name ≡ codes "gen" → ⊥) → command_in (name ∷ words) ≡ None
unfolding command_in
none_named name words d e r g =
    ap (λ b. if b then decode_by (options_in decode_options words) else (if bytes_eq name (codes "encode") then encode_by (options_in encode_options words) else
    (if bytes_eq name (codes "ranges") then ranges_by (options_in [] words) else (if bytes_eq name (codes "gen") then gen_by (options_in gen_options words) else None)))) (no_match name (codes "decode") d)
    ∙ ap (λ b. if b then encode_by (options_in encode_options words) else
    (if bytes_eq name (codes "ranges") then ranges_by (options_in [] words) else (if bytes_eq name (codes "gen") then gen_by (options_in gen_options words) else None))) (no_match name (codes "encode") e)
    ∙ ap (λ b. if b then ranges_by (options_in [] words) else (if bytes_eq name (codes "gen") then gen_by (options_in gen_options words) else None)) (no_match name (codes "ranges") r)
    ∙ ap (λ b. if b then gen_by (options_in gen_options words) else None) (no_match name (codes "gen") g)

-- the words are these, and the name is this text
named : (ws : List (String Global)) (name : String Global) (rest : List (String Global)) (text : Text) → ws ≡ name ∷ rest → text ≡ string_bytes name → command_of ws ≡ command_in (text ∷ map string_bytes rest)
named ws name rest text is t = ap command_of is ∙ ap (λ n. command_in (n ∷ map string_bytes rest)) (sym t)

pub no_words : (ws : List (String Global)) → length ws ≡ 0 → None ≡ command_of ws
unfolding command_in
no_words [] h = refl
no_words (w ∷ ws) h = let bad : suc (length ws) ≡ 0 = h in absurd (omega arith)

pub names_decode : (ws : List (String Global)) (name : String Global) (rest : List (String Global)) (text : Text) → ws ≡ name ∷ rest → text ≡ string_bytes name → text ≡ codes "decode"
    → command_of ws ≡ decode_by (options_in decode_options (map string_bytes rest))
names_decode ws name rest text is t e = named ws name rest text is t ∙ ap (λ n. command_in (n ∷ map string_bytes rest)) e ∙ decode_named (map string_bytes rest)

pub names_encode : (ws : List (String Global)) (name : String Global) (rest : List (String Global)) (text : Text) → ws ≡ name ∷ rest → text ≡ string_bytes name → text ≡ codes "encode"
    → command_of ws ≡ encode_by (options_in encode_options (map string_bytes rest))
names_encode ws name rest text is t e = named ws name rest text is t ∙ ap (λ n. command_in (n ∷ map string_bytes rest)) e ∙ encode_named (map string_bytes rest)

pub names_ranges : (ws : List (String Global)) (name : String Global) (rest : List (String Global)) (text : Text) → ws ≡ name ∷ rest → text ≡ string_bytes name → text ≡ codes "ranges"
    → command_of ws ≡ ranges_by (options_in [] (map string_bytes rest))
names_ranges ws name rest text is t e = named ws name rest text is t ∙ ap (λ n. command_in (n ∷ map string_bytes rest)) e ∙ ranges_named (map string_bytes rest)

pub names_gen : (ws : List (String Global)) (name : String Global) (rest : List (String Global)) (text : Text) → ws ≡ name ∷ rest → text ≡ string_bytes name → text ≡ codes "gen"
    → command_of ws ≡ gen_by (options_in gen_options (map string_bytes rest))
names_gen ws name rest text is t e = named ws name rest text is t ∙ ap (λ n. command_in (n ∷ map string_bytes rest)) e ∙ gen_named (map string_bytes rest)

pub names_none : (ws : List (String Global)) (name : String Global) (rest : List (String Global)) (text : Text) → ws ≡ name ∷ rest → text ≡ string_bytes name
    → (text ≡ codes "decode" → ⊥) → (text ≡ codes "encode" → ⊥) → (text ≡ codes "ranges" → ⊥) → (text ≡ codes "gen" → ⊥) → None ≡ command_of ws
names_none ws name rest text is t d e r g = sym (named ws name rest text is t ∙ none_named text (map string_bytes rest) d e r g)

pub no_command : (command : Command) → command_in [] ≡ Some command → ⊥
unfolding command_in
no_command command h = cc

-- a name that is none of the four names no command
pub one_of_four : (name : Text) (words : List Text) (command : Command) → command_in (name ∷ words) ≡ Some command
    → (name ≡ codes "decode") ⊎ (name ≡ codes "encode") ⊎ (name ≡ codes "ranges") ⊎ (name ≡ codes "gen")
unfolding command_in
one_of_four name words command h = decode_by_test (bytes_eq name (codes "decode")) refl h where
  gen_by_test : (b : Bool) → bytes_eq name (codes "gen") ≡ b → (if b then gen_by (options_in gen_options words) else None) ≡ Some command
      → (name ≡ codes "decode") ⊎ (name ≡ codes "encode") ⊎ (name ≡ codes "ranges") ⊎ (name ≡ codes "gen")
  gen_by_test true e g = inr (inr (inr ((bytes_eq-Decides name (codes "gen")).0 e)))
  gen_by_test false e g = cc

  ranges_by_test : (b : Bool) → bytes_eq name (codes "ranges") ≡ b → (if b then ranges_by (options_in [] words) else (if bytes_eq name (codes "gen") then gen_by (options_in gen_options words) else None)) ≡ Some command
      → (name ≡ codes "decode") ⊎ (name ≡ codes "encode") ⊎ (name ≡ codes "ranges") ⊎ (name ≡ codes "gen")
  ranges_by_test true e g = inr (inr (inl ((bytes_eq-Decides name (codes "ranges")).0 e)))
  ranges_by_test false e g = gen_by_test (bytes_eq name (codes "gen")) refl g

  encode_by_test : (b : Bool) → bytes_eq name (codes "encode") ≡ b
      → (if b then encode_by (options_in encode_options words) else
      (if bytes_eq name (codes "ranges") then ranges_by (options_in [] words) else (if bytes_eq name (codes "gen") then gen_by (options_in gen_options words) else None))) ≡ Some command
      → (name ≡ codes "decode") ⊎ (name ≡ codes "encode") ⊎ (name ≡ codes "ranges") ⊎ (name ≡ codes "gen")
  encode_by_test true e g = inr (inl ((bytes_eq-Decides name (codes "encode")).0 e))
  encode_by_test false e g = ranges_by_test (bytes_eq name (codes "ranges")) refl g

  decode_by_test : (b : Bool) → bytes_eq name (codes "decode") ≡ b
      → (if b then decode_by (options_in decode_options words) else (if bytes_eq name (codes "encode") then encode_by (options_in encode_options words) else
      (if bytes_eq name (codes "ranges") then ranges_by (options_in [] words) else (if bytes_eq name (codes "gen") then gen_by (options_in gen_options words) else None)))) ≡ Some command
      → (name ≡ codes "decode") ⊎ (name ≡ codes "encode") ⊎ (name ≡ codes "ranges") ⊎ (name ≡ codes "gen")
  decode_by_test true e g = inl ((bytes_eq-Decides name (codes "decode")).0 e)
  decode_by_test false e g = encode_by_test (bytes_eq name (codes "encode")) refl g
