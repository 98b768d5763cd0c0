-- Words that write options.
use Rattle.std.proofs.Common.{◌≡◌, ℕ, zero, suc, Bool, true, false, not, List, [], ◌∷◌, ◌++◌, map, refl, sym, ◌∙◌, ap, ap₂, subst, append-nil, append_assoc, Option, Some, None, arith, ◌==◌}
use Rattle.std.specs.Prelude.{◌&&◌, ◌||◌, if◌then◌else◌, option_and_then}
use Rattle.std.specs.List.{flat_map, list_any}
use Rattle.std.specs.Str.{bytes_eq}
use Rattle.std.proofs.lemmas.Bool.Decides.{nat_tests}
use Rattle.std.proofs.lemmas.Slice.Eq.{bytes_eq-Decides}
use Rattle.clap.specs.Lexer.{long_of, long_of_rest, strip_byte, name_and_value}
use Rattle.clap.proofs.CutLemmas.{Lacks}
use Rattle.clap.proofs.LexerLemmas.{name_and_value-at, name_and_value-without}
use Rattle.celt_cli.specs.Options.{Text, Known, Given, known_by, has_option, is_ending, is_value, Next, given, written_as, written, option_word, first_word, options_from, has_required, with_required, options_in}
use Rattle.celt_cli.specs.Spellings.{Entry, long_word, joined_word, value_words, entry_words, words_of, FitsValue, Stands, AllStand, AreOnce, AreWritten, is_plain, are_plain}

-- ---- A WORD

-- a name alone, or with a value behind `=`
abbrev pub behind_hyphens : Text → Option Text → Text
behind_hyphens name None = name
behind_hyphens name (Some value) = name ++ 61 ∷ value

-- a text has a first `=`, or none
data Cut (text : Text) : Type 0 where
  at : (xs ys : Text) → text ≡ xs ++ 61 ∷ ys → Lacks 61 xs → Cut text
  none : Lacks 61 text → Cut text

Lacks-more : (x : ℕ) (xs : Text) → (x == 61) ≡ false → Lacks 61 xs → Lacks 61 (x ∷ xs)
Lacks-more x xs h rest zero less = grind (arith, nat_tests)
Lacks-more x xs h rest (suc i) less = rest i (omega arith)

cut_of : (text : Text) → Cut text
cut_of [] = none (λ i less. absurd (omega arith))
cut_of (x ∷ xs) = by (x == 61) refl (cut_of xs) where
  by : (b : Bool) → (x == 61) ≡ b → Cut xs → Cut (x ∷ xs)
  by true e rest = let same : x ≡ 61 = grind (arith, nat_tests) in at [] xs (ap (λ n. n ∷ xs) same) (λ i less. absurd (omega arith))
  by false e (at us vs is lacks) = at (x ∷ us) vs (ap (λ l. x ∷ l) is) (Lacks-more x us e lacks)
  by false e (none lacks) = none (Lacks-more x xs e lacks)

pub spelled_back : (text name : Text) (value : Option Text) → name_and_value text ≡ (name, value) → text ≡ behind_hyphens name value
spelled_back text name value h = by (cut_of text) where
  by : Cut text → text ≡ behind_hyphens name value
  by (at xs ys is lacks) =
      let both : (xs, Some ys) ≡ (name, value) = sym (ap name_and_value is ∙ name_and_value-at xs ys lacks) ∙ h in
      is ∙ ap (λ (p : Text × Option Text). behind_hyphens p.0 p.1) both
  by (none lacks) =
      let both : (text, None) ≡ (name, value) = sym (name_and_value-without text lacks) ∙ h in
      ap (λ (p : Text × Option Text). behind_hyphens p.0 p.1) both

stripped : (c : ℕ) (text rest : Text) → strip_byte c text ≡ Some rest → text ≡ c ∷ rest
stripped c [] rest h = cc
stripped c (x ∷ xs) rest h = by (x == c) refl h where
  by : (b : Bool) → (x == c) ≡ b → (if b then Some xs else None) ≡ Some rest → x ∷ xs ≡ c ∷ rest
  by true e g =
      let same : x ≡ c = grind (arith, nat_tests) in
      let tail : xs ≡ rest = cc in
      ap₂ (λ n l. n ∷ l) same tail
  by false e g = cc

pub word_back : (word name : Text) (value : Option Text) → long_of word ≡ Some (name, value) → word ≡ long_word (behind_hyphens name value)
word_back word name value h = by (strip_byte 45 word) refl h where
  rest_back : (text : Text) → long_of_rest text ≡ Some (name, value) → text ≡ behind_hyphens name value
  rest_back [] g = cc
  rest_back (x ∷ xs) g = let both : name_and_value (x ∷ xs) ≡ (name, value) = cc in spelled_back (x ∷ xs) name value both

  second : (first : Text) (o : Option Text) → strip_byte 45 first ≡ o → option_and_then long_of_rest o ≡ Some (name, value) → first ≡ 45 ∷ behind_hyphens name value
  second first None e g = cc
  second first (Some rest) e g = stripped 45 first rest e ∙ ap (λ l. 45 ∷ l) (rest_back rest g)

  by : (o : Option Text) → strip_byte 45 word ≡ o → option_and_then long_of_rest (option_and_then (strip_byte 45) o) ≡ Some (name, value) → word ≡ long_word (behind_hyphens name value)
  by None e g = cc
  by (Some first) e g = stripped 45 word first e ∙ ap (λ l. 45 ∷ l) (second first (strip_byte 45 first) refl g)

-- ---- FROM WORDS TO OPTIONS

-- the words behind some options write these
pub record Written (ks : List Known) (words : List Text) (before gs : List Given) : Type 0 where
  pub entries : List Entry
  pub ending : Bool
  pub words_are : words ≡ words_of entries ending
  pub givens_are : gs ≡ before ++ map (λ (e : Entry). e.given) entries
  pub stand : AllStand ks entries
  pub once : AreOnce before (map (λ (e : Entry). e.given) entries)

none_written : (ks : List Known) (before gs : List Given) → Some before ≡ Some gs → Written ks [] before gs
unfolding AllStand AreOnce
none_written ks before gs h = record {
  entries = [];
  ending = false;
  words_are = refl;
  givens_are = let same : gs ≡ before = cc in same ∙ sym (append-nil before);
  stand = tt;
  once = tt;
}

ending_written : (ks : List Known) (word : Text) (before gs : List Given) → is_ending word ≡ true → Some before ≡ Some gs → Written ks (word ∷ []) before gs
unfolding AllStand AreOnce
ending_written ks word before gs e h = record {
  entries = [];
  ending = true;
  words_are = ap (λ w. w ∷ []) ((bytes_eq-Decides word (45 ∷ 45 ∷ [])).0 e);
  givens_are = let same : gs ≡ before = cc in same ∙ sym (append-nil before);
  stand = tt;
  once = tt;
}

-- one option more, of these words
more_written : (ks : List Known) (e : Entry) (front words : List Text) (before gs : List Given) → front ≡ entry_words e → Stands ks e → has_option e.given.name before ≡ false
    → Written ks words (before ++ e.given ∷ []) gs → Written ks (front ++ words) before gs
unfolding AllStand AreOnce
more_written ks e front words before gs is stands once w = record {
  entries = e ∷ w.entries;
  ending = w.ending;
  words_are = ap₂ (λ f l. f ++ l) is w.words_are ∙ sym (append_assoc (entry_words e) (flat_map entry_words w.entries) (if w.ending then long_word [] ∷ [] else []));
  givens_are = w.givens_are ∙ append_assoc before (e.given ∷ []) (map (λ (x : Entry). x.given) w.entries);
  stand = (stands, w.stand);
  once = (once, w.once);
}

-- an option that is known bears its name
named : (ks : List Known) (name : Text) (k : Known) → known_by ks name ≡ Some k → k.name ≡ name
named [] name k h = cc
named (x ∷ ks) name k h = by (bytes_eq x.name name) refl (named ks name k) h where
  by : (b : Bool) → bytes_eq x.name name ≡ b → (known_by ks name ≡ Some k → k.name ≡ name) → (if b then Some x else known_by ks name) ≡ Some k → k.name ≡ name
  by true e rest g =
      let same : x ≡ k = cc in
      ap (λ (y : Known). y.name) (sym same) ∙ (bytes_eq-Decides x.name name).0 e
  by false e rest g = rest g

known_self : (ks : List Known) (name : Text) (k : Known) → known_by ks name ≡ Some k → known_by ks k.name ≡ Some k
known_self ks name k h = ap (known_by ks) (named ks name k h) ∙ h

-- what follows an option that is given
given_goes : (k : Known) (values : List Text) (before gs : List Given) (next : Next) → given k values before next ≡ Some gs
    → (has_option k.name before ≡ false) × (next None (before ++ record { name = k.name; values = values } ∷ []) ≡ Some gs)
given_goes k values before gs next h = by (has_option k.name before) refl h where
  by : (b : Bool) → has_option k.name before ≡ b → (if b then None else next None (before ++ record { name = k.name; values = values } ∷ [])) ≡ Some gs
      → (has_option k.name before ≡ false) × (next None (before ++ record { name = k.name; values = values } ∷ []) ≡ Some gs)
  by true e g = cc
  by false e g = (e, g)

-- what is known of the words behind the next one
abbrev Behind : List Known → List Given → List Text → Type 0
Behind ks gs [] = Unit {0}
Behind ks gs (second ∷ rest) = (before : List Given) → options_from ks rest None before ≡ Some gs → Written ks rest before gs

abbrev Again : List Known → List Given → List Text → Type 0
Again ks gs words = (before : List Given) → options_from ks words None before ≡ Some gs → Written ks words before gs

-- an option in words of its own
given_written : (ks : List Known) (k : Known) (joined : Bool) (values front words : List Text) (before gs : List Given) → known_by ks k.name ≡ Some k → front ≡ value_words joined k.name values
    → FitsValue k.takes_value joined values → Again ks gs words → given k values before (options_from ks words) ≡ Some gs → Written ks (front ++ words) before gs
given_written ks k joined values front words before gs known is fits again g =
    let goes = given_goes k values before gs (options_from ks words) g in
    more_written ks (record { given = record { name = k.name; values = values }; joined = joined }) front words before gs is
    (record { known = k; is_known = known; fits = fits }) goes.0 (again (before ++ record { name = k.name; values = values } ∷ []) goes.1)

-- an option whose value is the word behind it
apart_written : (ks : List Known) (k : Known) (word : Text) (words : List Text) (before gs : List Given) → known_by ks k.name ≡ Some k → word ≡ long_word k.name → k.takes_value ≡ true
    → Behind ks gs words → options_from ks words (Some k) before ≡ Some gs → Written ks (word ∷ words) before gs
unfolding options_from
apart_written ks k word [] before gs known is takes behind h = cc
apart_written ks k word (second ∷ rest) before gs known is takes behind h = by (is_value second) refl h where
  by : (b : Bool) → is_value second ≡ b → (if b then given k (second ∷ []) before (options_from ks rest) else None) ≡ Some gs → Written ks (word ∷ second ∷ rest) before gs
  by true e g =
      given_written ks k false (second ∷ []) (word ∷ second ∷ []) rest before gs known (ap (λ w. w ∷ second ∷ []) is) (subst (λ t. FitsValue t false (second ∷ [])) (sym takes) e) behind g
  by false e g = cc

known_written : (ks : List Known) (k : Known) (word : Text) (value : Option Text) (words : List Text) (before gs : List Given) → known_by ks k.name ≡ Some k → word ≡ long_word (behind_hyphens k.name value)
    → Again ks gs words → Behind ks gs words → (takes : Bool) → k.takes_value ≡ takes → written_as takes k value before (options_from ks words) ≡ Some gs → Written ks (word ∷ words) before gs
known_written ks k word (Some value) words before gs known is again behind true takes h =
    given_written ks k true (value ∷ []) (word ∷ []) words before gs known (ap (λ w. w ∷ []) is) (subst (λ t. FitsValue t true (value ∷ [])) (sym takes) tt) again h
known_written ks k word None words before gs known is again behind true takes h = apart_written ks k word words before gs known is takes behind h
known_written ks k word (Some value) words before gs known is again behind false takes h = cc
known_written ks k word None words before gs known is again behind false takes h =
    given_written ks k false [] (word ∷ []) words before gs known (ap (λ w. w ∷ []) is) (subst (λ t. FitsValue t false []) (sym takes) tt) again h

option_written : (ks : List Known) (word : Text) (words : List Text) (before gs : List Given) → Again ks gs words → Behind ks gs words → (o : Option (Text × Option Text)) → long_of word ≡ o
    → option_word ks o before (options_from ks words) ≡ Some gs → Written ks (word ∷ words) before gs
option_written ks word words before gs again behind None e h = cc
option_written ks word words before gs again behind (Some p) e h = by (known_by ks p.0) refl h where
  by : (o : Option Known) → known_by ks p.0 ≡ o → written o p.1 before (options_from ks words) ≡ Some gs → Written ks (word ∷ words) before gs
  by None f g = cc
  by (Some k) f g =
      known_written ks k word p.1 words before gs (known_self ks p.0 k f) (word_back word p.0 p.1 e ∙ ap (λ n. long_word (behind_hyphens n p.1)) (sym (named ks p.0 k f))) again behind k.takes_value refl g

word_written : (ks : List Known) (word : Text) (words : List Text) (before gs : List Given) → Again ks gs words → Behind ks gs words → (b : Bool) → is_ending word ≡ b
    → first_word ks b (long_of word) words before (options_from ks words) ≡ Some gs → Written ks (word ∷ words) before gs
word_written ks word [] before gs again behind true e h = ending_written ks word before gs e h
word_written ks word (second ∷ rest) before gs again behind true e h = cc
word_written ks word words before gs again behind false e h = option_written ks word words before gs again behind (long_of word) refl h

pub walk : (ks : List Known) (words : List Text) (before gs : List Given) → options_from ks words None before ≡ Some gs → Written ks words before gs
unfolding options_from
walk ks [] before gs h = none_written ks before gs h
walk ks (word ∷ []) before gs h = word_written ks word [] before gs (λ b g. none_written ks b gs g) tt (is_ending word) refl h
walk ks (word ∷ second ∷ rest) before gs h = word_written ks word (second ∷ rest) before gs (λ b g. walk ks (second ∷ rest) b gs g) (λ b g. walk ks rest b gs g) (is_ending word) refl h

pub options_written : (ks : List Known) (words : List Text) (gs : List Given) → options_in ks words ≡ Some gs → AreWritten ks words gs
unfolding options_in
options_written ks words gs h = by (options_from ks words None []) refl h where
  whole : (given : List Given) → options_from ks words None [] ≡ Some given → (b : Bool) → has_required ks given ≡ b → (if b then Some given else None) ≡ Some gs → AreWritten ks words gs
  whole given e true r g =
      let same : given ≡ gs = cc in
      let w = walk ks words [] gs (e ∙ ap Some same) in
      record {
        entries = w.entries;
        ending = w.ending;
        words_are = w.words_are;
        givens_are = w.givens_are;
        stand = w.stand;
        once = subst (AreOnce []) (sym w.givens_are) w.once;
        required = ap (has_required ks) (sym same) ∙ r;
      }
  whole given e false r g = cc

  by : (o : Option (List Given)) → options_from ks words None [] ≡ o → with_required ks o ≡ Some gs → AreWritten ks words gs
  by None e g = cc
  by (Some given) e g = whole given e (has_required ks given) refl g

-- ---- FROM OPTIONS TO WORDS

lacks_of : (text : Text) → list_any (λ x. x == 61) text ≡ false → Lacks 61 text
lacks_of [] h = λ i less. absurd (omega arith)
lacks_of (x ∷ xs) h = by (x == 61) refl (lacks_of xs) h where
  by : (b : Bool) → (x == 61) ≡ b → (list_any (λ y. y == 61) xs ≡ false → Lacks 61 xs) → (b || list_any (λ y. y == 61) xs) ≡ false → Lacks 61 (x ∷ xs)
  by true e rest g = cc
  by false e rest g = Lacks-more x xs e (rest g)

-- a known name is plain
plain_known : (ks : List Known) (name : Text) (k : Known) → are_plain ks ≡ true → known_by ks name ≡ Some k → is_plain name ≡ true
plain_known [] name k p h = cc
plain_known (x ∷ ks) name k p h = by (is_plain x.name) refl (bytes_eq x.name name) refl (plain_known ks name k) p h where
  by : (q : Bool) → is_plain x.name ≡ q → (b : Bool) → bytes_eq x.name name ≡ b → (are_plain ks ≡ true → known_by ks name ≡ Some k → is_plain name ≡ true)
      → (q && are_plain ks) ≡ true → (if b then Some x else known_by ks name) ≡ Some k → is_plain name ≡ true
  by true f true e rest g j = ap is_plain (sym ((bytes_eq-Decides x.name name).0 e)) ∙ f
  by true f false e rest g j = rest g j
  by false f b e rest g j = cc

alone_read : (name : Text) → is_plain name ≡ true → long_of (long_word name) ≡ Some (name, None)
alone_read [] h = cc
alone_read (c ∷ cs) h = by (list_any (λ x. x == 61) (c ∷ cs)) refl h where
  by : (b : Bool) → list_any (λ x. x == 61) (c ∷ cs) ≡ b → not b ≡ true → long_of (long_word (c ∷ cs)) ≡ Some (c ∷ cs, None)
  by true e g = cc
  by false e g = ap Some (name_and_value-without (c ∷ cs) (lacks_of (c ∷ cs) e))

joined_read : (name value : Text) → is_plain name ≡ true → long_of (joined_word name value) ≡ Some (name, Some value)
joined_read [] value h = cc
joined_read (c ∷ cs) value h = by (list_any (λ x. x == 61) (c ∷ cs)) refl h where
  by : (b : Bool) → list_any (λ x. x == 61) (c ∷ cs) ≡ b → not b ≡ true → long_of (joined_word (c ∷ cs) value) ≡ Some (c ∷ cs, Some value)
  by true e g = cc
  by false e g = ap Some (name_and_value-at (c ∷ cs) value (lacks_of (c ∷ cs) e))

-- a word that has a name is not the ending
not_ending : (c : ℕ) (cs : Text) → is_ending (45 ∷ 45 ∷ c ∷ cs) ≡ false
not_ending c cs = by (is_ending (45 ∷ 45 ∷ c ∷ cs)) refl where
  by : (b : Bool) → is_ending (45 ∷ 45 ∷ c ∷ cs) ≡ b → b ≡ false
  by true e = let same = (bytes_eq-Decides (45 ∷ 45 ∷ c ∷ cs) (45 ∷ 45 ∷ [])).0 e in let no : ⊥ = cc in absurd no
  by false e = refl

alone_goes_on : (name : Text) → is_plain name ≡ true → is_ending (long_word name) ≡ false
alone_goes_on [] h = cc
alone_goes_on (c ∷ cs) h = not_ending c cs

joined_goes_on : (name value : Text) → is_plain name ≡ true → is_ending (joined_word name value) ≡ false
joined_goes_on [] value h = cc
joined_goes_on (c ∷ cs) value h = not_ending c (cs ++ 61 ∷ value)

-- a word of this name, and perhaps a value, where the option is known
word_read : (ks : List Known) (k : Known) (word name : Text) (value : Option Text) (words : List Text) (before : List Given) → is_ending word ≡ false → long_of word ≡ Some (name, value) → known_by ks name ≡ Some k
    → options_from ks (word ∷ words) None before ≡ written_as k.takes_value k value before (options_from ks words)
unfolding options_from
word_read ks k word name value words before going is known =
    ap (λ b. first_word ks b (long_of word) words before (options_from ks words)) going
    ∙ ap (λ o. option_word ks o before (options_from ks words)) is ∙ ap (λ o. written o value before (options_from ks words)) known

given_read : (k : Known) (values : List Text) (before : List Given) (next : Next) → has_option k.name before ≡ false → given k values before next ≡ next None (before ++ record { name = k.name; values = values } ∷ [])
given_read k values before next h = ap (λ b. if b then None else next None (before ++ record { name = k.name; values = values } ∷ [])) h

value_read : (ks : List Known) (k : Known) (word second : Text) (words : List Text) (before : List Given) → is_value second ≡ true
    → options_from ks (second ∷ words) (Some k) before ≡ given k (second ∷ []) before (options_from ks words)
unfolding options_from
value_read ks k word second words before h = ap (λ b. if b then given k (second ∷ []) before (options_from ks words) else None) h

module _ (ks : List Known) (plain : are_plain ks ≡ true) (k : Known) (name : Text) (known : known_by ks name ≡ Some k) (rest : List Text) (before gs : List Given) (once : has_option name before ≡ false) where
  same_name : k.name ≡ name
  same_name = named ks name k known

  is_plain_name : is_plain name ≡ true
  is_plain_name = plain_known ks name k plain known

  new_name : has_option k.name before ≡ false
  new_name = ap (λ n. has_option n before) same_name ∙ once

  behind : (values : List Text) → given k values before (options_from ks rest) ≡ options_from ks rest None (before ++ record { name = name; values = values } ∷ [])
  behind values = given_read k values before (options_from ks rest) new_name ∙ ap (λ n. options_from ks rest None (before ++ record { name = n; values = values } ∷ [])) same_name

  pub entry_by : (takes joined : Bool) (values : List Text) → k.takes_value ≡ takes → FitsValue takes joined values
      → options_from ks (value_words joined name values ++ rest) None before ≡ options_from ks rest None (before ++ record { name = name; values = values } ∷ [])
  entry_by true joined [] t f = absurd f
  entry_by true true (value ∷ []) t f =
      word_read ks k (joined_word name value) name (Some value) rest before (joined_goes_on name value is_plain_name) (joined_read name value is_plain_name) known
      ∙ ap (λ b. written_as b k (Some value) before (options_from ks rest)) t ∙ behind (value ∷ [])
  entry_by true false (value ∷ []) t f =
      word_read ks k (long_word name) name None (value ∷ rest) before (alone_goes_on name is_plain_name) (alone_read name is_plain_name) known
      ∙ ap (λ b. written_as b k None before (options_from ks (value ∷ rest))) t ∙ value_read ks k (long_word name) value rest before f ∙ behind (value ∷ [])
  entry_by true true (value ∷ second ∷ more) t f = absurd f
  entry_by true false (value ∷ second ∷ more) t f = absurd f
  entry_by false joined [] t f =
      word_read ks k (long_word name) name None rest before (alone_goes_on name is_plain_name) (alone_read name is_plain_name) known
      ∙ ap (λ b. written_as b k None before (options_from ks rest)) t ∙ behind []
  entry_by false joined (value ∷ more) t f = absurd f

pub entries_read : (ks : List Known) (entries : List Entry) (ending : Bool) (before : List Given) → are_plain ks ≡ true → AllStand ks entries → AreOnce before (map (λ (e : Entry). e.given) entries)
    → options_from ks (words_of entries ending) None before ≡ Some (before ++ map (λ (e : Entry). e.given) entries)
unfolding options_from AllStand AreOnce
entries_read ks [] true before plain stand once = ap Some (sym (append-nil before))
entries_read ks [] false before plain stand once = ap Some (sym (append-nil before))
entries_read ks (e ∷ entries) ending before plain stand once =
    let k = stand.0.known in
    let rest = words_of entries ending in
    ap (λ l. options_from ks l None before) (append_assoc (entry_words e) (flat_map entry_words entries) (if ending then long_word [] ∷ [] else []))
    ∙ entry_by ks plain k e.given.name stand.0.is_known rest before [] once.0 k.takes_value e.joined e.given.values refl stand.0.fits
    ∙ entries_read ks entries ending (before ++ e.given ∷ []) plain stand.1 once.1
    ∙ ap Some (append_assoc before (e.given ∷ []) (map (λ (x : Entry). x.given) entries))

pub written_read : (ks : List Known) (words : List Text) (gs : List Given) → are_plain ks ≡ true → AreWritten ks words gs → options_in ks words ≡ Some gs
unfolding options_in
written_read ks words gs plain w =
    ap (λ l. with_required ks (options_from ks l None [])) w.words_are
    ∙ ap (with_required ks) (entries_read ks w.entries w.ending [] plain w.stand (subst (AreOnce []) w.givens_are w.once) ∙ ap Some (sym w.givens_are))
    ∙ ap (λ b. if b then Some gs else None) w.required
