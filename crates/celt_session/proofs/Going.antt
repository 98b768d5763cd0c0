-- Pages worked on one after the other, and pieces fed one after the other.
use Rattle.std.proofs.Common.{◌≡◌, ℕ, ◌+◌, ◌<◌, ◌≤◌, Bool, true, false, List, [], ◌∷◌, ◌++◌, length, take, drop, refl, sym, ◌∙◌, ap, subst, arith, append_assoc, append-nil, length-append, length-drop, Option, Some, None, nat_lt, min, Ok, Err}
use Rattle.std.specs.Prelude.{if◌then◌else◌}
use Rattle.std.specs.Io.KnownBytes.{Appends}
use Rattle.std.proofs.KnownBytes.{Appends-trans, Appends-nil}
use Rattle.std.proofs.Math.Seq.{take-append_seam}
use Rattle.std.proofs.lemmas.Bool.{ltb-true, ltb-false}
use Rattle.std.proofs.lemmas.List.{take-append-drop, take_all}
use Rattle.celt_base.specs.declared.outside.Failed.{Failed}
use Rattle.celt_base.specs.declared.status.Fault.{Fault}
use Rattle.celt_base.specs.Outside.{AppendsFront}
use Rattle.celt_base.proofs.Causes.{then_front, longer_front}
use Rattle.ogg_pages.specs.Fields.{Page}
use Rattle.opus_stream.specs.declared.answers.Accept.TheVariants as answers
use Rattle.opus_stream.specs.Acceptance.{accepted, fault_of, is_end_name, answer_by, answer_of, given_pages}
use Rattle.opus_stream.specs.Readers.{Reader, StandsFor, IsAnswer, free_room}
use Rattle.opus_stream.proofs.Prefixes.{accepted_more, pages_go_on}
use Rattle.opus_stream.proofs.Reading.{need_short, no_byte}
use Rattle.celt_session.specs.Pages.{Heard, heard_at, heard_after, IsGiven}
use Rattle.celt_session.specs.PageFunctions.{PageFunction, state_after, added_by, lasting, fault_now}
use Rattle.celt_session.specs.Works.{Works, Worked}
use Rattle.celt_session.specs.Sessions.{Along, IsFed, said_behind, Gives, Feeds}
use Rattle.celt_session.proofs.Folding.{said-one, state-one, behind-is, behind-none, behind-twice, added-is, added-none, fault_stays}

-- ---- what an answer says

page_test : (b : Bool) (o : Option Fault) → answers.Page ≡ (if b then answers.Page else answer_by o) → b ≡ true
page_test true o h = refl
page_test false None h = cc
page_test false (Some fault) h = by (is_end_name fault.name) h where
  by : (t : Bool) → answers.Page ≡ (if t then answers.Need else answers.Fault fault) → false ≡ true
  by true e = cc
  by false e = cc

pub page_said : (bytes : List ℕ) (given : ℕ) → answers.Page ≡ answer_of bytes given → given < length (accepted bytes)
unfolding answer_of
page_said bytes given h = ltb-true given (length (accepted bytes)) (page_test (nat_lt given (length (accepted bytes))) (fault_of bytes) h)

need_by : (o : Option Fault) → answers.Need ≡ answer_by o → lasting o ≡ None
need_by None h = refl
need_by (Some fault) h = by (is_end_name fault.name) h where
  by : (t : Bool) → answers.Need ≡ (if t then answers.Need else answers.Fault fault) → (if t then None else Some fault) ≡ None
  by true e = refl
  by false e = cc

need_test : (b : Bool) (o : Option Fault) → answers.Need ≡ (if b then answers.Page else answer_by o) → (b ≡ false) × (lasting o ≡ None)
need_test true o h = cc
need_test false o h = (refl, need_by o h)

pub need_said : (bytes : List ℕ) (given : ℕ) → answers.Need ≡ answer_of bytes given → (length (accepted bytes) ≤ given) × (lasting (fault_of bytes) ≡ None)
unfolding answer_of
need_said bytes given h =
    let t = need_test (nat_lt given (length (accepted bytes))) (fault_of bytes) h in
    (ltb-false given (length (accepted bytes)) t.0, t.1)

fault_by : (o : Option Fault) (f : Fault) → answers.Fault f ≡ answer_by o → lasting o ≡ Some f
fault_by None f h = cc
fault_by (Some fault) f h = by (is_end_name fault.name) h where
  by : (t : Bool) → answers.Fault f ≡ (if t then answers.Need else answers.Fault fault) → (if t then None else Some fault) ≡ Some f
  by true e = cc
  by false e = cc

fault_test : (b : Bool) (o : Option Fault) (f : Fault) → answers.Fault f ≡ (if b then answers.Page else answer_by o) → (b ≡ false) × (lasting o ≡ Some f)
fault_test true o f h = cc
fault_test false o f h = (refl, fault_by o f h)

pub fault_said : (bytes : List ℕ) (given : ℕ) (f : Fault) → answers.Fault f ≡ answer_of bytes given → (length (accepted bytes) ≤ given) × (lasting (fault_of bytes) ≡ Some f)
unfolding answer_of
fault_said bytes given f h =
    let t = fault_test (nat_lt given (length (accepted bytes))) (fault_of bytes) f h in
    (ltb-false given (length (accepted bytes)) t.0, t.1)

-- ---- the next page

first_of_many : (xs : List Page) → 0 < length xs → (x : Page) × (rest : List Page) × (xs ≡ x ∷ rest)
first_of_many [] h = absurd (omega arith)
first_of_many (x ∷ xs) h = (x, xs, refl)

pub record IsNext (pages now : List Page) : Type 0 where
  pub page : Page
  pub rest : List Page
  pub all : pages ≡ (now ++ page ∷ []) ++ rest
  pub given : take (length (now ++ page ∷ [])) pages ≡ now ++ page ∷ []
  pub count : length (now ++ page ∷ []) ≡ length now + 1

pub next_is : (pages now : List Page) → take (length now) pages ≡ now → length now < length pages → IsNext pages now
next_is pages now e h =
    let f = first_of_many (drop (length now) pages) (simp length-drop (omega arith)) in
    let all : pages ≡ (now ++ f.0 ∷ []) ++ f.1 = sym (take-append-drop (length now) pages) ∙ ap (λ l. l ++ drop (length now) pages) e ∙ ap (λ l. now ++ l) f.2 ∙ sym (append_assoc now (f.0 ∷ []) f.1) in
    record {
      page = f.0;
      rest = f.1;
      all = all;
      given = ap (take (length (now ++ f.0 ∷ []))) all ∙ take-append_seam (now ++ f.0 ∷ []) f.1;
      count = length-append now (f.0 ∷ []);
    }

pub all_given : (pages now : List Page) → take (length now) pages ≡ now → length pages ≤ length now → now ≡ pages
all_given pages now e h = sym e ∙ take_all (length now) pages h

-- ---- how far pages were worked on

pub record Went {W : Type 0} (w : Works W) (start : w.function.State) (bytes : List ℕ) (front : List Page) (reader : Reader) (work : W) (old new : Option (List ℕ)) : Type 0 where
  pub more : List Page
  pub along : Along w start reader work bytes (front ++ more)
  pub added : Appends old new (said_behind w.function start front (front ++ more))

pub went_start : {W : Type 0} (w : Works W) (start : w.function.State) (bytes : List ℕ) (front : List Page) (reader : Reader) (work : W) (held : Option (List ℕ)) → Along w start reader work bytes front → Went w start bytes front reader work held held
went_start w start bytes front reader work held a = record {
  more = [];
  along = subst (Along w start reader work bytes) (sym (append-nil front)) a;
  added = subst (Appends held held) (sym (ap (said_behind w.function start front) (append-nil front) ∙ behind-none w.function start front)) (Appends-nil held);
}

-- the page that an answer gives
pub record Turn {W : Type 0} (w : Works W) (start : w.function.State) (bytes : List ℕ) (now : List Page) (next : Reader) : Type 0 where
  pub page : IsNext (accepted bytes) now
  pub stands : StandsFor next bytes (length now + 1)
  pub given : IsGiven next (heard_at (now ++ page.page ∷ []))

pub turn_of : {W : Type 0} (w : Works W) (start : w.function.State) (bytes : List ℕ) (now : List Page) (reader next : Reader) (work : W) → Along w start reader work bytes now → IsAnswer reader answers.Page
    → ((bytes : List ℕ) (given : ℕ) → StandsFor reader bytes given → StandsFor next bytes (given + 1)) → Turn w start bytes now next
turn_of w start bytes now reader next work a answer longer =
    let n = next_is (accepted bytes) now a.given (page_said bytes (length now) (answer bytes (length now) a.reads)) in
    let stands = longer bytes (length now) a.reads in
    record {
      page = n;
      stands = stands;
      given = record {
        bytes = bytes;
        given = length now + 1;
        stands = stands;
        heard_is = ap heard_at (sym (ap (given_pages bytes) (sym n.count) ∙ n.given));
      };
    }

-- the state that the work shows before a page, and the page
abbrev before : {W : Type 0} (w : Works W) → w.function.State → List Page → w.function.State
before w start now = state_after w.function start (heard_after [] now)

-- after a page
pub went_page : {W : Type 0} (w : Works W) (start : w.function.State) (bytes : List ℕ) (front : List Page) (reader next : Reader) (work done : W) (old mid new : Option (List ℕ)) (result : Unit {0})
    → Went w start bytes front reader work old mid → IsAnswer reader answers.Page
    → ((bytes : List ℕ) (given : ℕ) → StandsFor reader bytes given → StandsFor next bytes (given + 1))
    → ((s : w.function.State) (heard : Heard) → w.Shows work s → IsGiven next heard → Worked w s heard done mid new (Ok result))
    → Went w start bytes front next done old new
went_page w start bytes front reader next work done old mid new result h answer longer works =
    let now = front ++ h.more in
    let t = turn_of w start bytes now reader next work h.along answer longer in
    let p = t.page.page in
    let heard = heard_at (now ++ p ∷ []) in
    let worked = works (before w start now) heard h.along.shows t.given in
    let more = append_assoc front h.more (p ∷ []) in
    let along : Along w start next done bytes (now ++ p ∷ []) = record {
      given = t.page.given;
      reads = subst (StandsFor next bytes) (sym t.page.count) t.stands;
      shows = subst (w.Shows done) (sym (state-one w.function start now p)) worked.0;
    } in
    let text : said_behind w.function start front (now ++ p ∷ []) ≡ said_behind w.function start front now ++ w.function.says (before w start now) heard =
    behind-twice w.function start front now (now ++ p ∷ []) h.more (p ∷ []) refl refl
    ∙ ap (λ l. said_behind w.function start front now ++ l) (behind-is w.function start now (now ++ p ∷ []) (w.function.says (before w start now) heard) (said-one w.function start now p)) in
    record {
      more = h.more ++ p ∷ [];
      along = subst (Along w start next done bytes) more along;
      added = subst (λ l. Appends old new (said_behind w.function start front l)) more (subst (Appends old new) (sym text)
          (Appends-trans old mid new (said_behind w.function start front now) (w.function.says (before w start now) heard) h.added worked.1));
    }

-- where its bytes could not be written
pub went_failed : {W : Type 0} (w : Works W) (start : w.function.State) (bytes : List ℕ) (front : List Page) (reader next : Reader) (work done : W) (old mid new : Option (List ℕ)) (failure : Failed)
    → Went w start bytes front reader work old mid → IsAnswer reader answers.Page
    → ((bytes : List ℕ) (given : ℕ) → StandsFor reader bytes given → StandsFor next bytes (given + 1))
    → ((s : w.function.State) (heard : Heard) → w.Shows work s → IsGiven next heard → Worked w s heard done mid new (Err failure))
    → AppendsFront old new (said_behind w.function start front (accepted bytes))
went_failed w start bytes front reader next work done old mid new failure h answer longer works =
    let now = front ++ h.more in
    let t = turn_of w start bytes now reader next work h.along answer longer in
    let p = t.page.page in
    let heard = heard_at (now ++ p ∷ []) in
    let worked = works (before w start now) heard h.along.shows t.given in
    let says = w.function.says (before w start now) heard in
    let one = then_front old mid new (said_behind w.function start front now) says h.added worked in
    let text : said_behind w.function start front (accepted bytes) ≡ (said_behind w.function start front now ++ says) ++ said_behind w.function start (now ++ p ∷ []) (accepted bytes) =
    behind-twice w.function start front (now ++ p ∷ []) (accepted bytes) (h.more ++ p ∷ []) t.page.rest (append_assoc front h.more (p ∷ [])) t.page.all
    ∙ ap (λ l. l ++ said_behind w.function start (now ++ p ∷ []) (accepted bytes))
    (behind-twice w.function start front now (now ++ p ∷ []) h.more (p ∷ []) refl refl
    ∙ ap (λ l. said_behind w.function start front now ++ l) (behind-is w.function start now (now ++ p ∷ []) says (said-one w.function start now p))) in
    subst (AppendsFront old new) (sym text) (longer_front old new (said_behind w.function start front now ++ says) (said_behind w.function start (now ++ p ∷ []) (accepted bytes)) one)

-- where no page is left
pub went_need : {W : Type 0} (w : Works W) (start : w.function.State) (bytes : List ℕ) (front : List Page) (reader next : Reader) (work : W) (old new : Option (List ℕ))
    → Went w start bytes front reader work old new → IsAnswer reader answers.Need
    → ((bytes : List ℕ) (given : ℕ) → StandsFor reader bytes given → StandsFor next bytes given)
    → Gives w start bytes front next work old new (Ok None)
went_need w start bytes front reader next work old new h answer longer =
    let now = front ++ h.more in
    let need = need_said bytes (length now) (answer bytes (length now) h.along.reads) in
    let e : now ≡ accepted bytes = all_given (accepted bytes) now h.along.given need.0 in
    let along : Along w start next work bytes now = record { given = h.along.given; reads = longer bytes (length now) h.along.reads; shows = h.along.shows } in
    (record { along = subst (Along w start next work bytes) e along; sound = need.1 }, subst (λ l. Appends old new (said_behind w.function start front l)) e h.added)

pub went_fault : {W : Type 0} (w : Works W) (start : w.function.State) (bytes : List ℕ) (front : List Page) (reader next : Reader) (work : W) (old new : Option (List ℕ)) (fault : Fault)
    → Went w start bytes front reader work old new → IsAnswer reader (answers.Fault fault)
    → Gives w start bytes front next work old new (Ok (Some fault))
went_fault w start bytes front reader next work old new fault h answer =
    let now = front ++ h.more in
    let broken = fault_said bytes (length now) fault (answer bytes (length now) h.along.reads) in
    let e : now ≡ accepted bytes = all_given (accepted bytes) now h.along.given broken.0 in
    (broken.1, subst (λ l. Appends old new (said_behind w.function start front l)) e h.added)

-- ---- how far a piece was fed

pub record Fed {W : Type 0} (w : Works W) (start : w.function.State) (bytes taken : List ℕ) (reader : Reader) (work : W) (old new : Option (List ℕ)) : Type 0 where
  pub fed : IsFed w start reader work (bytes ++ taken)
  pub added : Appends old new (added_by w.function start bytes (bytes ++ taken))

pub fed_start : {W : Type 0} (w : Works W) (start : w.function.State) (bytes : List ℕ) (reader : Reader) (work : W) (held : Option (List ℕ)) → IsFed w start reader work bytes → Fed w start bytes [] reader work held held
fed_start w start bytes reader work held h = record {
  fed = subst (IsFed w start reader work) (sym (append-nil bytes)) h;
  added = subst (Appends held held)
      (sym (ap (added_by w.function start bytes) (append-nil bytes) ∙ added-is w.function start bytes bytes ∙ behind-none w.function start (accepted bytes))) (Appends-nil held);
}

-- more bytes were fed, and no page was given yet
along_more : {W : Type 0} (w : Works W) (start : w.function.State) (bytes part : List ℕ) (reader next : Reader) (work : W) → IsFed w start reader work bytes
    → ((bytes : List ℕ) (given : ℕ) → StandsFor reader bytes given → StandsFor next (bytes ++ part) given) → Along w start next work (bytes ++ part) (accepted bytes)
along_more w start bytes part reader next work h longer = record {
  given = pages_go_on bytes part;
  reads = longer bytes (length (accepted bytes)) h.along.reads;
  shows = h.along.shows;
}

-- what is added in two steps
added_twice : (f : PageFunction) (start : f.State) (bytes taken part : List ℕ)
    → added_by f start bytes (bytes ++ (taken ++ part)) ≡ added_by f start bytes (bytes ++ taken) ++ said_behind f start (accepted (bytes ++ taken)) (accepted ((bytes ++ taken) ++ part))
added_twice f start bytes taken part =
    let a = accepted_more bytes taken in
    let b = accepted_more (bytes ++ taken) part in
    added-is f start bytes (bytes ++ (taken ++ part)) ∙ ap (λ l. said_behind f start (accepted bytes) (accepted l)) (sym (append_assoc bytes taken part))
    ∙ behind-twice f start (accepted bytes) (accepted (bytes ++ taken)) (accepted ((bytes ++ taken) ++ part)) a.0 b.0 a.1 b.1
    ∙ ap (λ l. l ++ said_behind f start (accepted (bytes ++ taken)) (accepted ((bytes ++ taken) ++ part))) (sym (added-is f start bytes (bytes ++ taken)))

-- the pages of more bytes were given
pub fed_more : {W : Type 0} (w : Works W) (start : w.function.State) (bytes taken part : List ℕ) (reader next last : Reader) (work done : W) (old mid new : Option (List ℕ)) (answer : Option Fault)
    → Fed w start bytes taken reader work old mid → answer ≡ None
    → ((bytes : List ℕ) (given : ℕ) → StandsFor reader bytes given → StandsFor next (bytes ++ part) given)
    → ((start : w.function.State) (bytes : List ℕ) (front : List Page) → Along w start next work bytes front → Gives w start bytes front last done mid new (Ok answer))
    → Fed w start bytes (taken ++ part) last done old new
fed_more w start bytes taken part reader next last work done old mid new answer h is longer gives =
    let now = bytes ++ taken in
    let g = subst (λ a. Gives w start (now ++ part) (accepted now) last done mid new (Ok a)) is (gives start (now ++ part) (accepted now) (along_more w start now part reader next work h.fed longer)) in
    record {
      fed = subst (IsFed w start last done) (append_assoc bytes taken part) g.0;
      added = subst (Appends old new) (sym (added_twice w.function start bytes taken part))
          (Appends-trans old mid new (added_by w.function start bytes now) (said_behind w.function start (accepted now) (accepted (now ++ part))) h.added g.1);
    }

-- all of the piece was fed
pub fed_done : {W : Type 0} (w : Works W) (start : w.function.State) (bytes taken rest piece part : List ℕ) (reader next : Reader) (work : W) (old new : Option (List ℕ))
    → Fed w start bytes taken reader work old new → taken ++ rest ≡ piece → rest ≡ [] → part ≡ []
    → ((bytes : List ℕ) (given : ℕ) → StandsFor reader bytes given → StandsFor next (bytes ++ part) given)
    → Feeds w start bytes (bytes ++ piece) next work old new (Ok None)
fed_done w start bytes taken rest piece part reader next work old new h split none no_part longer =
    let now = bytes ++ taken in
    let all : taken ≡ piece = sym (append-nil taken) ∙ ap (λ l. taken ++ l) (sym none) ∙ split in
    let same : now ++ part ≡ now = ap (λ l. now ++ l) no_part ∙ append-nil now in
    let reads : StandsFor next now (length (accepted now)) = subst (λ l. StandsFor next l (length (accepted now))) same (longer now (length (accepted now)) h.fed.along.reads) in
    let along : Along w start next work now (accepted now) = record { given = h.fed.along.given; reads = reads; shows = h.fed.along.shows } in
    let fed : IsFed w start next work now = record { along = along; sound = h.fed.sound } in
    subst (λ l. IsFed w start next work (bytes ++ l) × Appends old new (added_by w.function start bytes (bytes ++ l))) all (fed, h.added)

pieces : (bytes taken part rest piece : List ℕ) → taken ++ (part ++ rest) ≡ piece → (bytes ++ (taken ++ part)) ++ rest ≡ bytes ++ piece
pieces bytes taken part rest piece e = append_assoc bytes (taken ++ part) rest ∙ ap (λ l. bytes ++ l) (append_assoc taken part rest ∙ e)

-- what is added of bytes that go on
added_longer : (f : PageFunction) (start : f.State) (bytes now more : List ℕ) → added_by f start bytes ((bytes ++ now) ++ more) ≡ added_by f start bytes (bytes ++ now) ++ added_by f start (bytes ++ now) ((bytes ++ now) ++ more)
added_longer f start bytes now more =
    ap (added_by f start bytes) (append_assoc bytes now more) ∙ added_twice f start bytes now more
    ∙ ap (λ l. added_by f start bytes (bytes ++ now) ++ l) (sym (added-is f start (bytes ++ now) ((bytes ++ now) ++ more)))

-- a fault in what was fed
pub fed_fault : {W : Type 0} (w : Works W) (start : w.function.State) (bytes taken part rest piece : List ℕ) (reader next last : Reader) (work done : W) (old mid new : Option (List ℕ)) (answer : Option Fault) (fault : Fault)
    → Fed w start bytes taken reader work old mid → answer ≡ Some fault → taken ++ (part ++ rest) ≡ piece
    → ((bytes : List ℕ) (given : ℕ) → StandsFor reader bytes given → StandsFor next (bytes ++ part) given)
    → ((start : w.function.State) (bytes : List ℕ) (front : List Page) → Along w start next work bytes front → Gives w start bytes front last done mid new (Ok answer))
    → Feeds w start bytes (bytes ++ piece) last done old new (Ok (Some fault))
fed_fault w start bytes taken part rest piece reader next last work done old mid new answer fault h is split longer gives =
    let f = w.function in
    let now = bytes ++ taken in
    let g = subst (λ a. Gives w start (now ++ part) (accepted now) last done mid new (Ok a)) is (gives start (now ++ part) (accepted now) (along_more w start now part reader next work h.fed longer)) in
    let broken : fault_now (bytes ++ (taken ++ part)) ≡ Some fault = ap (fault_now) (sym (append_assoc bytes taken part)) ∙ g.0 in
    let text : added_by f start bytes ((bytes ++ (taken ++ part)) ++ rest) ≡ added_by f start bytes now ++ said_behind f start (accepted now) (accepted (now ++ part)) =
    added_longer f start bytes (taken ++ part) rest ∙ ap (λ l. added_by f start bytes (bytes ++ (taken ++ part)) ++ l) (added-none f start (bytes ++ (taken ++ part)) rest fault broken)
    ∙ append-nil (added_by f start bytes (bytes ++ (taken ++ part))) ∙ added_twice f start bytes taken part in
    subst (λ l. (fault_now l ≡ Some fault) × Appends old new (added_by f start bytes l)) (pieces bytes taken part rest piece split) (
      fault_stays (bytes ++ (taken ++ part)) rest fault broken,
      subst (Appends old new) (sym text) (Appends-trans old mid new (added_by f start bytes now) (said_behind f start (accepted now) (accepted (now ++ part))) h.added g.1),
    )

-- a write that failed
pub fed_failed : {W : Type 0} (w : Works W) (start : w.function.State) (bytes taken part rest piece : List ℕ) (reader next last : Reader) (work done : W) (old mid new : Option (List ℕ)) (failure : Failed)
    → Fed w start bytes taken reader work old mid → taken ++ (part ++ rest) ≡ piece
    → ((bytes : List ℕ) (given : ℕ) → StandsFor reader bytes given → StandsFor next (bytes ++ part) given)
    → ((start : w.function.State) (bytes : List ℕ) (front : List Page) → Along w start next work bytes front → Gives w start bytes front last done mid new (Err failure))
    → Feeds w start bytes (bytes ++ piece) last done old new (Err failure)
fed_failed w start bytes taken part rest piece reader next last work done old mid new failure h split longer gives =
    let f = w.function in
    let now = bytes ++ taken in
    let g = gives start (now ++ part) (accepted now) (along_more w start now part reader next work h.fed longer) in
    let front = then_front old mid new (added_by f start bytes now) (said_behind f start (accepted now) (accepted (now ++ part))) h.added g in
    let whole = bytes ++ (taken ++ part) in
    let text : added_by f start bytes (whole ++ rest) ≡ (added_by f start bytes now ++ said_behind f start (accepted now) (accepted (now ++ part))) ++ added_by f start whole (whole ++ rest) =
    added_longer f start bytes (taken ++ part) rest ∙ ap (λ l. l ++ added_by f start whole (whole ++ rest)) (added_twice f start bytes taken part) in
    subst (λ l. AppendsFront old new (added_by f start bytes l)) (pieces bytes taken part rest piece split) (subst (AppendsFront old new) (sym text)
    (longer_front old new (added_by f start bytes now ++ said_behind f start (accepted now) (accepted (now ++ part))) (added_by f start whole (whole ++ rest)) front))

-- where nothing is left to give there is room
pub settled_free : (r : Reader) (bytes : List ℕ) (given : ℕ) → StandsFor r bytes given → r.is_settled ≡ true → 1 ≤ free_room r
settled_free r bytes given s settled =
    let d = s.holds.drained settled in
    let short = need_short r bytes s.front d.sound d.need s.holds in
    omega arith

-- nothing was taken only where nothing was left
pub nothing_left : (r : Reader) (rest : List ℕ) (count : ℕ) → count ≡ min (length rest) (free_room r) → count ≡ 0 → 1 ≤ free_room r → rest ≡ []
nothing_left r rest count e zero free = no_byte rest (omega arith)
