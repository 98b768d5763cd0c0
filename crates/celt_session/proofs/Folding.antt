-- What pages one after the other give, and what more of them, or more bytes, add.
use Rattle.std.proofs.Common.{◌≡◌, ℕ, Bool, true, false, List, [], ◌∷◌, ◌++◌, length, drop, refl, sym, ◌∙◌, ap, append_assoc, append-nil, Option, Some, None}
use Rattle.std.specs.Prelude.{if◌then◌else◌}
use Rattle.std.proofs.Math.Seq.{drop-append_seam}
use Rattle.celt_base.specs.declared.status.Fault.{Fault}
use Rattle.ogg_pages.specs.Fields.{Page}
use Rattle.opus_stream.specs.Acceptance.{accepted, fault_of, is_end_name}
use Rattle.opus_stream.proofs.Prefixes.{accepted_more, stays}
use Rattle.celt_session.specs.Pages.{Heard, heard_at, heard_after}
use Rattle.celt_session.specs.PageFunctions.{PageFunction, state_after, says_of, said, running, full, added_by, lasting, fault_now}
use Rattle.celt_session.specs.Sessions.{said_behind}

-- ---- pages that are heard

pub heard-append : (before ps qs : List Page) → heard_after before (ps ++ qs) ≡ heard_after before ps ++ heard_after (before ++ ps) qs
unfolding heard_after
heard-append before [] qs = ap (λ l. heard_after l qs) (sym (append-nil before))
heard-append before (p ∷ ps) qs =
    ap (λ l. heard_at (before ++ p ∷ []) ∷ l) (heard-append (before ++ p ∷ []) ps qs ∙ ap (λ l. heard_after (before ++ p ∷ []) ps ++ heard_after l qs) (append_assoc before (p ∷ []) ps))

state-append : (f : PageFunction) (s : f.State) (xs ys : List Heard) → state_after f s (xs ++ ys) ≡ state_after f (state_after f s xs) ys
unfolding state_after
state-append f s [] ys = refl
state-append f s (x ∷ xs) ys = state-append f (f.next s x) xs ys

says-append : (f : PageFunction) (s : f.State) (xs ys : List Heard) → says_of f s (xs ++ ys) ≡ says_of f s xs ++ says_of f (state_after f s xs) ys
unfolding state_after says_of
says-append f s [] ys = refl
says-append f s (x ∷ xs) ys =
    ap (λ l. f.says s x ++ l) (says-append f (f.next s x) xs ys) ∙ sym (append_assoc (f.says s x) (says_of f (f.next s x) xs) (says_of f (state_after f (f.next s x) xs) ys))

-- ---- pages of a stream

-- what pages give behind others
pub text : (f : PageFunction) → f.State → List Page → List Page → List ℕ
text f start front more = says_of f (state_after f start (heard_after [] front)) (heard_after front more)

pub said-more : (f : PageFunction) (start : f.State) (front more : List Page) → said f start (front ++ more) ≡ said f start front ++ text f start front more
unfolding said text
said-more f start front more = ap (says_of f start) (heard-append [] front more) ∙ says-append f start (heard_after [] front) (heard_after front more)

pub none-said : (f : PageFunction) (start : f.State) → said f start [] ≡ []
unfolding said says_of heard_after
none-said f start = refl

-- ---- one page more

heard-one : (before : List Page) (p : Page) → heard_after before (p ∷ []) ≡ heard_at (before ++ p ∷ []) ∷ []
unfolding heard_after
heard-one before p = refl

pub state-one : (f : PageFunction) (start : f.State) (front : List Page) (p : Page)
    → state_after f start (heard_after [] (front ++ p ∷ [])) ≡ f.next (state_after f start (heard_after [] front)) (heard_at (front ++ p ∷ []))
unfolding state_after
state-one f start front p =
    ap (state_after f start) (heard-append [] front (p ∷ [])) ∙ state-append f start (heard_after [] front) (heard_after front (p ∷ []))
    ∙ ap (state_after f (state_after f start (heard_after [] front))) (heard-one front p)

-- what a page adds
pub said-one : (f : PageFunction) (start : f.State) (front : List Page) (p : Page)
    → said f start (front ++ p ∷ []) ≡ said f start front ++ f.says (state_after f start (heard_after [] front)) (heard_at (front ++ p ∷ []))
unfolding says_of heard_after text
said-one f start front p =
    said-more f start front (p ∷ []) ∙ ap (λ l. said f start front ++ l) (append-nil (f.says (state_after f start (heard_after [] front)) (heard_at (front ++ p ∷ []))))

-- ---- behind a front

behind_tail : (whole front tail : List ℕ) → whole ≡ front ++ tail → whole ≡ front ++ drop (length front) whole
behind_tail whole front tail e = e ∙ ap (λ l. front ++ l) (sym (ap (drop (length front)) e ∙ drop-append_seam front tail))

-- what pages give is what the first of them give, and what they give behind these
pub front-said : (f : PageFunction) (start : f.State) (front more pages : List Page) → pages ≡ front ++ more → said f start pages ≡ said f start front ++ said_behind f start front pages
front-said f start front more pages e =
    behind_tail (said f start pages) (said f start front) (text f start front more) (ap (said f start) e ∙ said-more f start front more)

pub behind-is : (f : PageFunction) (start : f.State) (front pages : List Page) (more : List ℕ) → said f start pages ≡ said f start front ++ more → said_behind f start front pages ≡ more
behind-is f start front pages more e = ap (drop (length (said f start front))) e ∙ drop-append_seam (said f start front) more

-- in two steps
pub behind-twice : (f : PageFunction) (start : f.State) (front now pages more rest : List Page) → now ≡ front ++ more → pages ≡ now ++ rest
    → said_behind f start front pages ≡ said_behind f start front now ++ said_behind f start now pages
behind-twice f start front now pages more rest e g =
    behind-is f start front pages (said_behind f start front now ++ said_behind f start now pages)
    (front-said f start now rest pages g ∙ ap (λ l. l ++ said_behind f start now pages) (front-said f start front more now e)
    ∙ append_assoc (said f start front) (said_behind f start front now) (said_behind f start now pages))

pub behind-none : (f : PageFunction) (start : f.State) (front : List Page) → said_behind f start front front ≡ []
behind-none f start front = behind-is f start front front [] (sym (append-nil (said f start front)))

-- ---- more bytes

pub running-is : (f : PageFunction) (start : f.State) (bytes : List ℕ) → running f start bytes ≡ said f start (accepted bytes)
unfolding running
running-is f start bytes = refl

pub added-is : (f : PageFunction) (start : f.State) (bytes now : List ℕ) → added_by f start bytes now ≡ said_behind f start (accepted bytes) (accepted now)
unfolding added_by running
added-is f start bytes now = refl

-- the law: what is written of a list is a front of what is written of each list that begins with it
pub running-front : (f : PageFunction) (start : f.State) (bytes more : List ℕ) → running f start (bytes ++ more) ≡ running f start bytes ++ added_by f start bytes (bytes ++ more)
unfolding running added_by
running-front f start bytes more =
    let a = accepted_more bytes more in
    front-said f start (accepted bytes) a.0 (accepted (bytes ++ more)) a.1

pub full-is : (f : PageFunction) (start : f.State) (bytes : List ℕ) → full f start bytes ≡ running f start bytes
unfolding full
full-is f start bytes = refl

-- ---- a fault that lasts

pub lasting_is : (fault : Option Fault) (f : Fault) → lasting fault ≡ Some f → (fault ≡ Some f) × (is_end_name f.name ≡ false)
lasting_is None f h = let g : ⊥ = cc in absurd g
lasting_is (Some fault) f h = by (is_end_name fault.name) refl where
  by : (b : Bool) → is_end_name fault.name ≡ b → (Some fault ≡ Some f) × (is_end_name f.name ≡ false)
  by true e = let g : None ≡ Some f = sym (ap (λ b. if b then None else Some fault) e) ∙ h in let x : ⊥ = cc in absurd x
  by false e =
      let g : Some fault ≡ Some f = sym (ap (λ b. if b then None else Some fault) e) ∙ h in
      let same : fault ≡ f = cc in
      (g, ap (λ (x : Fault). is_end_name x.name) (sym same) ∙ e)

-- behind a fault of the stream that lasts
pub record Lasts (f : PageFunction) (start : f.State) (bytes more : List ℕ) : Type 0 where
  pub fault : fault_of (bytes ++ more) ≡ fault_of bytes
  pub text : running f start (bytes ++ more) ≡ running f start bytes

pub lasts : (f : PageFunction) (start : f.State) (bytes more : List ℕ) (fault : Fault) → fault_now bytes ≡ Some fault → Lasts f start bytes more
unfolding running
lasts f start bytes more fault h =
    let l = lasting_is (fault_of bytes) fault h in
    let s = stays bytes more fault l.0 l.1 in
    record { fault = s.fault_is ∙ sym l.0; text = ap (said f start) s.pages }

pub fault_stays : (bytes more : List ℕ) (fault : Fault) → fault_now bytes ≡ Some fault → fault_now (bytes ++ more) ≡ Some fault
fault_stays bytes more fault h =
    let l = lasting_is (fault_of bytes) fault h in
    let s = stays bytes more fault l.0 l.1 in
    ap lasting (s.fault_is ∙ sym l.0) ∙ h

pub added-none : (f : PageFunction) (start : f.State) (bytes more : List ℕ) (fault : Fault) → fault_now bytes ≡ Some fault → added_by f start bytes (bytes ++ more) ≡ []
unfolding added_by
added-none f start bytes more fault h =
    let e : running f start (bytes ++ more) ≡ running f start bytes ++ [] = (lasts f start bytes more fault h).text ∙ sym (append-nil (running f start bytes)) in
    ap (drop (length (running f start bytes))) e ∙ drop-append_seam (running f start bytes) []
