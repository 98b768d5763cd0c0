-- What a reader of streams stands for, call by call.
use Rattle.std.proofs.Common.{◌≡◌, ℕ, ◌+◌, ◌-◌, ◌<◌, ◌≤◌, true, false, List, [], ◌∷◌, ◌++◌, length, take, drop, sum, nat_lt, refl, sym, ◌∙◌, ap, subst, arith, append_assoc, append-nil, length-append, length-drop, drop-drop, Option, Some, None, min, ◌⊎◌, inl, inr}
use Rattle.std.specs.Prelude.{slice_get, if◌then◌else◌}
use Rattle.std.specs.List.{slice_range}
use Rattle.std.proofs.Math.Seq.{take-append_seam}
use Rattle.std.proofs.lemmas.List.{take-append-le, drop-append-le, take-append-drop}
use Rattle.std.proofs.lemmas.List.Sums.{sum_by-append}
use Rattle.std.proofs.lemmas.Bool.{lt-ltb, le-ltb}
use Rattle.celt_base.specs.declared.status.Fault.{Fault}
use Rattle.celt_base.specs.declared.status.FaultName.TheVariants as names
use Rattle.ogg_pages.specs.declared.page.Verdict.{Verdict}
use Rattle.ogg_pages.specs.declared.page.Verdict.TheVariants as verdicts
use Rattle.ogg_pages.specs.declared.page.PageFault.{PageFault}
use Rattle.ogg_pages.specs.Verdicts.{verdict}
use Rattle.ogg_pages.specs.Fields.{Page, page_of}
use Rattle.ogg_pages.specs.Stream.{Stream, Cut, ending_by, ending_of, no_page, with_page, stream}
use Rattle.ogg_pages.proofs.Judged.{sound_of, cut_of, page_len-take}
use Rattle.ogg_pages.proofs.Lengths.{lacing-sum}
use Rattle.ogg_pages.proofs.ByteLists.{bytes-append, bytes-drop, bytes-take, bytes-nil}
use Rattle.ogg_pages.specs.Spelling.{AreBytes}
use Rattle.ogg_pages.proofs.Later.{whole_stays, page_of-take-append}
use Rattle.ogg_pages.proofs.Streams.{stream-Whole, stream-Need, stream-Fault, ending_of-Fault}
use Rattle.opus_stream.specs.declared.answers.Accept.TheVariants as answers
use Rattle.opus_stream.specs.declared.progress.Progress.{Progress}
use Rattle.opus_stream.specs.declared.accepting.Given.{Given}
use Rattle.opus_stream.specs.Rooms.{Kept}
use Rattle.opus_stream.specs.Tests.{is_ended, page_fault}
use Rattle.opus_stream.specs.Acceptance.{accepted_after, name_of, end_fault, fault_after, accepted, fault_of, is_end_name, answer_by, answer_of, end_by, end_fault_of, before_last, page_size, size_of, last_bytes, given_pages, last_packets, head_in}
use Rattle.opus_stream.specs.Audio.{fault_at}
use Rattle.opus_stream.specs.Progressing.{StandsAfter, IsNew}
use Rattle.opus_stream.specs.Accepted.{left_in, Gives, Accepts}
use Rattle.opus_stream.specs.Steps.{IsTaken}
use Rattle.opus_stream.specs.Readers.{Reader, onto, ArePassed, Resumes, Stopped, GoesOn, IsDrained, Holds, StandsFor}
use Rattle.opus_stream.proofs.Lasting.{accepted_one, accepted_stop, accepted_none, fault_stop, fault_none, passed_none, passed_next, page_lasts, name_lasts}
use Rattle.opus_stream.proofs.Placing.{size-next, before-next}
use Rattle.opus_stream.proofs.Sizes.{size}
use Rattle.opus_stream.proofs.Headers.{nothing}
use Rattle.opus_stream.proofs.Joining.{length-parts}
use Rattle.opus_stream.specs.Packets.{lengths_from}
use Rattle.opus_stream.specs.Tallies.{packets_on}
use Rattle.opus_stream.specs.Acceptance.{audio_in}

-- ---- the pages and the fault of the bytes so far

stream_now : (r : Reader) (bytes : List ℕ) (front : List Page) → Resumes r bytes front → stream bytes ≡ onto front (stream r.pages)
stream_now r bytes front h = ap stream (sym (append-nil bytes)) ∙ h.resumes [] ∙ ap (λ l. onto front (stream l)) (append-nil r.pages)

pub accepted_now : (r : Reader) (bytes : List ℕ) (front : List Page) → ArePassed front → Resumes r bytes front → accepted bytes ≡ front ++ accepted_after front (stream r.pages).pages
unfolding accepted
accepted_now r bytes front passed h = ap (λ (s : Stream). accepted_after [] s.pages) (stream_now r bytes front h) ∙ passed.pages (stream r.pages).pages

pub fault_now : (r : Reader) (bytes : List ℕ) (front : List Page) → ArePassed front → Resumes r bytes front → fault_of bytes ≡ fault_after front (stream r.pages).pages (stream r.pages).ending
unfolding fault_of
fault_now r bytes front passed h =
    ap (λ (s : Stream). fault_after [] s.pages s.ending) (stream_now r bytes front h) ∙ passed.fault (stream r.pages).pages (stream r.pages).ending

-- the given pages are the first of the accepted ones
pub record AreFirst (bytes : List ℕ) (front : List Page) : Type 0 where
  pub rest : List Page
  pub all : accepted bytes ≡ front ++ rest

first_by : (fault : Option Fault) (r : Reader) (bytes : List ℕ) (front : List Page) → ArePassed front → GoesOn fault r bytes front → AreFirst bytes front
first_by None r bytes front passed h = record { rest = accepted_after front (stream r.pages).pages; all = accepted_now r bytes front passed h }
first_by (Some fault) r bytes front passed h = record { rest = []; all = ap accepted (sym (append-nil bytes)) ∙ h.pages [] ∙ sym (append-nil front) }

pub first : (r : Reader) (bytes : List ℕ) (front : List Page) → Holds r bytes front → AreFirst bytes front
first r bytes front h = first_by r.fault r bytes front h.passed h.goes_on

pub front_is : (r : Reader) (bytes : List ℕ) (front : List Page) → Holds r bytes front → given_pages bytes (length front) ≡ front
front_is r bytes front h = let f = first r bytes front h in ap (take (length front)) f.all ∙ take-append_seam front f.rest

-- what is said of the pages that were given is said of the first accepted ones
pub given_is : (r : Reader) (bytes : List ℕ) (given : ℕ) (s : StandsFor r bytes given) → given_pages bytes given ≡ s.front
given_is r bytes given s = ap (given_pages bytes) (sym s.count) ∙ front_is r bytes s.front s.holds

-- ---- answers

no_more : (bytes : List ℕ) (front : List Page) → accepted bytes ≡ front → answer_of bytes (length front) ≡ answer_by (fault_of bytes)
unfolding answer_of
no_more bytes front h =
    let t : nat_lt (length front) (length (accepted bytes)) ≡ false = le-ltb (length front) (length (accepted bytes)) (let e = ap length h in omega arith) in
    ap (λ b. if b then answers.Page else answer_by (fault_of bytes)) t

one_more : (bytes : List ℕ) (front : List Page) (page : Page) (rest : List Page) → accepted bytes ≡ front ++ page ∷ rest → answer_of bytes (length front) ≡ answers.Page
unfolding answer_of
one_more bytes front page rest h =
    let t : nat_lt (length front) (length (accepted bytes)) ≡ true =
    lt-ltb (length front) (length (accepted bytes)) (let e = ap length h in let l = length-append front (page ∷ rest) in omega arith) in
    ap (λ b. if b then answers.Page else answer_by (fault_of bytes)) t

by_fault : (fault : Fault) → is_end_name fault.name ≡ false → answer_by (Some fault) ≡ answers.Fault fault
by_fault fault h = ap (λ b. if b then answers.Need else answers.Fault fault) h

-- a fault of a page that was refused before
pub stopped_answer : (r : Reader) (bytes : List ℕ) (front : List Page) (fault : Fault) → r.fault ≡ Some fault → Holds r bytes front → answer_of bytes (length front) ≡ answers.Fault fault
stopped_answer r bytes front fault e h =
    let s : Stopped fault bytes front = subst (λ f. GoesOn f r bytes front) e h.goes_on in
    no_more bytes front (ap accepted (sym (append-nil bytes)) ∙ s.pages [])
    ∙ ap answer_by (ap fault_of (sym (append-nil bytes)) ∙ s.fault_is []) ∙ by_fault fault s.lasting

resumes_of : (r : Reader) (bytes : List ℕ) (front : List Page) → r.fault ≡ None → Holds r bytes front → Resumes r bytes front
resumes_of r bytes front e h = subst (λ f. GoesOn f r bytes front) e h.goes_on

-- no page begins in what is held
bare : (r : Reader) (bytes : List ℕ) (front : List Page) → ArePassed front → Resumes r bytes front → stream r.pages ≡ no_page r.pages
    → (accepted bytes ≡ front) × (fault_of bytes ≡ end_fault (is_ended front) (length front) (ending_of r.pages))
bare r bytes front passed h none = (
  accepted_now r bytes front passed h ∙ ap (λ (s : Stream). front ++ accepted_after front s.pages) none ∙ ap (λ l. front ++ l) (accepted_none front) ∙ append-nil front,
  fault_now r bytes front passed h ∙ ap (λ (s : Stream). fault_after front s.pages s.ending) none ∙ fault_none front (ending_of r.pages),
)

need_open : (number : ℕ) (bytes : List ℕ) → verdict bytes ≡ verdicts.Need → end_fault false number (ending_of bytes) ≡ Some (fault_at names.Truncated number)
need_open number [] h = refl
need_open number (byte ∷ bytes) h = ap (λ v. end_fault false number (ending_by v)) h

pub need_answer : (r : Reader) (bytes : List ℕ) (front : List Page) → r.fault ≡ None → r.progress.is_ended ≡ false → verdict r.pages ≡ verdicts.Need → Holds r bytes front
    → answer_of bytes (length front) ≡ answers.Need
need_answer r bytes front sound going v h =
    let b = bare r bytes front h.passed (resumes_of r bytes front sound h) (stream-Need r.pages v) in
    let e : is_ended front ≡ false = sym h.progress.placed.ended ∙ going in
    no_more bytes front b.0
    ∙ ap answer_by (b.1 ∙ ap (λ t. end_fault t (length front) (ending_of r.pages)) e ∙ need_open (length front) r.pages v)

pub broken_answer : (r : Reader) (bytes : List ℕ) (front : List Page) (fault : PageFault) → r.fault ≡ None → r.progress.is_ended ≡ false → verdict r.pages ≡ verdicts.Fault fault → Holds r bytes front
    → answer_of bytes (length front) ≡ answers.Fault (fault_at (name_of fault) r.progress.pages)
broken_answer r bytes front fault sound going v h =
    let b = bare r bytes front h.passed (resumes_of r bytes front sound h) (stream-Fault r.pages fault v) in
    let e : is_ended front ≡ false = sym h.progress.placed.ended ∙ going in
    no_more bytes front b.0
    ∙ ap answer_by (b.1 ∙ ap (λ t. end_fault t (length front) (ending_of r.pages)) e ∙ ap (end_fault false (length front)) (ending_of-Fault r.pages fault v))
    ∙ by_fault (fault_at (name_of fault) (length front)) (name_lasts fault)
    ∙ ap (λ n. answers.Fault (fault_at (name_of fault) n)) (sym h.progress.placed.pages)

-- ---- behind the last page

ended_page : (front : List Page) (page : Page) → is_ended front ≡ true → page_fault front page ≡ Some (fault_at names.AfterEnd (length front))
unfolding page_fault
ended_page front page e = rw e refl

ended_held : (r : Reader) (bytes : List ℕ) (front : List Page) (byte : ℕ) (held : List ℕ) (v : Verdict) → r.pages ≡ byte ∷ held → verdict r.pages ≡ v → is_ended front ≡ true → ArePassed front → Resumes r bytes front
    → (accepted bytes ≡ front) × (fault_of bytes ≡ Some (fault_at names.AfterEnd (length front)))
ended_held r bytes front byte held (verdicts.Whole n) some v e passed h =
    let page = page_of (take n r.pages) in
    let s : stream r.pages ≡ with_page page (stream (drop n r.pages)) = stream-Whole r.pages n v in
    let broken = ended_page front page e in (
      accepted_now r bytes front passed h ∙ ap (λ (s : Stream). front ++ accepted_after front s.pages) s
          ∙ ap (λ l. front ++ l) (accepted_stop front page (stream (drop n r.pages)).pages (fault_at names.AfterEnd (length front)) broken) ∙ append-nil front,
      fault_now r bytes front passed h ∙ ap (λ (s : Stream). fault_after front s.pages s.ending) s
          ∙ fault_stop front page (stream (drop n r.pages)).pages (stream (drop n r.pages)).ending (fault_at names.AfterEnd (length front)) broken,
    )
ended_held r bytes front byte held verdicts.Need some v e passed h =
    let b = bare r bytes front passed h (stream-Need r.pages v) in
    let w : verdict (byte ∷ held) ≡ verdicts.Need = ap verdict (sym some) ∙ v in
    let ending : ending_of r.pages ≡ Cut = ap ending_of some ∙ ap ending_by w in
    (b.0, b.1 ∙ ap (λ t. end_fault t (length front) (ending_of r.pages)) e ∙ ap (end_fault true (length front)) ending)
ended_held r bytes front byte held (verdicts.Fault fault) some v e passed h =
    let b = bare r bytes front passed h (stream-Fault r.pages fault v) in
    (b.0, b.1 ∙ ap (λ t. end_fault t (length front) (ending_of r.pages)) e ∙ ap (end_fault true (length front)) (ending_of-Fault r.pages fault v))

some_byte : (xs : List ℕ) → 0 < length xs → (byte : ℕ) × (held : List ℕ) × (xs ≡ byte ∷ held)
some_byte [] h = absurd (omega arith)
some_byte (x ∷ xs) h = (x, xs, refl)

pub no_byte : (xs : List ℕ) → length xs ≤ 0 → xs ≡ []
no_byte [] h = refl
no_byte (x ∷ xs) h = absurd (omega arith)

pub after_answer : (r : Reader) (bytes : List ℕ) (front : List Page) → r.fault ≡ None → r.progress.is_ended ≡ true → 0 < length r.pages → Holds r bytes front
    → answer_of bytes (length front) ≡ answers.Fault (fault_at names.AfterEnd r.progress.pages)
after_answer r bytes front sound ended some h =
    let x = some_byte r.pages some in
    let e : is_ended front ≡ true = sym h.progress.placed.ended ∙ ended in
    let b = ended_held r bytes front x.0 x.1 (verdict r.pages) x.2 refl e h.passed (resumes_of r bytes front sound h) in
    no_more bytes front b.0 ∙ ap answer_by b.1 ∙ ap (λ n. answers.Fault (fault_at names.AfterEnd n)) (sym h.progress.placed.pages)

nothing_verdict : verdict [] ≡ verdicts.Need
unfolding verdict Rattle.ogg_pages.specs.Verdicts.captures
nothing_verdict = refl

ended_bare : (r : Reader) (bytes : List ℕ) (front : List Page) → r.fault ≡ None → r.progress.is_ended ≡ true → r.pages ≡ [] → Holds r bytes front
    → (accepted bytes ≡ front) × (fault_of bytes ≡ None)
ended_bare r bytes front sound ended none h =
    let v : verdict r.pages ≡ verdicts.Need = ap verdict none ∙ nothing_verdict in
    let b = bare r bytes front h.passed (resumes_of r bytes front sound h) (stream-Need r.pages v) in
    let e : is_ended front ≡ true = sym h.progress.placed.ended ∙ ended in
    (b.0, b.1 ∙ ap (λ t. end_fault t (length front) (ending_of r.pages)) e ∙ ap (λ l. end_fault true (length front) (ending_of l)) none)

pub ended_answer : (r : Reader) (bytes : List ℕ) (front : List Page) → r.fault ≡ None → r.progress.is_ended ≡ true → r.pages ≡ [] → Holds r bytes front
    → answer_of bytes (length front) ≡ answers.Need
ended_answer r bytes front sound ended none h =
    let b = ended_bare r bytes front sound ended none h in
    no_more bytes front b.0 ∙ ap answer_by b.1

-- ---- the fault of the end

pub end_open : (r : Reader) (bytes : List ℕ) (front : List Page) → r.is_settled ≡ true → r.progress.is_ended ≡ false → Holds r bytes front
    → Some (fault_at names.Truncated r.progress.pages) ≡ end_fault_of bytes
unfolding end_fault_of
end_open r bytes front settled going h =
    let d = h.drained settled in
    let b = bare r bytes front h.passed (resumes_of r bytes front d.sound h) (stream-Need r.pages d.need) in
    let e : is_ended front ≡ false = sym h.progress.placed.ended ∙ going in
    sym (ap end_by (b.1 ∙ ap (λ t. end_fault t (length front) (ending_of r.pages)) e ∙ need_open (length front) r.pages d.need)
    ∙ ap (λ n. Some (fault_at names.Truncated n)) (sym h.progress.placed.pages))

pub end_done : (r : Reader) (bytes : List ℕ) (front : List Page) → r.is_settled ≡ true → r.progress.is_ended ≡ true → Holds r bytes front → None ≡ end_fault_of bytes
unfolding end_fault_of
end_done r bytes front settled ended h =
    let d = h.drained settled in
    sym (ap end_by (ended_bare r bytes front d.sound ended (d.none ended) h).1)

-- ---- a page

page_first : (held view : List ℕ) → IsTaken held (drop (length view) held) view → stream held ≡ with_page (page_of view) (stream (drop (length view) held))
page_first held view t = stream-Whole held (length view) t.whole ∙ ap (λ l. with_page (page_of l) (stream (drop (length view) held))) (sym t.first)

view_size : (held view : List ℕ) → verdict held ≡ verdicts.Whole (length view) → view ≡ take (length view) held → length view ≡ page_size (page_of view)
view_size held view v first =
    let s = sound_of held (length view) v in
    let l = page_len-take held (length view) s.length_is s.inside in
    size view (ap Rattle.ogg_pages.specs.Bounds.page_len first ∙ l)

pub page_answer : (r : Reader) (bytes view behind : List ℕ) (front : List Page) → r.fault ≡ None → IsTaken r.pages behind view → page_fault front (page_of view) ≡ None → Holds r bytes front
    → answer_of bytes (length front) ≡ answers.Page
page_answer r bytes view behind front sound t passes h =
    let page = page_of view in
    let s = page_first r.pages view (record { whole = t.whole; first = t.first; behind = refl }) in
    one_more bytes front page (accepted_after (front ++ page ∷ []) (stream (drop (length view) r.pages)).pages)
    (accepted_now r bytes front h.passed (resumes_of r bytes front sound h) ∙ ap (λ (s : Stream). front ++ accepted_after front s.pages) s
    ∙ ap (λ l. front ++ l) (accepted_one front page (stream (drop (length view) r.pages)).pages passes))

pub refused_answer : (r : Reader) (bytes view behind : List ℕ) (front : List Page) (fault : Fault) → r.fault ≡ None → IsTaken r.pages behind view → page_fault front (page_of view) ≡ Some fault → Holds r bytes front
    → answer_of bytes (length front) ≡ answers.Fault fault
refused_answer r bytes view behind front fault sound t refuses h =
    let page = page_of view in
    let s = page_first r.pages view (record { whole = t.whole; first = t.first; behind = refl }) in
    let more = (stream (drop (length view) r.pages)).pages in
    let g = resumes_of r bytes front sound h in
    no_more bytes front (accepted_now r bytes front h.passed g ∙ ap (λ (s : Stream). front ++ accepted_after front s.pages) s
    ∙ ap (λ l. front ++ l) (accepted_stop front page more fault refuses) ∙ append-nil front)
    ∙ ap answer_by (fault_now r bytes front h.passed g ∙ ap (λ (s : Stream). fault_after front s.pages s.ending) s
    ∙ fault_stop front page more (stream (drop (length view) r.pages)).ending fault refuses)
    ∙ by_fault fault (page_lasts front page fault refuses)

-- a page that was given is held no longer
pub page_shorter : (held behind view : List ℕ) → IsTaken held behind view → length behind < length held
page_shorter held behind view t =
    let s = sound_of held (length view) t.whole in
    let inside = s.inside in
    let long = s.length_is in
    let e : length behind ≡ length held - length view = ap length t.behind ∙ length-drop (length view) held in
    omega arith

-- the page before more bytes
page_then : (held view more : List ℕ) → verdict held ≡ verdicts.Whole (length view) → view ≡ take (length view) held
    → stream (held ++ more) ≡ with_page (page_of view) (stream (drop (length view) held ++ more))
page_then held view more v first =
    let n = length view in
    let s = sound_of held n v in
    stream-Whole (held ++ more) n (whole_stays held more n v)
    ∙ ap (λ p. with_page p (stream (drop n (held ++ more)))) (page_of-take-append held more n s.inside ∙ ap page_of (sym first))
    ∙ ap (λ l. with_page (page_of view) (stream l)) (drop-append-le n held more s.inside)

onto-page : (front : List Page) (page : Page) (s : Stream) → onto front (with_page page s) ≡ onto (front ++ page ∷ []) s
onto-page front page s = ap (λ l. record { pages = l; ending = s.ending }) (sym (append_assoc front (page ∷ []) s.pages))

-- the bytes of the page stand behind those of the pages before it
last_is : (bytes : List ℕ) (front : List Page) (p : Page) (held view : List ℕ) (n : ℕ) → size_of (front ++ p ∷ []) ≡ size_of front + n → drop (size_of front) bytes ≡ held → view ≡ take n held
    → view ≡ last_bytes bytes (front ++ p ∷ [])
unfolding last_bytes
last_is bytes front p held view n total behind first =
    let a : size_of (before_last (front ++ p ∷ [])) ≡ size_of front = ap size_of (before-next front p) in
    let len : n ≡ size_of (front ++ p ∷ []) - size_of front = omega arith in
    first ∙ ap (take n) (sym behind)
    ∙ ap (λ k. take k (drop (size_of front) bytes)) len
    ∙ ap (λ k. slice_range bytes k (size_of (front ++ p ∷ []))) (sym a)

-- after an accepted page
pub page_holds : (r next : Reader) (bytes view behind : List ℕ) (front : List Page) → r.fault ≡ None → IsTaken r.pages behind view → Holds r bytes front
    → page_fault front (page_of view) ≡ None → StandsAfter next.progress (left_in next.room) (front ++ page_of view ∷ []) → Gives next.given next.room (page_of view) (front ++ page_of view ∷ [])
    → next.pages ≡ behind → next.page ≡ view → next.fed ≡ r.fed → next.fault ≡ None → next.is_settled ≡ false
    → Holds next bytes (front ++ page_of view ∷ [])
page_holds r next bytes view behind front sound t h passes stands gives pages page fed fault settled =
    let p = page_of view in
    let now = front ++ p ∷ [] in
    let n = length view in
    let g = resumes_of r bytes front sound h in
    let len : n ≡ page_size p = view_size r.pages view t.whole t.first in
    let total : size_of now ≡ size_of front + n = size-next front p ∙ ap (λ k. size_of front + k) (sym len) in
    let inside = (sound_of r.pages n t.whole).inside in
    let held : length r.pages ≡ length bytes - size_of front = ap length (sym g.behind) ∙ length-drop (size_of front) bytes in
    let before = h.inside in
    record {
      fed = fed ∙ h.fed;
      small = h.small;
      inside = omega arith;
      passed = passed_next front p h.passed passes;
      progress = stands;
      page = page ∙ last_is bytes front p r.pages view n total g.behind t.first;
      gives = subst (λ l. Gives next.given next.room (page_of l) now) (sym page) gives;
      goes_on = subst (λ f. GoesOn f next bytes now) (sym fault) (record {
        behind = ap (λ k. drop k bytes) total ∙ sym (drop-drop n (size_of front) bytes) ∙ ap (drop n) g.behind ∙ sym (pages ∙ t.behind);
        resumes = λ more. g.resumes more ∙ ap (onto front) (page_then r.pages view more t.whole t.first) ∙ onto-page front p (stream (drop n r.pages ++ more))
            ∙ ap (λ l. onto now (stream (l ++ more))) (sym (pages ∙ t.behind));
      });
      drained = λ s. let f : ⊥ = cc in absurd f;
    }

stops_pages : (bytes more : List ℕ) (front : List Page) (s : Stream) (p : Page) (fault : Fault) → ArePassed front → stream (bytes ++ more) ≡ onto front (with_page p s) → page_fault front p ≡ Some fault
    → accepted (bytes ++ more) ≡ front
unfolding accepted
stops_pages bytes more front s p fault passed e refuses =
    ap (λ (t : Stream). accepted_after [] t.pages) e ∙ passed.pages (p ∷ s.pages) ∙ ap (λ l. front ++ l) (accepted_stop front p s.pages fault refuses) ∙ append-nil front

stops_fault : (bytes more : List ℕ) (front : List Page) (s : Stream) (p : Page) (fault : Fault) → ArePassed front → stream (bytes ++ more) ≡ onto front (with_page p s) → page_fault front p ≡ Some fault
    → fault_of (bytes ++ more) ≡ Some fault
unfolding fault_of
stops_fault bytes more front s p fault passed e refuses =
    ap (λ (t : Stream). fault_after [] t.pages t.ending) e ∙ passed.fault (p ∷ s.pages) s.ending ∙ fault_stop front p s.pages s.ending fault refuses

-- after a page that was refused
pub refused_holds : (r next : Reader) (bytes view behind : List ℕ) (front : List Page) (fault : Fault) → r.fault ≡ None → r.progress.is_ended ≡ false → IsTaken r.pages behind view → Holds r bytes front
    → page_fault front (page_of view) ≡ Some fault
    → next.progress ≡ r.progress → next.given ≡ r.given → next.room.given ≡ r.room.given → next.room.left ≡ r.room.left → next.page ≡ r.page → next.fed ≡ r.fed → next.fault ≡ Some fault → next.is_settled ≡ false
    → Holds next bytes front
refused_holds r next bytes view behind front fault sound going t h refuses progress given room left page fed fault_is settled =
    let p = page_of view in
    let g = resumes_of r bytes front sound h in
    let left_same : left_in r.room ≡ left_in next.room = ap (λ n. drop n r.room.given) (sym left) ∙ ap (drop next.room.left) (sym room) in
    record {
      fed = fed ∙ h.fed;
      small = h.small;
      inside = h.inside;
      passed = h.passed;
      progress = subst (λ q. StandsAfter q (left_in next.room) front) (sym progress) (subst (λ l. StandsAfter r.progress l front) left_same h.progress);
      page = page ∙ h.page;
      gives = gives_same r.given next.given r.room next.room r.page next.page front given room page h.gives;
      goes_on = subst (λ f. GoesOn f next bytes front) (sym fault_is) (record {
        going = sym h.progress.placed.ended ∙ going;
        lasting = page_lasts front p fault refuses;
        pages = λ more. stops_pages bytes more front (stream (drop (length view) r.pages ++ more)) p fault h.passed
            (g.resumes more ∙ ap (onto front) (page_then r.pages view more t.whole t.first)) refuses;
        fault_is = λ more. stops_fault bytes more front (stream (drop (length view) r.pages ++ more)) p fault h.passed
            (g.resumes more ∙ ap (onto front) (page_then r.pages view more t.whole t.first)) refuses;
      });
      drained = λ s. let f : ⊥ = cc in absurd f;
    }
  where
    gives_same : (old now : Given) (a b : Kept) (x y : List ℕ) (front : List Page) → now ≡ old → b.given ≡ a.given → y ≡ x → Gives old a (page_of x) front → Gives now b (page_of y) front
    gives_same old now a b x y front e f g h =
        subst (λ l. Gives now b (page_of l) front) (sym g) (subst (λ o. Gives o b (page_of x) front) (sym e)
        (record { packets = subst (λ l. Rattle.opus_stream.specs.Accepted.Stands old.packets (page_of x).lacing old.before l (last_packets front)) (sym f) h.packets; span = h.span }))

-- where nothing but the last answer changed
pub settled_holds : (r next : Reader) (bytes : List ℕ) (front : List Page) → Holds r bytes front → next.pages ≡ r.pages → next.progress ≡ r.progress → next.given ≡ r.given → next.room ≡ r.room → next.page ≡ r.page
    → next.fed ≡ r.fed → next.fault ≡ r.fault → (next.is_settled ≡ true → IsDrained next) → Holds next bytes front
settled_holds r next bytes front h pages progress given room page fed fault drained = record {
  fed = fed ∙ h.fed;
  small = h.small;
  inside = h.inside;
  passed = h.passed;
  progress = subst (λ q. StandsAfter q (left_in next.room) front) (sym progress) (subst (λ k. StandsAfter r.progress (left_in k) front) (sym room) h.progress);
  page = page ∙ h.page;
  gives = subst (λ l. Gives next.given next.room (page_of l) front) (sym page) (subst (λ o. Gives o next.room (page_of r.page) front) (sym given) (subst (λ k. Gives r.given k (page_of r.page) front) (sym room) h.gives));
  goes_on = subst (λ f. GoesOn f next bytes front) (sym fault) (same r.fault h.goes_on);
  drained = drained;
}
  where
    same : (f : Option Fault) → GoesOn f r bytes front → GoesOn f next bytes front
    same None g = record { behind = g.behind ∙ sym pages; resumes = λ more. g.resumes more ∙ ap (λ l. onto front (stream (l ++ more))) (sym pages) }
    same (Some x) g = g

-- ---- more bytes

size-take : (n : ℕ) (pages : List Page) → size_of (take n pages) ≤ size_of pages
size-take n pages =
    let e : size_of (take n pages ++ drop n pages) ≡ size_of (take n pages) + size_of (drop n pages) = sum_by-append page_size (take n pages) (drop n pages) in
    let f : size_of (take n pages ++ drop n pages) ≡ size_of pages = ap size_of (take-append-drop n pages) in
    omega arith

pub last_bytes-more : (bytes more : List ℕ) (front : List Page) → size_of front ≤ length bytes → last_bytes (bytes ++ more) front ≡ last_bytes bytes front
unfolding last_bytes
last_bytes-more bytes more front h =
    let a = size_of (before_last front) in
    let b = size_of front in
    let order : a ≤ b = size-take (length front - 1) front in
    ap (take (b - a)) (drop-append-le a bytes more (omega arith)) ∙ take-append-le (b - a) (drop a bytes) more (simp length-drop (omega arith))

pub fed_holds : (r next : Reader) (bytes more : List ℕ) (front : List Page) → Holds r bytes front → AreBytes more → next.pages ≡ r.pages ++ more → next.progress ≡ r.progress → next.given ≡ r.given → next.room ≡ r.room → next.page ≡ r.page
    → next.fed ≡ r.fed + length more → next.fault ≡ r.fault → (next.is_settled ≡ true → (r.is_settled ≡ true) × (more ≡ [])) → Holds next (bytes ++ more) front
fed_holds r next bytes more front h more_small pages progress given room page fed fault settled =
    let l : length (bytes ++ more) ≡ length bytes + length more = length-append bytes more in
    let inside = h.inside in
    record {
      fed = fed ∙ ap (λ n. n + length more) h.fed ∙ sym l;
      small = bytes-append bytes more h.small more_small;
      inside = omega arith;
      passed = h.passed;
      progress = subst (λ q. StandsAfter q (left_in next.room) front) (sym progress) (subst (λ k. StandsAfter r.progress (left_in k) front) (sym room) h.progress);
      page = page ∙ h.page ∙ sym (last_bytes-more bytes more front h.inside);
      gives = subst (λ l. Gives next.given next.room (page_of l) front) (sym page) (subst (λ o. Gives o next.room (page_of r.page) front) (sym given) (subst (λ k. Gives r.given k (page_of r.page) front) (sym room) h.gives));
      goes_on = subst (λ f. GoesOn f next (bytes ++ more) front) (sym fault) (same r.fault h.goes_on);
      drained = λ s. let d = h.drained (settled s).0 in still d (pages ∙ ap (λ l. r.pages ++ l) (settled s).1 ∙ append-nil r.pages);
    }
  where
    still : IsDrained r → next.pages ≡ r.pages → IsDrained next
    still d same_pages = record {
      sound = fault ∙ d.sound;
      need = ap verdict same_pages ∙ d.need;
      none = λ e. same_pages ∙ d.none (sym (ap (λ (p : Progress). p.is_ended) progress) ∙ e);
    }

    same : (f : Option Fault) → GoesOn f r bytes front → GoesOn f next (bytes ++ more) front
    same None g = record {
      behind = drop-append-le (size_of front) bytes more h.inside ∙ ap (λ l. l ++ more) g.behind ∙ sym pages;
      resumes = λ later. ap stream (append_assoc bytes more later) ∙ g.resumes (more ++ later)
          ∙ ap (λ l. onto front (stream l)) (sym (append_assoc r.pages more later)) ∙ ap (λ l. onto front (stream (l ++ later))) (sym pages);
    }
    same (Some x) g = record {
      going = g.going;
      lasting = g.lasting;
      pages = λ later. ap accepted (append_assoc bytes more later) ∙ g.pages (more ++ later);
      fault_is = λ later. ap fault_of (append_assoc bytes more later) ∙ g.fault_is (more ++ later);
    }

-- ---- where no page is left

pub drained_end : (r next : Reader) → r.fault ≡ None → r.pages ≡ [] → next.fault ≡ r.fault → next.pages ≡ r.pages → IsDrained next
drained_end r next sound none fault pages = record {
  sound = fault ∙ sound;
  need = ap verdict (pages ∙ none) ∙ nothing_verdict;
  none = λ e. pages ∙ none;
}

pub drained_need : (r next : Reader) → r.fault ≡ None → r.progress.is_ended ≡ false → verdict r.pages ≡ verdicts.Need → next.pages ≡ r.pages → next.fault ≡ r.fault → next.progress ≡ r.progress → IsDrained next
drained_need r next sound going need pages fault progress = record {
  sound = fault ∙ sound;
  need = ap verdict pages ∙ need;
  none = λ e. let f : true ≡ false = sym e ∙ ap (λ (p : Progress). p.is_ended) progress ∙ going in let g : ⊥ = cc in absurd g;
}

-- ---- a new reader

none_size : size_of [] ≡ 0
none_size = refl

nothing_read : last_bytes [] [] ≡ []
unfolding last_bytes
nothing_read = refl

nothing_before : (bytes : List ℕ) → last_bytes bytes [] ≡ []
unfolding last_bytes
nothing_before bytes = refl

nothing_head : None ≡ head_in []
unfolding head_in
nothing_head = refl

nothing_open : false ≡ Rattle.opus_stream.specs.Packets.is_open []
unfolding Rattle.opus_stream.specs.Packets.is_open
nothing_open = refl

fresh_progress : (p : Progress) → IsNew p → StandsAfter p [] []
fresh_progress p new = record {
  placed = record {
    pages = new.pages;
    bytes = new.bytes;
    numbers = tt;
    opened = new.opened ∙ nothing_open;
    ended = new.ended;
    head = new.head ∙ nothing_head;
    tagged = new.tagged;
  };
  read = record { packets = new.packets; samples = new.samples; base = new.base; left_is = refl };
}

refl_audio : audio_in [] ≡ []
unfolding Rattle.opus_stream.specs.Tests.behind_tags
refl_audio = refl

-- what a reader without a given page holds
pub fresh_holds : (r : Reader) (bytes : List ℕ) → AreBytes bytes → IsNew r.progress → r.given ≡ record { packets = 0; before = 0; written = record { from = 0; to = 0 } } → r.room ≡ record { given = []; offered = []; left = 0 } → r.page ≡ []
    → r.pages ≡ bytes → r.fed ≡ length bytes → r.fault ≡ None → (r.is_settled ≡ true → bytes ≡ []) → Holds r bytes []
fresh_holds r bytes small new given room page pages fed fault settled = record {
  fed = fed;
  small = small;
  inside = omega (arith, none_size);
  passed = passed_none;
  progress = subst (λ k. StandsAfter r.progress (left_in k) []) (sym room) (fresh_progress r.progress new);
  page = page ∙ sym (nothing_before bytes);
  gives = subst (λ o. Gives o r.room (page_of r.page) []) (sym given) (nothing 0 0 r.room (page_of r.page) [] refl_audio);
  goes_on = subst (λ f. GoesOn f r bytes []) (sym fault) (record { behind = sym pages; resumes = λ more. ap (λ l. stream (l ++ more)) (sym pages) });
  drained = λ s. record { sound = fault; need = ap verdict (pages ∙ settled s) ∙ nothing_verdict; none = λ e. pages ∙ settled s };
}

pub fresh : (r : Reader) (bytes : List ℕ) → AreBytes bytes → IsNew r.progress → r.given ≡ record { packets = 0; before = 0; written = record { from = 0; to = 0 } } → r.room ≡ record { given = []; offered = []; left = 0 } → r.page ≡ []
    → r.pages ≡ bytes → r.fed ≡ length bytes → r.fault ≡ None → (r.is_settled ≡ true → bytes ≡ []) → StandsFor r bytes 0
fresh r bytes small new given room page pages fed fault settled = record { front = []; count = refl; holds = fresh_holds r bytes small new given room page pages fed fault settled }

held_small : (r : Reader) (bytes : List ℕ) (front : List Page) → Resumes r bytes front → AreBytes bytes → AreBytes r.pages
held_small r bytes front g small = subst AreBytes g.behind (bytes-drop (size_of front) bytes small)

-- a reader that begins again
pub restarted : (r next : Reader) (bytes : List ℕ) (front : List Page) → r.progress.is_ended ≡ true → Holds r bytes front
    → IsNew next.progress → next.given ≡ record { packets = 0; before = 0; written = record { from = 0; to = 0 } } → next.room ≡ record { given = []; offered = []; left = 0 } → next.page ≡ []
    → next.pages ≡ r.pages → next.fed ≡ length r.pages → next.fault ≡ None → (next.is_settled ≡ true → length r.pages ≡ 0) → StandsFor next (drop (size_of front) bytes) 0
restarted r next bytes front ended h new given room page pages fed fault settled =
    let g = resumes_by r.fault r bytes front (sym h.progress.placed.ended ∙ ended) h.goes_on in
    subst (λ l. StandsFor next l 0) (sym g.behind) (fresh next r.pages (held_small r bytes front g h.small) new given room page pages fed fault (λ s. no_byte r.pages (omega (arith, settled s))))
  where
    resumes_by : (f : Option Fault) (r : Reader) (bytes : List ℕ) (front : List Page) → is_ended front ≡ true → GoesOn f r bytes front → Resumes r bytes front
    resumes_by None r bytes front e g = g
    resumes_by (Some fault) r bytes front e g = let f : true ≡ false = sym e ∙ g.going in let x : ⊥ = cc in absurd x

-- ---- a packet

pub packet_there : (r : Reader) (bytes : List ℕ) (front : List Page) (i before : ℕ) (packet lacing : List ℕ) → i < r.given.packets → Holds r bytes front → before ≡ min r.given.before (length r.room.given) → lacing ≡ Rattle.ogg_pages.specs.Bounds.lacing_of r.page
    → (length r.room.given ≡ before + sum lacing → i < length (lengths_from before lacing) → slice_get (packets_on lacing r.room.given before) i ≡ Some packet)
    → slice_get (last_packets front) i ≡ Some packet
packet_there r bytes front i before packet lacing inside h before_is lacing_is there = by_count h.gives.packets.0 h.gives.packets.1 where
  by_count : r.given.packets ≡ length (last_packets front)
      → ((r.given.packets ≡ 0) ⊎ ((last_packets front ≡ packets_on (page_of r.page).lacing r.room.given r.given.before) × (length r.room.given ≡ r.given.before + sum (page_of r.page).lacing)))
      → slice_get (last_packets front) i ≡ Some packet
  by_count count (inl none) = absurd (omega arith)
  by_count count (inr is) =
      let same : before ≡ r.given.before = let e = is.1 in omega arith in
      let all : length r.room.given ≡ before + sum lacing = is.1 ∙ ap (λ n. n + sum (page_of r.page).lacing) (sym same) ∙ ap (λ l. before + sum l) (sym lacing_is) in
      let packets : last_packets front ≡ packets_on lacing r.room.given before =
      is.0 ∙ ap (λ n. packets_on (page_of r.page).lacing r.room.given n) (sym same) ∙ ap (λ l. packets_on l r.room.given before) (sym lacing_is) in
      let many : length (last_packets front) ≡ length (lengths_from before lacing) = ap length packets ∙ length-parts (lengths_from before lacing) r.room.given in
      ap (λ l. slice_get l i) packets ∙ there all (omega arith)

-- less than a page is shorter than the longest page
pub cut_short : (held : List ℕ) → AreBytes held → verdict held ≡ verdicts.Need → length held < 65307
cut_short held small v =
    let c = cut_of held v in
    let short = c.short in
    let s = small 26 in
    let l = lacing-sum held small in
    omega arith

pub need_short : (r : Reader) (bytes : List ℕ) (front : List Page) → r.fault ≡ None → verdict r.pages ≡ verdicts.Need → Holds r bytes front → length r.pages < 65307
need_short r bytes front sound v h = cut_short r.pages (held_small r bytes front (resumes_of r bytes front sound h) h.small) v

-- a settled reader has room for a byte
pub settled_free : (r : Reader) (bytes : List ℕ) (given : ℕ) → StandsFor r bytes given → r.is_settled ≡ true → 1 ≤ 65307 - length r.pages
settled_free r bytes given s settled =
    let d = s.holds.drained settled in
    let short = need_short r bytes s.front d.sound d.need s.holds in
    omega arith

-- what is behind a page is bytes
pub behind_small : (held behind view : List ℕ) → IsTaken held behind view → AreBytes held → AreBytes behind
behind_small held behind view t small = subst AreBytes (sym t.behind) (bytes-drop (length view) held small)

-- bytes that are taken of a piece are bytes
pub taken_small : (n : ℕ) (piece : List ℕ) → AreBytes piece → AreBytes (take n piece)
taken_small n piece small = bytes-take n piece small

pub none_small : AreBytes []
none_small = bytes-nil

pub begins_again : (r next : Reader) (bytes : List ℕ) (given : ℕ) → StandsFor r bytes given → r.progress.is_ended ≡ true
    → IsNew next.progress → next.given ≡ record { packets = 0; before = 0; written = record { from = 0; to = 0 } } → next.room ≡ record { given = []; offered = []; left = 0 } → next.page ≡ []
    → next.pages ≡ r.pages → next.fed ≡ length r.pages → next.fault ≡ None → (next.is_settled ≡ true → length r.pages ≡ 0) → StandsFor next (drop (size_of (given_pages bytes given)) bytes) 0
begins_again r next bytes given s ended new nothing room page pages fed fault settled =
    subst (λ l. StandsFor next (drop (size_of l) bytes) 0) (sym (given_is r bytes given s)) (restarted r next bytes s.front ended s.holds new nothing room page pages fed fault settled)

pub taken_count : (n : ℕ) (piece : List ℕ) (fed : ℕ) → n ≤ length piece → fed + n ≡ fed + length (take n piece)
taken_count n piece fed h = ap (λ k. fed + k) (sym (Rattle.std.proofs.lemmas.List.length-take-le n piece h))

-- with the bytes as the code has them
pub packet_found : (r : Reader) (bytes held : List ℕ) (front : List Page) (i before : ℕ) (packet lacing : List ℕ) → held ≡ r.room.given → i < r.given.packets → Holds r bytes front → before ≡ min r.given.before (length held) → lacing ≡ Rattle.ogg_pages.specs.Bounds.lacing_of r.page
    → (length held ≡ before + sum lacing → i < length (lengths_from before lacing) → slice_get (packets_on lacing held before) i ≡ Some packet)
    → slice_get (last_packets front) i ≡ Some packet
packet_found r bytes held front i before packet lacing same inside h before_is lacing_is there =
    packet_there r bytes front i before packet lacing inside h (before_is ∙ ap (λ l. min r.given.before (length l)) same) lacing_is
    (subst (λ l. length l ≡ before + sum lacing → i < length (lengths_from before lacing) → slice_get (packets_on lacing l before) i ≡ Some packet) same there)
