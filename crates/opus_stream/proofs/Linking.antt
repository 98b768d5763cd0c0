-- The pages up to one that ends a stream, as the shortest front of the bytes that has no fault.
use Rattle.std.proofs.Common.{◌≡◌, ℕ, zero, suc, ◌+◌, ◌-◌, ◌<◌, ◌≤◌, true, false, List, [], ◌∷◌, ◌++◌, length, take, drop, refl, sym, ◌∙◌, ap, arith, append-nil, length-take, length-drop, take-add, take-take, ◌⊎◌, inl, inr, Option, Some, None}
use Rattle.std.proofs.Math.Seq.{take-append_seam}
use Rattle.std.proofs.lemmas.Bool.{cases_lt}
use Rattle.std.proofs.lemmas.List.{drop_at, take-append-drop, take_all, length-take-le, get_or-take}
use Rattle.std.proofs.lemmas.List.Sums.{sum_by-cons}
use Rattle.celt_base.specs.declared.status.Fault.{Fault}
use Rattle.ogg_pages.specs.declared.page.Verdict.{Verdict}
use Rattle.ogg_pages.specs.declared.page.Verdict.TheVariants as verdicts
use Rattle.ogg_pages.specs.Verdicts.{verdict, captures, summed}
use Rattle.ogg_pages.specs.Fields.{Page, page_of}
use Rattle.ogg_pages.specs.Stream.{Stream, Sound, ending_by, ending_of, no_page, with_page, stream}
use Rattle.ogg_pages.proofs.Judged.{sound_of, of_sound, page_len-take}
use Rattle.ogg_pages.proofs.Later.{captured_before, whole_stays, page_of-take-append}
use Rattle.ogg_pages.proofs.Streams.{stream-Whole, stream-Need, stream-Fault}
use Rattle.opus_stream.specs.Tests.{is_ended, page_fault}
use Rattle.opus_stream.specs.Acceptance.{accepted_after, end_fault, fault_after, accepted, fault_of, before_last, page_size, size_of, given_pages}
use Rattle.opus_stream.specs.Links.{IsLink}
use Rattle.opus_stream.specs.Readers.{ArePassed}
use Rattle.opus_stream.proofs.Lasting.{accepted_one, accepted_stop, accepted_none, fault_none, passed_none, passed_next}
use Rattle.opus_stream.proofs.Placing.{before-next}
use Rattle.opus_stream.proofs.Prefixes.{accepted_more}
use Rattle.opus_stream.proofs.Recovered.{all_pass, sound_end}
use Rattle.opus_stream.proofs.Sizes.{size}
use Rattle.opus_stream.proofs.Spanning.{AreAll, stream_all, passes_going}
use Rattle.opus_stream.proofs.Telling.{accepted_fronts, accepted_size}

-- ---- the stream of the bytes of its first pages

front_whole : (bytes : List ℕ) (n : ℕ) → verdict bytes ≡ verdicts.Whole n → verdict (take n bytes) ≡ verdicts.Whole n
front_whole bytes n v =
    let s = sound_of bytes n v in
    let inside = s.inside in
    let length_is = s.length_is in
    of_sound (take n bytes) n (record {
      captured = captured_before (take n bytes) (drop n bytes) (ap captures (take-append-drop n bytes) ∙ s.captured);
      version = get_or-take n bytes 4 0 (omega arith) ∙ s.version;
      length_is = sym (page_len-take bytes n length_is inside);
      inside = simp length-take (omega arith);
      sum_is = ap summed (take-take n n bytes (omega arith)) ∙ s.sum_is;
    })

-- the first page, and so many bytes behind it
front_then : (bytes : List ℕ) (n j : ℕ) → verdict bytes ≡ verdicts.Whole n → stream (take (n + j) bytes) ≡ with_page (page_of (take n bytes)) (stream (take j (drop n bytes)))
front_then bytes n j v =
    let s = sound_of bytes n v in
    let front = take n bytes in
    let more = take j (drop n bytes) in
    let len : length front ≡ n = length-take-le n bytes s.inside in
    ap stream (take-add n j bytes)
    ∙ stream-Whole (front ++ more) n (whole_stays front more n (front_whole bytes n v))
    ∙ ap (λ p. with_page p (stream (drop n (front ++ more)))) (page_of-take-append front more n (omega arith) ∙ ap page_of (take-take n n bytes (omega arith)))
    ∙ ap (λ l. with_page (page_of front) (stream l)) (drop_at front more n len)

page_len_is : (bytes : List ℕ) (n : ℕ) → verdict bytes ≡ verdicts.Whole n → n ≡ page_size (page_of (take n bytes))
page_len_is bytes n v =
    let s = sound_of bytes n v in
    let len : length (take n bytes) ≡ n = length-take-le n bytes s.inside in
    sym len ∙ size (take n bytes) (page_len-take bytes n s.length_is s.inside ∙ sym len)

no_bytes : verdict [] ≡ verdicts.Need
unfolding verdict captures
no_bytes = refl

none_front : stream [] ≡ record { pages = []; ending = Sound }
none_front = stream-Need [] no_bytes

front_stream : (m : ℕ) (bytes : List ℕ) → stream (take (size_of (take m (stream bytes).pages)) bytes) ≡ record { pages = take m (stream bytes).pages; ending = Sound }
front_stream zero bytes = none_front
front_stream (suc m) bytes = by_verdict (front_stream m) (verdict bytes) refl where
  bare : stream bytes ≡ no_page bytes → stream (take (size_of (take (suc m) (stream bytes).pages)) bytes) ≡ record { pages = take (suc m) (stream bytes).pages; ending = Sound }
  bare e =
      let none : take (suc m) (stream bytes).pages ≡ [] = ap (λ (t : Stream). take (suc m) t.pages) e in
      ap (λ l. stream (take (size_of l) bytes)) none ∙ none_front ∙ ap (λ l. record { pages = l; ending = Sound }) (sym none)

  by_verdict : ((l : List ℕ) → stream (take (size_of (take m (stream l).pages)) l) ≡ record { pages = take m (stream l).pages; ending = Sound }) → (v : Verdict) → verdict bytes ≡ v
      → stream (take (size_of (take (suc m) (stream bytes).pages)) bytes) ≡ record { pages = take (suc m) (stream bytes).pages; ending = Sound }
  by_verdict again verdicts.Need v = bare (stream-Need bytes v)
  by_verdict again (verdicts.Fault fault) v = bare (stream-Fault bytes fault v)
  by_verdict again (verdicts.Whole n) v =
      let page = page_of (take n bytes) in
      let rest = take m (stream (drop n bytes)).pages in
      let pages : take (suc m) (stream bytes).pages ≡ page ∷ rest = ap (λ (t : Stream). take (suc m) t.pages) (stream-Whole bytes n v) in
      let total : size_of (take (suc m) (stream bytes).pages) ≡ n + size_of rest = ap size_of pages ∙ sum_by-cons page_size page rest ∙ ap (λ k. k + size_of rest) (sym (page_len_is bytes n v)) in
      ap (λ k. stream (take k bytes)) total ∙ front_then bytes n (size_of rest) v ∙ ap (with_page page) (again (drop n bytes))
      ∙ ap (λ l. record { pages = l; ending = Sound }) (sym pages)

-- ---- accepted pages are the first of the stream's

after_front : (before pages : List Page) → (m : ℕ) × (accepted_after before pages ≡ take m pages)
after_front before [] = (0, accepted_none before)
after_front before (page ∷ pages) = by_fault (page_fault before page) refl (after_front (before ++ page ∷ []) pages) where
  by_fault : (f : Option Fault) → page_fault before page ≡ f → (m : ℕ) × (accepted_after (before ++ page ∷ []) pages ≡ take m pages) → (m : ℕ) × (accepted_after before (page ∷ pages) ≡ take m (page ∷ pages))
  by_fault None e again = (suc again.0, accepted_one before page pages e ∙ ap (λ l. page ∷ l) again.1)
  by_fault (Some fault) e again = (0, accepted_stop before page pages fault e)

take_twice : (n m : ℕ) (pages : List Page) → (k : ℕ) × (take n (take m pages) ≡ take k pages)
take_twice n m pages = by_order (cases_lt m n) where
  by_order : (m < n) ⊎ (n ≤ m) → (k : ℕ) × (take n (take m pages) ≡ take k pages)
  by_order (inl h) = (m, take_all n (take m pages) (simp length-take (omega arith)))
  by_order (inr h) = (n, take-take n m pages h)

given_front : (bytes : List ℕ) (given : ℕ) → (k : ℕ) × (given_pages bytes given ≡ take k (stream bytes).pages)
unfolding accepted
given_front bytes given =
    let a = after_front [] (stream bytes).pages in
    let t = take_twice given a.0 (stream bytes).pages in
    (t.0, ap (take given) a.1 ∙ t.1)

-- the bytes of the given pages hold just these
given_stream : (bytes : List ℕ) (given : ℕ) → stream (take (size_of (given_pages bytes given)) bytes) ≡ record { pages = given_pages bytes given; ending = Sound }
given_stream bytes given =
    let g = given_front bytes given in
    ap (λ l. stream (take (size_of l) bytes)) g.1 ∙ front_stream g.0 bytes ∙ ap (λ l. record { pages = l; ending = Sound }) (sym g.1)

abbrev pub Any : Page → Type 0
Any page = Unit {0}

pub any_all : (bytes : List ℕ) → AreAll Any (stream bytes).pages
any_all bytes = stream_all Any (λ l. Unit {0}) (λ l n s e. (tt, tt)) bytes tt

given_passed : (bytes : List ℕ) (given : ℕ) → ArePassed (given_pages bytes given)
given_passed bytes given = accepted_fronts Any ArePassed passed_none (λ front page p passes q. passed_next front page p passes) bytes (any_all bytes) given

-- so these bytes have no fault where the last page ends the stream
given_sound : (bytes : List ℕ) (given : ℕ) → is_ended (given_pages bytes given) ≡ true → fault_of (take (size_of (given_pages bytes given)) bytes) ≡ None
unfolding fault_of
given_sound bytes given ended =
    let front = given_pages bytes given in
    let p = given_passed bytes given in
    ap (λ (t : Stream). fault_after [] t.pages t.ending) (given_stream bytes given)
    ∙ ap (λ l. fault_after [] l Sound) (sym (append-nil front)) ∙ p.fault [] Sound ∙ fault_none front Sound ∙ ap (λ b. end_fault b (length front) Sound) ended

-- ---- bytes without a fault

-- they are those of their pages
sized_none : (bytes : List ℕ) → verdict bytes ≡ verdicts.Need → ending_of bytes ≡ Sound → 0 ≡ length bytes
sized_none [] v e = refl
sized_none (byte ∷ bytes) v e = let f : ending_by verdicts.Need ≡ Sound = ap ending_by (sym v) ∙ e in let g : ⊥ = cc in absurd g

sized_broken : (bytes : List ℕ) (fault : Rattle.ogg_pages.specs.declared.page.PageFault.PageFault) → verdict bytes ≡ verdicts.Fault fault → ending_of bytes ≡ Sound → 0 ≡ length bytes
sized_broken [] fault v e = refl
sized_broken (byte ∷ bytes) fault v e = let f : ending_by (verdicts.Fault fault) ≡ Sound = ap ending_by (sym v) ∙ e in let g : ⊥ = cc in absurd g

sized_once : (bytes : List ℕ) (v : Verdict) → verdict bytes ≡ v → (stream bytes).ending ≡ Sound
    → ((l : List ℕ) → length l < length bytes → (stream l).ending ≡ Sound → size_of (stream l).pages ≡ length l) → size_of (stream bytes).pages ≡ length bytes
sized_once bytes verdicts.Need v e again =
    let s = stream-Need bytes v in
    ap (λ (t : Stream). size_of t.pages) s ∙ sized_none bytes v (sym (ap (λ (t : Stream). t.ending) s) ∙ e)
sized_once bytes (verdicts.Fault fault) v e again =
    let s = stream-Fault bytes fault v in
    ap (λ (t : Stream). size_of t.pages) s ∙ sized_broken bytes fault v (sym (ap (λ (t : Stream). t.ending) s) ∙ e)
sized_once bytes (verdicts.Whole n) v e again =
    let s = sound_of bytes n v in
    let inside = s.inside in
    let length_is = s.length_is in
    let rest = drop n bytes in
    let len : length rest ≡ length bytes - n = length-drop n bytes in
    let whole = stream-Whole bytes n v in
    let r = again rest (omega arith) (sym (ap (λ (t : Stream). t.ending) whole) ∙ e) in
    let page = page_of (take n bytes) in
    let one = page_len_is bytes n v in
    let all : size_of (stream bytes).pages ≡ page_size page + size_of (stream rest).pages = ap (λ (t : Stream). size_of t.pages) whole ∙ sum_by-cons page_size page (stream rest).pages in
    omega arith

sized_by : (k : ℕ) (bytes : List ℕ) → length bytes ≤ k → (stream bytes).ending ≡ Sound → size_of (stream bytes).pages ≡ length bytes
sized_by zero bytes h e = sized_once bytes (verdict bytes) refl e (λ l less. absurd (omega arith))
sized_by (suc k) bytes h e = sized_once bytes (verdict bytes) refl e (λ l less. sized_by k l (omega arith))

record Ends (bytes : List ℕ) : Type 0 where
  pub ended : is_ended (accepted bytes) ≡ true
  pub size_is : size_of (accepted bytes) ≡ length bytes

ends : (bytes : List ℕ) → fault_of bytes ≡ None → Ends bytes
unfolding fault_of accepted
ends bytes h =
    let a = all_pass [] (stream bytes).pages (stream bytes).ending h in
    let e = sound_end (is_ended (stream bytes).pages) (length (stream bytes).pages) (stream bytes).ending a.end in
    record {
      ended = ap is_ended a.accepted_are ∙ e.0;
      size_is = ap size_of a.accepted_are ∙ sized_by (length bytes) bytes (omega arith) e.1;
    }

-- ---- no page is accepted behind one that ends the stream

going_fronts : (bytes : List ℕ) (n : ℕ) → is_ended (before_last (take n (accepted bytes))) ≡ false
going_fronts bytes n =
    accepted_fronts Any (λ pages. is_ended (before_last pages) ≡ false) refl (λ front page p passes q. ap is_ended (before-next front page) ∙ passes_going front page passes) bytes (any_all bytes) n

all_given : (bytes : List ℕ) (n : ℕ) → is_ended (take n (accepted bytes)) ≡ true → take n (accepted bytes) ≡ accepted bytes
all_given bytes n ended = by_order (cases_lt n (length (accepted bytes))) where
  by_order : (n < length (accepted bytes)) ⊎ (length (accepted bytes) ≤ n) → take n (accepted bytes) ≡ accepted bytes
  by_order (inr h) = take_all n (accepted bytes) h
  by_order (inl h) =
      let pages = accepted bytes in
      let len : length (take (n + 1) pages) ≡ n + 1 = length-take-le (n + 1) pages (omega arith) in
      let one : length (take (n + 1) pages) - 1 ≡ n = omega arith in
      let before : before_last (take (n + 1) pages) ≡ take n pages = ap (λ k. take k (take (n + 1) pages)) one ∙ take-take n (n + 1) pages (omega arith) in
      let f : true ≡ false = sym ended ∙ ap is_ended (sym before) ∙ going_fronts bytes (n + 1) in
      let g : ⊥ = cc in absurd g

-- a front without a fault has all the pages
front_all : (bytes : List ℕ) (k : ℕ) → fault_of (take k bytes) ≡ None → accepted (take k bytes) ≡ accepted bytes
front_all bytes k h =
    let b = take k bytes in
    let a = accepted_more b (drop k bytes) in
    let all : accepted bytes ≡ accepted b ++ a.0 = ap accepted (sym (take-append-drop k bytes)) ∙ a.1 in
    let first : take (length (accepted b)) (accepted bytes) ≡ accepted b = ap (take (length (accepted b))) all ∙ take-append_seam (accepted b) a.0 in
    let e = ends b h in
    sym first ∙ all_given bytes (length (accepted b)) (ap is_ended first ∙ e.ended)

-- ---- the first link

pub link_given : (bytes : List ℕ) (given : ℕ) → is_ended (given_pages bytes given) ≡ true → IsLink bytes (size_of (given_pages bytes given))
link_given bytes given ended =
    let front = given_pages bytes given in
    let all : size_of front ≡ size_of (accepted bytes) = ap size_of (all_given bytes given ended) in
    let within = accepted_size bytes in
    record {
      inside = omega arith;
      sound = given_sound bytes given ended;
      least = λ k h.
          let e = ends (take k bytes) h in
          let same : size_of (accepted (take k bytes)) ≡ size_of (accepted bytes) = ap size_of (front_all bytes k h) in
          let is = e.size_is in
          let len = length-take k bytes in
          omega arith;
    }

pub link_only : (bytes : List ℕ) (len : ℕ) → IsLink bytes len → (is_ended (accepted bytes) ≡ true) × (size_of (accepted bytes) ≡ len)
link_only bytes len l =
    let e = ends (take len bytes) l.sound in
    let same = front_all bytes len l.sound in
    (sym (ap is_ended same) ∙ e.ended, sym (ap size_of same) ∙ e.size_is ∙ length-take-le len bytes l.inside)
