-- What more bytes do to the accepted pages and to the fault.
use Rattle.std.proofs.Common.{◌≡◌, ℕ, Bool, true, false, List, [], ◌∷◌, ◌++◌, length, take, refl, sym, ◌∙◌, ap, append_assoc, append-nil, Option, Some, None}
use Rattle.std.proofs.Math.Seq.{take-append_seam}
use Rattle.celt_base.specs.declared.status.Fault.{Fault}
use Rattle.celt_base.specs.declared.status.FaultName.TheVariants as names
use Rattle.ogg_pages.specs.Fields.{Page}
use Rattle.ogg_pages.specs.Stream.{Stream, Ending, Sound, Cut, Broken, stream}
use Rattle.ogg_pages.proofs.Streams.{GoesOn, goes_on}
use Rattle.opus_stream.specs.Audio.{fault_at}
use Rattle.opus_stream.specs.Tests.{is_ended, page_fault}
use Rattle.opus_stream.specs.Acceptance.{accepted_after, end_fault, fault_after, accepted, fault_of, is_end_name}
use Rattle.opus_stream.proofs.Lasting.{accepted_one, accepted_stop, accepted_none, fault_one, fault_stop, fault_none}

-- some pages before others: one of them has a fault, or all are accepted
pub data Splits (before ps : List Page) : Type 0 where
  Stops : (fault : Fault) → ((qs : List Page) (ending : Ending) → fault_after before (ps ++ qs) ending ≡ Some fault) → ((qs : List Page) → accepted_after before (ps ++ qs) ≡ accepted_after before ps) → Splits before ps
  Passes : ((qs : List Page) (ending : Ending) → fault_after before (ps ++ qs) ending ≡ fault_after (before ++ ps) qs ending)
      → ((qs : List Page) → accepted_after before (ps ++ qs) ≡ ps ++ accepted_after (before ++ ps) qs) → Splits before ps

pub splits : (before ps : List Page) → Splits before ps
splits before [] = Passes (λ qs ending. ap (λ l. fault_after l qs ending) (sym (append-nil before))) (λ qs. ap (λ l. accepted_after l qs) (sym (append-nil before)))
splits before (p ∷ ps) = by_fault (page_fault before p) refl (splits (before ++ p ∷ []) ps) where
  by_rest : page_fault before p ≡ None → Splits (before ++ p ∷ []) ps → Splits before (p ∷ ps)
  by_rest e (Stops fault f a) = Stops fault
      (λ qs ending. fault_one before p (ps ++ qs) ending e ∙ f qs ending)
      (λ qs. accepted_one before p (ps ++ qs) e ∙ ap (λ l. p ∷ l) (a qs) ∙ sym (accepted_one before p ps e))
  by_rest e (Passes f a) = Passes
      (λ qs ending. fault_one before p (ps ++ qs) ending e ∙ f qs ending ∙ ap (λ l. fault_after l qs ending) (append_assoc before (p ∷ []) ps))
      (λ qs. accepted_one before p (ps ++ qs) e ∙ ap (λ l. p ∷ l) (a qs ∙ ap (λ l. ps ++ accepted_after l qs) (append_assoc before (p ∷ []) ps)))

  by_fault : (f : Option Fault) → page_fault before p ≡ f → Splits (before ++ p ∷ []) ps → Splits before (p ∷ ps)
  by_fault None e rest = by_rest e rest
  by_fault (Some fault) e rest = Stops fault
      (λ qs ending. fault_stop before p (ps ++ qs) ending fault e)
      (λ qs. accepted_stop before p (ps ++ qs) fault e ∙ sym (accepted_stop before p ps fault e))

-- ---- the accepted pages go on

accepted-append : (before ps qs : List Page) → (rest : List Page) × (accepted_after before (ps ++ qs) ≡ accepted_after before ps ++ rest)
accepted-append before ps qs = by (splits before ps) where
  by : Splits before ps → (rest : List Page) × (accepted_after before (ps ++ qs) ≡ accepted_after before ps ++ rest)
  by (Stops fault f a) = ([], a qs ∙ sym (append-nil (accepted_after before ps)))
  by (Passes f a) = (
    accepted_after (before ++ ps) qs,
    a qs ∙ ap (λ l. l ++ accepted_after (before ++ ps) qs) (sym (ap (accepted_after before) (sym (append-nil ps)) ∙ a [] ∙ ap (λ l. ps ++ l) (accepted_none (before ++ ps)) ∙ append-nil ps)),
  )

pub accepted_more : (bytes more : List ℕ) → (rest : List Page) × (accepted (bytes ++ more) ≡ accepted bytes ++ rest)
unfolding accepted
accepted_more bytes more =
    let g = goes_on bytes more in
    let a = accepted-append [] (stream bytes).pages g.more_pages in
    (a.0, ap (accepted_after []) g.pages ∙ a.1)

pub pages_go_on : (bytes more : List ℕ) → take (length (accepted bytes)) (accepted (bytes ++ more)) ≡ accepted bytes
pages_go_on bytes more =
    let a = accepted_more bytes more in
    ap (take (length (accepted bytes))) a.1 ∙ take-append_seam (accepted bytes) a.0

-- ---- a fault that no later byte mends

pub record Stays (bytes more : List ℕ) (fault : Fault) : Type 0 where
  pub fault_is : fault_of (bytes ++ more) ≡ Some fault
  pub pages : accepted (bytes ++ more) ≡ accepted bytes

ended_page : (front : List Page) (page : Page) → is_ended front ≡ true → page_fault front page ≡ Some (fault_at names.AfterEnd (length front))
unfolding page_fault
ended_page front page e = rw e refl

same_fault : (f g : Fault) → Some f ≡ Some g → f ≡ g
same_fault f g e = cc

-- behind a last page, after which bytes follow
behind_end : (bytes more : List ℕ) (pages : List Page) (after : Stream) (fault : Fault) → is_ended pages ≡ true → Some (fault_at names.AfterEnd (length pages)) ≡ Some fault
    → (rest : List Page) → after.pages ≡ pages ++ rest → (after.pages ≡ pages → after.ending ≡ Sound → ⊥)
    → (fault_after pages rest after.ending ≡ Some fault) × (accepted_after pages rest ≡ [])
behind_end bytes more pages after fault e is (q ∷ qs) all unsound = (
  fault_stop pages q qs after.ending (fault_at names.AfterEnd (length pages)) (ended_page pages q e) ∙ is,
  accepted_stop pages q qs (fault_at names.AfterEnd (length pages)) (ended_page pages q e),
)
behind_end bytes more pages after fault e is [] all unsound = (
  fault_none pages after.ending ∙ ap (λ t. end_fault t (length pages) after.ending) e ∙ by_ending after.ending refl ∙ is,
  accepted_none pages,
)
  where
    by_ending : (ending : Ending) → after.ending ≡ ending → end_fault true (length pages) ending ≡ Some (fault_at names.AfterEnd (length pages))
    by_ending Sound s = absurd (unsound (all ∙ append-nil pages) s)
    by_ending Cut s = refl
    by_ending (Broken f) s = refl

-- all pages of the first bytes were accepted
stays_behind : (bytes more : List ℕ) (fault : Fault) → is_end_name fault.name ≡ false
    → ((qs : List Page) (ending : Ending) → fault_after [] ((stream bytes).pages ++ qs) ending ≡ fault_after (stream bytes).pages qs ending)
    → ((qs : List Page) → accepted_after [] ((stream bytes).pages ++ qs) ≡ (stream bytes).pages ++ accepted_after (stream bytes).pages qs)
    → end_fault (is_ended (stream bytes).pages) (length (stream bytes).pages) (stream bytes).ending ≡ Some fault → Stays bytes more fault
unfolding fault_of accepted
stays_behind bytes more fault lasts f a h = by_end (is_ended (stream bytes).pages) (stream bytes).ending refl refl (goes_on bytes more) h where
  before : List Page
  before = (stream bytes).pages

  all : accepted_after [] (stream bytes).pages ≡ before
  all = ap (accepted_after []) (sym (append-nil before)) ∙ a [] ∙ ap (λ l. before ++ l) (accepted_none before) ∙ append-nil before

  here : fault_after [] (stream bytes).pages (stream bytes).ending ≡ Some fault
  here = ap (λ l. fault_after [] l (stream bytes).ending) (sym (append-nil before)) ∙ f [] (stream bytes).ending ∙ fault_none before (stream bytes).ending ∙ h

  unchanged : stream (bytes ++ more) ≡ stream bytes → Stays bytes more fault
  unchanged e = record { fault_is = ap (λ (s : Stream). fault_after [] s.pages s.ending) e ∙ here; pages = ap (λ (s : Stream). accepted_after [] s.pages) e }

  by_end : (ended : Bool) (ending : Ending) → is_ended before ≡ ended → (stream bytes).ending ≡ ending → GoesOn (stream bytes) (stream (bytes ++ more))
      → end_fault (is_ended before) (length before) (stream bytes).ending ≡ Some fault → Stays bytes more fault
  by_end ended (Broken g) ee en goes h = unchanged (goes.broken g en)
  by_end true Sound ee en goes h = let x : end_fault true (length before) Sound ≡ Some fault = (λ i. end_fault (sym ee i) (length before) (sym en i)) ∙ h in let y : ⊥ = cc in absurd y
  by_end true Cut ee en goes h =
      let is : Some (fault_at names.AfterEnd (length before)) ≡ Some fault = (λ i. end_fault (sym ee i) (length before) (sym en i)) ∙ h in
      let b = behind_end bytes more before (stream (bytes ++ more)) fault ee is goes.more_pages goes.pages (λ same sound. goes.unsound en same sound) in
      record {
        fault_is = ap (λ l. fault_after [] l (stream (bytes ++ more)).ending) goes.pages ∙ f goes.more_pages (stream (bytes ++ more)).ending ∙ b.0;
        pages = ap (accepted_after []) goes.pages ∙ a goes.more_pages ∙ ap (λ l. before ++ l) b.1 ∙ append-nil before ∙ sym all;
      }
  by_end false Sound ee en goes h =
      let is : Some (fault_at names.Truncated (length before)) ≡ Some fault = (λ i. end_fault (sym ee i) (length before) (sym en i)) ∙ h in
      let t : true ≡ false = ap (λ (x : Fault). is_end_name x.name) (same_fault (fault_at names.Truncated (length before)) fault is) ∙ lasts in
      let y : ⊥ = cc in absurd y
  by_end false Cut ee en goes h =
      let is : Some (fault_at names.Truncated (length before)) ≡ Some fault = (λ i. end_fault (sym ee i) (length before) (sym en i)) ∙ h in
      let t : true ≡ false = ap (λ (x : Fault). is_end_name x.name) (same_fault (fault_at names.Truncated (length before)) fault is) ∙ lasts in
      let y : ⊥ = cc in absurd y

pub stays : (bytes more : List ℕ) (fault : Fault) → fault_of bytes ≡ Some fault → is_end_name fault.name ≡ false → Stays bytes more fault
unfolding fault_of accepted
stays bytes more fault h lasts = by (splits [] (stream bytes).pages) where
  before : List Page
  before = (stream bytes).pages

  by : Splits [] (stream bytes).pages → Stays bytes more fault
  by (Stops g f a) =
      let g_is : Some g ≡ Some fault = sym (f [] (stream bytes).ending) ∙ ap (λ l. fault_after [] l (stream bytes).ending) (append-nil before) ∙ h in
      let goes = goes_on bytes more in
      record {
        fault_is = ap (λ l. fault_after [] l (stream (bytes ++ more)).ending) goes.pages ∙ f goes.more_pages (stream (bytes ++ more)).ending ∙ g_is;
        pages = ap (accepted_after []) goes.pages ∙ a goes.more_pages;
      }
  by (Passes f a) =
      stays_behind bytes more fault lasts f a
      (sym (fault_none before (stream bytes).ending) ∙ sym (f [] (stream bytes).ending) ∙ ap (λ l. fault_after [] l (stream bytes).ending) (append-nil before) ∙ h)
