-- The place of a page behind the pages before it: numbers and flags.
use Rattle.std.proofs.Common.{◌≡◌, ℕ, suc, ◌+◌, ◌%◌, ◌^◌, Bool, true, false, not, List, [], ◌∷◌, ◌++◌, length, take, drop, refl, sym, ◌∙◌, ap, arith, length-append, Option, Some, None}
use Rattle.std.specs.Prelude.{◌==◌, ◌&&◌, ◌||◌, if◌then◌else◌}
use Rattle.std.specs.List.{list_any}
use Rattle.std.proofs.Math.Seq.{take-append_seam}
use Rattle.std.proofs.lemmas.List.Sums.{sum_by-append}
use Rattle.std.proofs.lemmas.List.Folds.{list_any-append}
use Rattle.std.proofs.lemmas.Bool.{eqb-true, ne_eqb}
use Rattle.celt_base.specs.declared.status.Fault.{Fault}
use Rattle.celt_base.specs.declared.status.FaultName.TheVariants.{OtherStream, PageGap, BadContinuation}
use Rattle.opus_packets.specs.declared.header.Head.{Head}
use Rattle.ogg_pages.specs.Fields.{Page}
use Rattle.opus_stream.specs.declared.progress.Audio.{Audio}
use Rattle.opus_stream.specs.declared.progress.Progress.{Progress}
use Rattle.opus_stream.specs.Truths.{differ}
use Rattle.opus_stream.specs.Packets.{is_open}
use Rattle.opus_stream.specs.Audio.{fault_at, first_fault}
use Rattle.opus_stream.specs.Granules.{is_last}
use Rattle.opus_stream.specs.Pages.{open_after}
use Rattle.opus_stream.specs.Tests.{is_continued, is_first, is_ended, breaks_packets, continuation_fault, order_fault, has_tags, form_fault, page_fault}
use Rattle.opus_stream.specs.Acceptance.{before_last, page_size, size_of, head_in}
use Rattle.opus_stream.specs.Progressing.{order_by, continues_by, IsNext, Numbers, IsPlaced}
use Rattle.opus_stream.specs.Progressing as kept
use Rattle.opus_stream.proofs.Joining.{open-next}

or_false : (b : Bool) → (b || false) ≡ b
or_false true = refl
or_false false = refl

-- one page more
pub any-next : (test : Page → Bool) (before : List Page) (page : Page) → list_any test (before ++ page ∷ []) ≡ (list_any test before || test page)
any-next test before page = list_any-append test before (page ∷ []) ∙ ap (λ t. list_any test before || t) (one (test page)) where
  one : (b : Bool) → (b || false) ≡ b
  one true = refl
  one false = refl

pub size-next : (before : List Page) (page : Page) → size_of (before ++ page ∷ []) ≡ size_of before + page_size page
size-next before page = sum_by-append page_size before (page ∷ []) ∙ ap (λ n. size_of before + n) (omega arith)

pub before-next : (before : List Page) (page : Page) → before_last (before ++ page ∷ []) ≡ before
before-next before page =
    let l : length (before ++ page ∷ []) ≡ length before + 1 = length-append before (page ∷ []) in
    ap (λ n. take n (before ++ page ∷ [])) (omega arith) ∙ take-append_seam before (page ∷ [])

-- ---- the tests of the order

breaks_same : (p : Progress) (before : List Page) (page : Page) → p.is_open ≡ is_open before → kept.breaks_packets p page ≡ breaks_packets before page
breaks_same p before page e =
    ap (λ t. differ (is_continued page) t || (is_last page && open_after t page.lacing)) e
    ∙ ap (λ t. differ (is_continued page) (is_open before) || (is_last page && t)) (sym (open-next before page))

continues_same : (p : Progress) (before : List Page) (page : Page) → p.is_open ≡ is_open before → p.pages ≡ length before → continues_by p page ≡ continuation_fault before page
continues_same p before page e n =
    ap (λ t. if t then Some (fault_at BadContinuation p.pages) else None) (breaks_same p before page e)
    ∙ ap (λ k. if breaks_packets before page then Some (fault_at BadContinuation k) else None) n

pub order_same : (p : Progress) (before : List Page) (page : Page) → IsPlaced p before → order_by p page ≡ order_fault before page
unfolding order_by order_fault
order_same p [] page placed =
    ap (λ n. if n == 0 then continues_by p page else
    if not (page.serial == p.serial) || is_first page then Some (fault_at OtherStream p.pages) else
    if not (page.sequence == p.sequence) then Some (fault_at PageGap p.pages) else
    continues_by p page) placed.pages
    ∙ continues_same p [] page placed.opened placed.pages
order_same p (head ∷ rest) page placed =
    let n = length (head ∷ rest) in
    let some : (p.pages == 0) ≡ false = ap (λ k. k == 0) placed.pages ∙ not_zero (length rest) in
    ap (λ t. if t then continues_by p page else
    if not (page.serial == p.serial) || is_first page then Some (fault_at OtherStream p.pages) else
    if not (page.sequence == p.sequence) then Some (fault_at PageGap p.pages) else
    continues_by p page) some
    ∙ same p.serial head.serial p.sequence ((head.sequence + n) % 2 ^ 32) p.pages n (continues_by p page) (continuation_fault (head ∷ rest) page)
    placed.numbers.0 placed.numbers.1 placed.pages (continues_same p (head ∷ rest) page placed.opened placed.pages)
  where
    not_zero : (k : ℕ) → (suc k == 0) ≡ false
    not_zero k = ne_eqb (suc k) 0 (λ z. omega arith)

    same : (s t q r k n : ℕ) (a b : Option Fault) → s ≡ t → q ≡ r → k ≡ n → a ≡ b
        → (if not (page.serial == s) || is_first page then Some (fault_at OtherStream k) else if not (page.sequence == q) then Some (fault_at PageGap k) else a)
        ≡ (if not (page.serial == t) || is_first page then Some (fault_at OtherStream n) else if not (page.sequence == r) then Some (fault_at PageGap n) else b)
    same s t q r k n a b e f g h = rw (e, f, g, h) refl

-- ---- what is kept after the page

-- a page that passes has the numbers that were asked
numbers_next : (p next : Progress) (before : List Page) (page : Page) → IsPlaced p before → order_fault before page ≡ None
    → next.serial ≡ page.serial → next.sequence ≡ (page.sequence + 1) % 2 ^ 32 → Numbers next (before ++ page ∷ [])
unfolding order_fault
numbers_next p next [] page placed passed serial sequence = (serial, sequence)
numbers_next p next (head ∷ rest) page placed passed serial sequence =
    by_tests (page.serial == head.serial) (is_first page) (page.sequence == (head.sequence + length (head ∷ rest)) % 2 ^ 32) refl refl refl passed
  where
    next_sequence : (s h k : ℕ) → s ≡ (h + k) % 2 ^ 32 → (s + 1) % 2 ^ 32 ≡ (h + (k + 1)) % 2 ^ 32
    next_sequence s h k e = omega arith

    by_tests : (s f q : Bool) → (page.serial == head.serial) ≡ s → is_first page ≡ f → (page.sequence == (head.sequence + length (head ∷ rest)) % 2 ^ 32) ≡ q
        → (if not s || f then Some (fault_at OtherStream (length (head ∷ rest))) else if not q then Some (fault_at PageGap (length (head ∷ rest))) else continuation_fault (head ∷ rest) page) ≡ None
        → Numbers next ((head ∷ rest) ++ page ∷ [])
    by_tests true false true es ef eq h =
        let a : page.serial ≡ head.serial = eqb-true page.serial head.serial es in
        let b : page.sequence ≡ (head.sequence + length (head ∷ rest)) % 2 ^ 32 = eqb-true page.sequence ((head.sequence + length (head ∷ rest)) % 2 ^ 32) eq in
        let l : length ((head ∷ rest) ++ page ∷ []) ≡ length (head ∷ rest) + 1 = length-append (head ∷ rest) (page ∷ []) in (
          serial ∙ a,
          sequence ∙ next_sequence page.sequence head.sequence (length (head ∷ rest)) b ∙ ap (λ n. (head.sequence + n) % 2 ^ 32) (sym l),
        )
    by_tests true false false es ef eq h = let f : ⊥ = cc in absurd f
    by_tests true true q es ef eq h = let f : ⊥ = cc in absurd f
    by_tests false f q es ef eq h = let f : ⊥ = cc in absurd f

pub placed_next : (p next : Progress) (before : List Page) (page : Page) (size : ℕ) (head : Option Head) (tagged : Bool) (audio : Audio) → IsPlaced p before
    → order_by p page ≡ None → p.is_ended ≡ false → size ≡ page_size page → IsNext p page size head tagged audio next
    → head ≡ head_in (before ++ page ∷ []) → tagged ≡ has_tags (drop 1 (before ++ page ∷ [])) → IsPlaced next (before ++ page ∷ [])
placed_next p next before page size head tagged audio placed passed going size_is is head_is tagged_is =
    let l : length (before ++ page ∷ []) ≡ length before + 1 = length-append before (page ∷ []) in
    record {
      pages = is.pages ∙ ap (λ n. n + 1) placed.pages ∙ sym l;
      bytes = is.bytes ∙ ap (λ n. n + size) placed.bytes ∙ ap (λ n. size_of before + n) size_is ∙ sym (size-next before page);
      numbers = numbers_next p next before page placed (sym (order_same p before page placed) ∙ passed) is.serial is.sequence;
      opened = is.opened ∙ ap (λ t. open_after t page.lacing) placed.opened ∙ sym (open-next before page);
      ended = is.ended ∙ sym (any-next is_last before page ∙ ap (λ t. t || is_last page) (sym placed.ended ∙ going));
      head = is.head_is ∙ head_is;
      tagged = is.tagged_is ∙ tagged_is;
    }

-- ---- the first fault of a page

pub ended_same : (p : Progress) (before : List Page) → IsPlaced p before → p.is_ended ≡ false → is_ended before ≡ false
ended_same p before placed going = sym placed.ended ∙ going

pub fault_ordered : (p : Progress) (before : List Page) (page : Page) → IsPlaced p before → p.is_ended ≡ false → order_by p page ≡ None → page_fault before page ≡ form_fault before page
unfolding page_fault
fault_ordered p before page placed going passed =
    ap (λ t. if t then Some (fault_at Rattle.celt_base.specs.declared.status.FaultName.TheVariants.AfterEnd (length before)) else first_fault (order_fault before page) (form_fault before page)) (ended_same p before placed going)
    ∙ ap (λ f. first_fault f (form_fault before page)) (sym (order_same p before page placed) ∙ passed)

pub fault_unordered : (p : Progress) (before : List Page) (page : Page) (fault : Fault) → IsPlaced p before → p.is_ended ≡ false → order_by p page ≡ Some fault → page_fault before page ≡ Some fault
unfolding page_fault
fault_unordered p before page fault placed going broken =
    ap (λ t. if t then Some (fault_at Rattle.celt_base.specs.declared.status.FaultName.TheVariants.AfterEnd (length before)) else first_fault (order_fault before page) (form_fault before page)) (ended_same p before placed going)
    ∙ ap (λ f. first_fault f (form_fault before page)) (sym (order_same p before page placed) ∙ broken)
