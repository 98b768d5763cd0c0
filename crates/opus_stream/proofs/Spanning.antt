-- What is written of pages: the spans stand apart, and add up to what is given less the pre-skip.
use Rattle.std.proofs.Common.{◌≡◌, ℕ, zero, suc, ℤ, pos, ◌+◌, ◌-◌, ◌-ℤ◌, ◌<◌, ◌≤◌, Bool, true, false, List, [], ◌∷◌, ◌++◌, length, take, drop, sum, get_or, refl, sym, ◌∙◌, ap, subst, arith, append_assoc, append-nil, ◌⊎◌, inl, inr, Option, Some, None}
use Rattle.std.specs.Prelude.{◌&&◌, ◌||◌, sum_by, unsigned_abs, nat_lt, if◌then◌else◌}
use Rattle.std.specs.List.{All, AllPairs}
use Rattle.std.specs.Int.Signed.{lt_z}
use Rattle.std.proofs.lemmas.Int.{ints}
use Rattle.std.proofs.lemmas.Bool.{cases_Bool, cases_lt, lt-ltb, le-ltb}
use Rattle.std.proofs.lemmas.List.Sums.{sum_by-append, sum_by-cons}
use Rattle.std.proofs.lemmas.List.Folds.{list_any-append}
use Rattle.std.proofs.lemmas.List.{drop_at}
use Rattle.std.proofs.lemmas.List.Elements.{All-nil}
use Rattle.std.proofs.lemmas.List.Quantifiers.{all_pairs_push}
use Rattle.celt_base.specs.declared.status.Fault.{Fault}
use Rattle.ogg_pages.specs.declared.page.Verdict.{Verdict}
use Rattle.ogg_pages.specs.declared.page.Verdict.TheVariants as verdicts
use Rattle.ogg_pages.specs.Verdicts.{verdict}
use Rattle.ogg_pages.specs.Fields.{Page, page_of}
use Rattle.ogg_pages.specs.Stream.{Stream, after_verdict, stream_in, stream}
use Rattle.ogg_pages.proofs.Judged.{sound_of, page_len-take}
use Rattle.opus_stream.specs.declared.answers.Span.{Span}
use Rattle.opus_stream.specs.Packets.{packets_in, body_in, lacing_in, ends_packet, lengths_from, open_in}
use Rattle.opus_stream.specs.Audio.{first_fault, samples_in, packet_samples, packets_fault, fault_at, IsPlayable}
use Rattle.opus_stream.specs.Granules.{is_last, samples_on, base_in, start_in, end_granule, at_most, given_on, bad_granule, span}
use Rattle.opus_stream.specs.Tests.{is_ended, has_tags, behind_tags, order_fault, audio_fault, form_fault, page_fault}
use Rattle.opus_stream.specs.Acceptance.{accepted_after, accepted, head_in, preskip_of, audio_in, audio_packets, last_packets, last_span}
use Rattle.opus_stream.specs.Tallies.{packets_on}
use Rattle.opus_stream.specs.Accepted.{Gives}
use Rattle.opus_stream.specs.Spans.{span_len, spans_after, written_in, placed, places_after}
use Rattle.opus_stream.proofs.Lasting.{accepted_one, accepted_stop, accepted_none}
use Rattle.opus_stream.proofs.Cutting.{packets_playable}
use Rattle.opus_stream.proofs.Joining.{length-parts, lengths-few, joins}
use Rattle.opus_stream.proofs.Grants.{end-next, given-open}
use Rattle.opus_stream.proofs.Hearing.{behind-next, ended-cons, ended-behind, span_last}
use Rattle.opus_stream.proofs.Headers.{behind-none, nothing}
use Rattle.opus_stream.proofs.Placing.{before-next}
use Rattle.opus_stream.proofs.Sizes.{body_len}

-- ---- what holds of each page that begins in some bytes

abbrev pub AreAll : (Page → Type 0) → List Page → Type 0
AreAll Q [] = Unit {0}
AreAll Q (page ∷ pages) = Q page × AreAll Q pages

-- of bytes of which S holds, which holds of those behind each page
abbrev pub Reads : (Page → Type 0) → (List ℕ → Type 0) → Type 0
Reads Q S = (bytes : List ℕ) (n : ℕ) → S bytes → verdict bytes ≡ verdicts.Whole n → Q (page_of (take n bytes)) × S (drop n bytes)

turn_all : (Q : Page → Type 0) (S : List ℕ → Type 0) → Reads Q S → (more : List ℕ → Stream) (bytes : List ℕ) (v : Verdict) → verdict bytes ≡ v → S bytes
    → ((l : List ℕ) → S l → AreAll Q (more l).pages) → AreAll Q (after_verdict more bytes v).pages
turn_all Q S reads more bytes (verdicts.Whole n) e s again = let r = reads bytes n s e in (r.0, again (drop n bytes) r.1)
turn_all Q S reads more bytes verdicts.Need e s again = tt
turn_all Q S reads more bytes (verdicts.Fault fault) e s again = tt

stream_in_all : (Q : Page → Type 0) (S : List ℕ → Type 0) → Reads Q S → (turns : ℕ) (bytes : List ℕ) → S bytes → AreAll Q (stream_in turns bytes).pages
unfolding stream_in
stream_in_all Q S reads zero bytes s = tt
stream_in_all Q S reads (suc turns) bytes s = turn_all Q S reads (stream_in turns) bytes (verdict bytes) refl s (stream_in_all Q S reads turns)

pub stream_all : (Q : Page → Type 0) (S : List ℕ → Type 0) → Reads Q S → (bytes : List ℕ) → S bytes → AreAll Q (stream bytes).pages
unfolding stream
stream_all Q S reads bytes s = stream_in_all Q S reads (length bytes) bytes s

-- as many bytes as lacing values say
abbrev pub IsFull : Page → Type 0
IsFull page = length page.body ≡ sum page.lacing

abbrev pub AreFull : List Page → Type 0
AreFull pages = AreAll IsFull pages

pub page_full : (bytes : List ℕ) (n : ℕ) → verdict bytes ≡ verdicts.Whole n → IsFull (page_of (take n bytes))
page_full bytes n v =
    let s = sound_of bytes n v in
    let l = page_len-take bytes n s.length_is s.inside in
    let m : length (take n bytes) ≡ n = Rattle.std.proofs.lemmas.List.length-take-le n bytes s.inside in
    body_len (take n bytes) (l ∙ sym m)

pub bytes_full : (bytes : List ℕ) → AreFull (stream bytes).pages
bytes_full bytes = stream_all IsFull (λ l. Unit {0}) (λ l n s e. (page_full l n e, tt)) bytes tt

-- ---- what holds of no page, and of one page more, holds of the accepted pages

abbrev pub Steps : (Page → Type 0) → (List Page → Type 0) → Type 0
Steps Q P = (front : List Page) (page : Page) → P front → page_fault front page ≡ None → Q page → P (front ++ page ∷ [])

pub each : (Q : Page → Type 0) (P : List Page → Type 0) → Steps Q P → (before pages : List Page) → AreAll Q pages → P before → P (before ++ accepted_after before pages)
each Q P step before [] all p = subst P (sym (append-nil before) ∙ ap (λ l. before ++ l) (sym (accepted_none before))) p
each Q P step before (page ∷ pages) all p = by_fault (page_fault before page) refl (each Q P step (before ++ page ∷ []) pages all.1) where
  by_fault : (f : Option Fault) → page_fault before page ≡ f → (P (before ++ page ∷ []) → P ((before ++ page ∷ []) ++ accepted_after (before ++ page ∷ []) pages)) → P (before ++ accepted_after before (page ∷ pages))
  by_fault None e again =
      subst P (append_assoc before (page ∷ []) (accepted_after (before ++ page ∷ []) pages) ∙ ap (λ l. before ++ l) (sym (accepted_one before page pages e)))
      (again (step before page p e all.0))
  by_fault (Some fault) e again = subst P (sym (append-nil before) ∙ ap (λ l. before ++ l) (sym (accepted_stop before page pages fault e))) p

pub accepted_each : (Q : Page → Type 0) (P : List Page → Type 0) → P [] → Steps Q P → (bytes : List ℕ) → AreAll Q (stream bytes).pages → P (accepted bytes)
unfolding accepted
accepted_each Q P none step bytes all = each Q P step [] (stream bytes).pages all none

-- ---- the tests that an accepted page passed

first-none : (a b : Option Fault) → first_fault a b ≡ None → (a ≡ None) × (b ≡ None)
first-none None b h = (refl, h)
first-none (Some fault) b h = let f : ⊥ = cc in absurd f

pub passes_going : (front : List Page) (page : Page) → page_fault front page ≡ None → is_ended front ≡ false
unfolding page_fault
passes_going front page h = by_test (cases_Bool (is_ended front)) where
  by_test : (is_ended front ≡ true) ⊎ (is_ended front ≡ false) → is_ended front ≡ false
  by_test (inr e) = e
  by_test (inl e) =
      let x : Some (fault_at Rattle.celt_base.specs.declared.status.FaultName.TheVariants.AfterEnd (length front)) ≡ None =
      sym (ap (λ t. if t then Some (fault_at Rattle.celt_base.specs.declared.status.FaultName.TheVariants.AfterEnd (length front)) else first_fault (order_fault front page) (form_fault front page)) e) ∙ h in
      let y : ⊥ = cc in absurd y

pub passes_tests : (front : List Page) (page : Page) → page_fault front page ≡ None → (order_fault front page ≡ None) × (form_fault front page ≡ None)
unfolding page_fault
passes_tests front page h =
    first-none (order_fault front page) (form_fault front page)
    (sym (ap (λ t. if t then Some (fault_at Rattle.celt_base.specs.declared.status.FaultName.TheVariants.AfterEnd (length front)) else first_fault (order_fault front page) (form_fault front page)) (passes_going front page h)) ∙ h)

pub passes_audio : (head : Page) (rest : List Page) (page : Page) → page_fault (head ∷ rest) page ≡ None → has_tags rest ≡ true → audio_fault (length (head ∷ rest)) (behind_tags rest) page ≡ None
unfolding form_fault
passes_audio head rest page h t =
    sym (ap (λ b. if b then audio_fault (length (head ∷ rest)) (behind_tags rest) page else
    (if Rattle.opus_stream.specs.Tests.tags_go_on rest page then None else Some (fault_at Rattle.celt_base.specs.declared.status.FaultName.TheVariants.BadTags (length (head ∷ rest))))) t) ∙ (passes_tests (head ∷ rest) page h).1

-- the tests of its packets and of its granule position
audio_tests : (number : ℕ) (before : List Page) (page : Page) → audio_fault number before page ≡ None
    → (packets_fault (length (packets_in before)) (drop (length (packets_in before)) (packets_in (before ++ page ∷ []))) (open_in (before ++ page ∷ [])) ≡ None)
    × ((if bad_granule before (before ++ page ∷ []) page then Some (fault_at Rattle.celt_base.specs.declared.status.FaultName.TheVariants.BadGranule number) else None) ≡ None)
unfolding audio_fault
audio_tests number before page h =
    first-none (packets_fault (length (packets_in before)) (drop (length (packets_in before)) (packets_in (before ++ page ∷ []))) (open_in (before ++ page ∷ [])))
    (if bad_granule before (before ++ page ∷ []) page then Some (fault_at Rattle.celt_base.specs.declared.status.FaultName.TheVariants.BadGranule number) else None) h

pub passes_granule : (head : Page) (rest : List Page) (page : Page) → page_fault (head ∷ rest) page ≡ None → has_tags rest ≡ true
    → bad_granule (behind_tags rest) (behind_tags rest ++ page ∷ []) page ≡ false
passes_granule head rest page h t =
    not_bad (bad_granule (behind_tags rest) (behind_tags rest ++ page ∷ []) page) (audio_tests (length (head ∷ rest)) (behind_tags rest) page (passes_audio head rest page h t)).1
  where
    not_bad : (b : Bool) → (if b then Some (fault_at Rattle.celt_base.specs.declared.status.FaultName.TheVariants.BadGranule (length (head ∷ rest))) else None) ≡ None → b ≡ false
    not_bad false e = refl
    not_bad true e = let y : ⊥ = cc in absurd y

-- ---- how many samples are given

abs_from : (z : ℤ) (d : ℕ) → lt_z z (pos d) ≡ false → d ≤ unsigned_abs z
abs_from z d h = grind (arith, ints)

at_most-bounds : (o : Option ℤ) (base : ℤ) (d n : ℕ) → d ≤ n → ((g : ℤ) → o ≡ Some g → lt_z (g -ℤ base) (pos d) ≡ false) → (d ≤ at_most o base n) × (at_most o base n ≤ n)
at_most-bounds None base d n h kept = (h, omega arith)
at_most-bounds (Some g) base d n h kept = let a = abs_from (g -ℤ base) d (kept g refl) in (omega arith, omega arith)

-- before and after a page: the samples before, those that are given, and all
given-bounds : (before : List Page) (page : Page) → is_ended before ≡ false → bad_granule before (before ++ page ∷ []) page ≡ false → samples_on before ≤ samples_on (before ++ page ∷ [])
    → (samples_on before ≤ given_on (before ++ page ∷ [])) × (given_on (before ++ page ∷ []) ≤ samples_on (before ++ page ∷ []))
unfolding given_on bad_granule
given-bounds before page going sound more =
    at_most-bounds (end_granule (before ++ page ∷ [])) (base_in (before ++ page ∷ [])) (samples_on before) (samples_on (before ++ page ∷ [])) more
    (λ g e. by_tests (is_last page) (ends_packet page) refl refl g (sym (end-next before page going) ∙ e) sound)
  where
    by_tests : (l n : Bool) → is_last page ≡ l → ends_packet page ≡ n → (g : ℤ) → (if is_last page && ends_packet page then Some page.granule else None) ≡ Some g
        → (ends_packet page && (if is_last page then lt_z (page.granule -ℤ base_in (before ++ page ∷ [])) (pos (samples_on before)) else lt_z (start_in (before ++ page ∷ [])) (pos 0))) ≡ false
        → lt_z (g -ℤ base_in (before ++ page ∷ [])) (pos (samples_on before)) ≡ false
    by_tests true true el en g e h =
        let f : Some page.granule ≡ Some g = sym (λ i. if el i && en i then Some page.granule else None) ∙ e in
        let k : page.granule ≡ g = cc in
        let t : lt_z (page.granule -ℤ base_in (before ++ page ∷ [])) (pos (samples_on before)) ≡ false =
        sym (λ i. en i && (if el i then lt_z (page.granule -ℤ base_in (before ++ page ∷ [])) (pos (samples_on before)) else lt_z (start_in (before ++ page ∷ [])) (pos 0))) ∙ h in
        subst (λ z. lt_z (z -ℤ base_in (before ++ page ∷ [])) (pos (samples_on before)) ≡ false) k t
    by_tests true false el en g e h = let f : None ≡ Some g = sym (λ i. if el i && en i then Some page.granule else None) ∙ e in let y : ⊥ = cc in absurd y
    by_tests false true el en g e h = let f : None ≡ Some g = sym (λ i. if el i && en i then Some page.granule else None) ∙ e in let y : ⊥ = cc in absurd y
    by_tests false false el en g e h = let f : None ≡ Some g = sym (λ i. if el i && en i then Some page.granule else None) ∙ e in let y : ⊥ = cc in absurd y

-- ---- spans

pub span-bounds : (from to : ℕ) → ((span from to).to ≤ to) × ((span from to).to - (span from to).from ≡ to - from)
span-bounds from to = by_order (cases_lt from to) where
  by_order : (from < to) ⊎ (to ≤ from) → ((span from to).to ≤ to) × ((span from to).to - (span from to).from ≡ to - from)
  by_order (inl h) = rw (lt-ltb from to h) (omega arith, refl)
  by_order (inr h) = rw (le-ltb from to h) (omega arith, omega arith)

spans-next : (before pages : List Page) (page : Page) → spans_after before (pages ++ page ∷ []) ≡ spans_after before pages ++ last_span ((before ++ pages) ++ page ∷ []) ∷ []
unfolding spans_after
spans-next before [] page = ap (λ l. last_span (l ++ page ∷ []) ∷ []) (sym (append-nil before))
spans-next before (p ∷ ps) page =
    ap (λ l. last_span (before ++ p ∷ []) ∷ l) (spans-next (before ++ p ∷ []) ps page
    ∙ ap (λ l. spans_after (before ++ p ∷ []) ps ++ last_span (l ++ page ∷ []) ∷ []) (append_assoc before (p ∷ []) ps))

pub places-next : (before pages : List Page) (page : Page)
    → places_after before (pages ++ page ∷ []) ≡ places_after before pages ++ placed (samples_on (audio_in (before ++ pages))) (last_span ((before ++ pages) ++ page ∷ [])) ∷ []
unfolding places_after
places-next before [] page = ap (λ l. placed (samples_on (audio_in l)) (last_span (l ++ page ∷ [])) ∷ []) (sym (append-nil before))
places-next before (p ∷ ps) page =
    ap (λ l. placed (samples_on (audio_in before)) (last_span (before ++ p ∷ [])) ∷ l) (places-next (before ++ p ∷ []) ps page
    ∙ ap (λ l. places_after (before ++ p ∷ []) ps ++ placed (samples_on (audio_in l)) (last_span (l ++ page ∷ [])) ∷ []) (append_assoc before (p ∷ []) ps))

abbrev pub Precedes : Span → Span → Type 0
Precedes s t = s.to ≤ t.from

-- every span ends where the samples of the pages end, or before
abbrev Within : List Span → ℕ → Type 0
Within spans end = (k : ℕ) (d : Span) → k < length spans → (get_or spans k d).to ≤ end

within-next : (spans : List Span) (s : Span) (end now : ℕ) → Within spans end → end ≤ now → s.to ≤ now → Within (spans ++ s ∷ []) now
within-next [] s end now w h g zero d i = g
within-next [] s end now w h g (suc k) d i = absurd (omega arith)
within-next (x ∷ xs) s end now w h g zero d i = let f = w 0 d (omega arith) in omega arith
within-next (x ∷ xs) s end now w h g (suc k) d i = within-next xs s end now (λ j e inside. w (suc j) e (omega arith)) h g k d (omega arith)

pub record Spanned (pages : List Page) : Type 0 where
  pub full : length (body_in (audio_in pages)) ≡ sum (lacing_in (audio_in pages))
  pub apart : AllPairs Precedes (places_after [] pages)
  pub within : Within (places_after [] pages) (samples_on (audio_in pages))
  pub total : written_in pages ≡ given_on (audio_in pages) - preskip_of (head_in pages)

none_given : given_on [] ≡ 0
unfolding given_on end_granule packets_in lengths_from
none_given = refl

none_samples : samples_on [] ≡ 0
unfolding packets_in lengths_from
none_samples = refl

none_audio : audio_in [] ≡ []
unfolding behind_tags
none_audio = refl

pub none_spanned : Spanned []
unfolding places_after written_in spans_after behind_tags
none_spanned = record {
  full = refl;
  apart = λ i j d less inside. absurd (omega arith);
  within = λ k d inside. absurd (omega arith);
  total = let g = none_given in omega arith;
}

-- one page more, by what it adds: its packets, the samples before it, up to it, and how many of these are given
pub record Grows (front : List Page) (page : Page) : Type 0 where
  pub fresh : List (List ℕ)
  pub before : ℕ
  pub now : ℕ
  pub given : ℕ
  pub skip : ℕ
  pub packets : audio_packets (front ++ page ∷ []) ≡ audio_packets front ++ fresh
  pub few : length fresh ≤ length page.lacing
  pub sound : All IsPlayable fresh
  pub samples_before : samples_on (audio_in front) ≡ before
  pub given_before : given_on (audio_in front) ≡ before
  pub samples_now : samples_on (audio_in (front ++ page ∷ [])) ≡ now
  pub given_now : given_on (audio_in (front ++ page ∷ [])) ≡ given
  pub low : before ≤ given
  pub high : given ≤ now
  pub skip_now : preskip_of (head_in (front ++ page ∷ [])) ≡ skip
  pub skip_before : (preskip_of (head_in front) ≡ skip) ⊎ (before ≡ 0)
  pub span_is : last_span (front ++ page ∷ []) ≡ span (skip - before) (given - before)
  pub full : length (body_in (audio_in (front ++ page ∷ []))) ≡ sum (lacing_in (audio_in (front ++ page ∷ [])))

-- its packets are those that end on it, and the samples that it adds are theirs
pub fresh_last : (front : List Page) (page : Page) (g : Grows front page) → last_packets (front ++ page ∷ []) ≡ g.fresh
unfolding last_packets
fresh_last front page g =
    ap (λ l. drop (length (audio_packets l)) (audio_packets (front ++ page ∷ []))) (before-next front page)
    ∙ ap (drop (length (audio_packets front))) g.packets ∙ drop_at (audio_packets front) g.fresh (length (audio_packets front)) refl

pub fresh_samples : (front : List Page) (page : Page) (g : Grows front page) → g.now ≡ g.before + samples_in g.fresh
fresh_samples front page g =
    sym g.samples_now ∙ ap samples_in g.packets ∙ sum_by-append packet_samples (audio_packets front) g.fresh ∙ ap (λ n. n + samples_in g.fresh) g.samples_before

grown : (front : List Page) (page : Page) → Spanned front → Grows front page → Spanned (front ++ page ∷ [])
unfolding written_in
grown front page s g =
    let before = g.before in
    let given = g.given in
    let skip = g.skip in
    let at = g.samples_before in
    let low = g.low in
    let high = g.high in
    let all = g.samples_now in
    let b = span-bounds (skip - before) (given - before) in
    let last = last_span (front ++ page ∷ []) in
    let to_small : last.to ≤ given - before = subst (λ (x : Span). x.to ≤ given - before) (sym g.span_is) b.0 in
    let size : span_len last ≡ (given - before) - (skip - before) = ap span_len g.span_is ∙ b.1 in
    let place = placed (samples_on (audio_in front)) last in
    let places : places_after [] (front ++ page ∷ []) ≡ places_after [] front ++ place ∷ [] = places-next [] front page in
    let spans : spans_after [] (front ++ page ∷ []) ≡ spans_after [] front ++ last ∷ [] = spans-next [] front page in
    let total : sum_by span_len (spans_after [] (front ++ page ∷ [])) ≡ sum_by span_len (spans_after [] front) + (span_len last + 0) =
    ap (sum_by span_len) spans ∙ sum_by-append span_len (spans_after [] front) (last ∷ []) ∙ ap (λ n. sum_by span_len (spans_after [] front) + n) (sum_by-cons span_len last []) in
    let skipped : given_on (audio_in front) - preskip_of (head_in front) ≡ before - skip = ap (λ n. n - preskip_of (head_in front)) g.given_before ∙ same_skip (preskip_of (head_in front)) before skip g.skip_before in
    let before_total : sum_by span_len (spans_after [] front) ≡ before - skip = s.total ∙ skipped in
    record {
      full = g.full;
      apart = subst (AllPairs Precedes) (sym places) (all_pairs_push Precedes (places_after [] front) place s.apart
          (λ k d inside. let w = s.within k d inside in omega arith));
      within = subst (λ l. Within l (samples_on (audio_in (front ++ page ∷ [])))) (sym places)
          (within-next (places_after [] front) place (samples_on (audio_in front)) (samples_on (audio_in (front ++ page ∷ []))) s.within (omega arith) (omega arith));
      total = total ∙ (let e : sum_by span_len (spans_after [] front) + (span_len last + 0) ≡ given - skip = omega arith in e)
          ∙ (λ i. sym g.given_now i - sym g.skip_now i);
    }
  where
    same_skip : (n before skip : ℕ) → (n ≡ skip) ⊎ (before ≡ 0) → before - n ≡ before - skip
    same_skip n before skip (inl e) = omega arith
    same_skip n before skip (inr e) = omega arith

-- ---- one page more

span-none : (from : ℕ) → span from 0 ≡ record { from = 0; to = 0 }
span-none from = let t : nat_lt from 0 ≡ false = le-ltb from 0 (omega arith) in rw t refl

any-first : (p : Page) (ps : List Page) → has_tags (p ∷ ps) ≡ (ends_packet p || has_tags ps)
any-first p ps = list_any-append ends_packet (p ∷ []) ps ∙ ap (λ t. t || has_tags ps) (one (ends_packet p)) where
  one : (b : Bool) → (b || false) ≡ b
  one true = refl
  one false = refl

behind-untagged : (rest : List Page) → has_tags rest ≡ false → behind_tags rest ≡ []
unfolding behind_tags
behind-untagged [] h = refl
behind-untagged (p ∷ ps) h = by_test (cases_Bool (ends_packet p)) (behind-untagged ps) where
  by_test : (ends_packet p ≡ true) ⊎ (ends_packet p ≡ false) → (has_tags ps ≡ false → behind_tags ps ≡ []) → behind_tags (p ∷ ps) ≡ []
  by_test (inl e) again = let f : true ≡ false = sym (any-first p ps ∙ ap (λ t. t || has_tags ps) e) ∙ h in let g : ⊥ = cc in absurd g
  by_test (inr e) again = let r : has_tags ps ≡ false = sym (any-first p ps ∙ ap (λ t. t || has_tags ps) e) ∙ h in rw e (again r)

head-kept : (head : Page) (rest : List Page) (page : Page) → head_in ((head ∷ rest) ++ page ∷ []) ≡ head_in (head ∷ rest)
unfolding head_in
head-kept head rest page = refl

-- a page of a header gives nothing
header_grows : (front : List Page) (page : Page) → audio_in front ≡ [] → audio_in (front ++ page ∷ []) ≡ [] → Grows front page
header_grows front page before now =
    let skip = preskip_of (head_in (front ++ page ∷ [])) in
    let g : Gives (record { packets = 0; before = 0; written = record { from = 0; to = 0 } }) (record { given = []; offered = []; left = 0 }) page (front ++ page ∷ []) = nothing 0 0 (record { given = []; offered = []; left = 0 }) page (front ++ page ∷ []) now in
    let z : 0 - 0 ≡ 0 = omega arith in
    record {
      fresh = [];
      before = 0;
      now = 0;
      given = 0;
      skip = skip;
      packets = ap packets_in now ∙ sym (ap packets_in before) ∙ sym (append-nil (audio_packets front));
      few = omega arith;
      sound = All-nil IsPlayable;
      samples_before = ap samples_on before ∙ none_samples;
      given_before = ap given_on before ∙ none_given;
      samples_now = ap samples_on now ∙ none_samples;
      given_now = ap given_on now ∙ none_given;
      low = omega arith;
      high = omega arith;
      skip_now = refl;
      skip_before = inr refl;
      span_is = sym g.span ∙ sym (ap (span (skip - 0)) z ∙ span-none (skip - 0));
      full = ap (λ l. length (body_in l)) now ∙ sym (ap (λ l. sum (lacing_in l)) now);
    }

audio_grows : (head : Page) (rest : List Page) (page : Page) → length (body_in (audio_in (head ∷ rest))) ≡ sum (lacing_in (audio_in (head ∷ rest)))
    → page_fault (head ∷ rest) page ≡ None → IsFull page → has_tags rest ≡ true → Grows (head ∷ rest) page
audio_grows head rest page full passes whole tagged =
    let front = head ∷ rest in
    let a = behind_tags rest in
    let now = a ++ page ∷ [] in
    let going : is_ended a ≡ false = ended-behind rest (ended-cons head rest (passes_going front page passes)) in
    let j = joins a page full whole in
    let fresh = packets_on page.lacing (open_in a ++ page.body) (length (open_in a)) in
    let behind : behind_tags (rest ++ page ∷ []) ≡ now = behind-next rest page tagged in
    let sums : samples_on now ≡ samples_on a + samples_in fresh = ap samples_in j.packets ∙ sum_by-append packet_samples (packets_in a) fresh in
    let b = given-bounds a page going (passes_granule head rest page passes tagged) (omega arith) in
    let tests = audio_tests (length front) a page (passes_audio head rest page passes tagged) in
    let count : length fresh ≡ length (lengths_from (length (open_in a)) page.lacing) = length-parts (lengths_from (length (open_in a)) page.lacing) (open_in a ++ page.body) in
    let few = lengths-few (length (open_in a)) page.lacing in
    record {
      fresh = fresh;
      before = samples_on a;
      now = samples_on now;
      given = given_on now;
      skip = preskip_of (head_in front);
      packets = ap packets_in behind ∙ j.packets;
      few = omega arith;
      sound = subst (All IsPlayable) (ap (drop (length (packets_in a))) j.packets ∙ drop_at (packets_in a) fresh (length (packets_in a)) refl)
          (packets_playable (length (packets_in a)) (drop (length (packets_in a)) (packets_in now)) (open_in now) tests.0);
      samples_before = refl;
      given_before = given-open a going;
      samples_now = ap samples_on behind;
      given_now = ap given_on behind;
      low = b.0;
      high = b.1;
      skip_now = ap preskip_of (head-kept head rest page);
      skip_before = inl refl;
      span_is = span_last head rest page tagged;
      full = ap (λ l. length (body_in l)) behind ∙ j.full ∙ sym (ap (λ l. sum (lacing_in l)) behind);
    }

pub grows : (front : List Page) (page : Page) → length (body_in (audio_in front)) ≡ sum (lacing_in (audio_in front)) → page_fault front page ≡ None → IsFull page → Grows front page
grows [] page full passes whole = header_grows [] page none_audio none_audio
grows (head ∷ rest) page full passes whole = by_test (cases_Bool (has_tags rest)) where
  by_test : (has_tags rest ≡ true) ⊎ (has_tags rest ≡ false) → Grows (head ∷ rest) page
  by_test (inl t) = audio_grows head rest page full passes whole t
  by_test (inr t) = header_grows (head ∷ rest) page (behind-untagged rest t) (behind-none rest page t)

pub spanned_next : Steps IsFull Spanned
spanned_next front page s passes whole = grown front page s (grows front page s.full passes whole)

pub spanned : (bytes : List ℕ) → Spanned (accepted bytes)
spanned bytes = accepted_each IsFull Spanned none_spanned spanned_next bytes (bytes_full bytes)
