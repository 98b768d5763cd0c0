-- What accepted pages give: which samples are written, that their packets may be played, and how many there are.
use Rattle.std.proofs.Common.{◌≡◌, ℕ, zero, suc, ℤ, ◌+◌, ◌-◌, ◌*◌, ◌<◌, ◌≤◌, Bool, true, false, List, [], ◌∷◌, ◌++◌, length, take, drop, nat_lt, refl, sym, ◌∙◌, ap, subst, arith, append-nil, length-append, length-take, length-drop, take-add, ◌⊎◌, inl, inr, Option, Some, None}
use Rattle.std.specs.Prelude.{slice_get, if◌then◌else◌}
use Rattle.std.specs.List.{All, flat_map}
use Rattle.std.proofs.lemmas.Bool.{cases_lt, lt-ltb, le-ltb}
use Rattle.std.proofs.lemmas.List.{drop_all, drop-take, drop-append-le, take-append-le, take_all}
use Rattle.std.proofs.lemmas.List.Concat.{flat_map-append}
use Rattle.std.proofs.lemmas.List.Sums.{sum_by-cons}
use Rattle.std.proofs.lemmas.List.Elements.{All-head, All-tail, All-nil, All-append}
use Rattle.celt_base.specs.declared.status.Fault.{Fault}
use Rattle.ogg_pages.specs.declared.page.Verdict.{Verdict}
use Rattle.ogg_pages.specs.declared.page.Verdict.TheVariants as verdicts
use Rattle.ogg_pages.specs.Verdicts.{verdict}
use Rattle.ogg_pages.specs.Fields.{Page, page_of}
use Rattle.ogg_pages.specs.Spelling.{AreBytes}
use Rattle.ogg_pages.specs.Stream.{Stream, after_verdict, stream_in, stream}
use Rattle.ogg_pages.proofs.ByteLists.{bytes-take, bytes-drop}
use Rattle.ogg_pages.proofs.Judged.{sound_of, page_len-take}
use Rattle.opus_stream.specs.declared.answers.Span.{Span}
use Rattle.opus_stream.specs.Packets.{lengths_from, lengths_in, lacing_in, packets_in, ends_packet}
use Rattle.opus_stream.specs.Audio.{IsPlayable, samples_in}
use Rattle.opus_stream.specs.Granules.{samples_on, given_on, span}
use Rattle.opus_stream.specs.Tests.{is_ended, behind_tags, page_fault}
use Rattle.opus_stream.specs.Acceptance.{accepted_after, accepted, head_in, preskip_of, audio_in, audio_packets, before_last, last_packets, last_span, page_size, size_of, given_pages}
use Rattle.opus_stream.specs.Spans.{placed, places_after, cut_out, written_of}
use Rattle.opus_stream.proofs.Cutting.{samples_in_few}
use Rattle.opus_stream.proofs.Grants.{given-open}
use Rattle.opus_stream.proofs.Hearing.{ended-cons, ended-behind}
use Rattle.opus_stream.proofs.Joining.{length-parts, lengths-few}
use Rattle.opus_stream.proofs.Lasting.{accepted_one, accepted_stop, accepted_none}
use Rattle.opus_stream.proofs.Placing.{before-next}
use Rattle.opus_stream.proofs.Sizes.{few, size}
use Rattle.opus_stream.proofs.Spanning.{AreAll, Steps, IsFull, page_full, bytes_full, stream_all, accepted_each, span-bounds, places-next, Spanned, none_spanned, Grows, fresh_last, fresh_samples, grows, spanned_next}

-- ---- what is cut out of the samples

cut_none : (xs : List ℤ) (from : ℕ) → cut_out xs (record { from = from; to = from }) ≡ []
cut_none xs from = let z : from - from ≡ 0 = omega arith in ap (λ n. take n (drop from xs)) z

short_front : (xs : List ℤ) (skip n : ℕ) → n ≤ skip → drop skip (take n xs) ≡ []
short_front xs skip n h = drop_all skip (take n xs) (simp length-take (omega arith))

-- the samples of a page behind those of the pages before it
cut_next : (xs : List ℤ) (before given skip : ℕ) → before ≤ given → given ≤ length xs
    → drop skip (take before xs) ++ cut_out xs (placed before (span (skip - before) (given - before))) ≡ drop skip (take given xs)
cut_next xs before given skip low high = by_order (cases_lt (skip - before) (given - before)) (cases_lt before skip) where
  nothing : given - before ≤ skip - before → placed before (span (skip - before) (given - before)) ≡ record { from = before; to = before }
  nothing h =
      let t : nat_lt (skip - before) (given - before) ≡ false = le-ltb (skip - before) (given - before) h in
      let z : before + 0 ≡ before = omega arith in
      ap (λ b. placed before (if b then record { from = skip - before; to = given - before } else record { from = 0; to = 0 })) t ∙ (λ i. record { from = z i; to = z i })

  something : skip - before < given - before → placed before (span (skip - before) (given - before)) ≡ record { from = before + (skip - before); to = given }
  something h =
      let t : nat_lt (skip - before) (given - before) ≡ true = lt-ltb (skip - before) (given - before) h in
      let z : before + (given - before) ≡ given = omega arith in
      ap (λ b. placed before (if b then record { from = skip - before; to = given - before } else record { from = 0; to = 0 })) t ∙ ap (λ n. record { from = before + (skip - before); to = n }) z

  no_cut : given - before ≤ skip - before → cut_out xs (placed before (span (skip - before) (given - before))) ≡ []
  no_cut h = ap (cut_out xs) (nothing h) ∙ cut_none xs before

  by_order : (skip - before < given - before) ⊎ (given - before ≤ skip - before) → (before < skip) ⊎ (skip ≤ before)
      → drop skip (take before xs) ++ cut_out xs (placed before (span (skip - before) (given - before))) ≡ drop skip (take given xs)
  by_order (inr h) (inl less) = ap (λ l. drop skip (take before xs) ++ l) (no_cut h) ∙ append-nil (drop skip (take before xs)) ∙ short_front xs skip before (omega arith) ∙ sym (short_front xs skip given (omega arith))
  by_order (inr h) (inr some) =
      let same : before ≡ given = omega arith in
      ap (λ l. drop skip (take before xs) ++ l) (no_cut h) ∙ append-nil (drop skip (take before xs)) ∙ ap (λ n. drop skip (take n xs)) same
  by_order (inl h) (inl less) =
      let from : before + (skip - before) ≡ skip = omega arith in
      let sum_is : skip + (given - skip) ≡ given = omega arith in
      ap (λ l. l ++ cut_out xs (placed before (span (skip - before) (given - before)))) (short_front xs skip before (omega arith))
      ∙ ap (cut_out xs) (something h ∙ ap (λ n. record { from = n; to = given }) from)
      ∙ sym (drop-take skip (given - skip) xs) ∙ ap (λ n. drop skip (take n xs)) sum_is
  by_order (inl h) (inr some) =
      let from : before + (skip - before) ≡ before = omega arith in
      let sum_is : before + (given - before) ≡ given = omega arith in
      let long : length (take before xs) ≡ before = simp length-take (omega arith) in
      ap (λ l. drop skip (take before xs) ++ l) (ap (cut_out xs) (something h ∙ ap (λ n. record { from = n; to = given }) from))
      ∙ sym (drop-append-le skip (take before xs) (take (given - before) (drop before xs)) (omega arith))
      ∙ ap (drop skip) (sym (take-add before (given - before) xs) ∙ ap (λ n. take n xs) sum_is)

-- ---- accepted pages

pub record Told (pages : List Page) : Type 0 where
  pub spanned : Spanned pages
  pub joined : (samples : List ℤ) → samples_on (audio_in pages) ≤ length samples → written_of samples pages ≡ drop (preskip_of (head_in pages)) (take (given_on (audio_in pages)) samples)
  pub trims : samples_on (audio_in (before_last pages)) ≤ given_on (audio_in pages)
  pub kept : given_on (audio_in pages) ≤ samples_on (audio_in pages)
  pub reach : (last_span pages).to ≤ samples_in (last_packets pages)
  pub sound : All IsPlayable (audio_packets pages)
  pub last : All IsPlayable (last_packets pages)

none_given : given_on [] ≡ 0
unfolding given_on Rattle.opus_stream.specs.Granules.end_granule packets_in lengths_from
none_given = refl

none_samples : samples_on [] ≡ 0
unfolding packets_in lengths_from
none_samples = refl

none_audio : audio_in [] ≡ []
unfolding behind_tags
none_audio = refl

none_packets : packets_in [] ≡ []
unfolding packets_in lengths_from
none_packets = refl

none_last : last_packets [] ≡ []
unfolding last_packets behind_tags packets_in lengths_from
none_last = refl

none_span : (last_span []).to ≡ 0
unfolding last_span head_in behind_tags Rattle.opus_stream.specs.Granules.span_on given_on Rattle.opus_stream.specs.Granules.end_granule packets_in lengths_from
none_span = refl

none_places : (samples : List ℤ) → written_of samples [] ≡ []
unfolding places_after
none_places samples = refl

pub none_told : Told []
none_told =
    let given : given_on (audio_in []) ≡ 0 = ap given_on none_audio ∙ none_given in
    let all : samples_on (audio_in []) ≡ 0 = ap samples_on none_audio ∙ none_samples in
    record {
      spanned = none_spanned;
      joined = λ samples h. none_places samples ∙ sym (ap (λ n. drop (preskip_of (head_in [])) (take n samples)) given ∙ drop_all (preskip_of (head_in [])) [] (omega arith));
      trims = omega arith;
      kept = omega arith;
      reach = let e = none_span in omega arith;
      sound = subst (All IsPlayable) (sym (ap packets_in none_audio ∙ none_packets)) (All-nil IsPlayable);
      last = subst (All IsPlayable) (sym none_last) (All-nil IsPlayable);
    }

-- what was written of the pages before a page
front_written : (front : List Page) (page : Page) (t : Told front) (g : Grows front page) (samples : List ℤ) → g.now ≤ length samples → written_of samples front ≡ drop g.skip (take g.before samples)
front_written front page t g samples h =
    let low = g.low in
    let high = g.high in
    let all = g.samples_before in
    t.joined samples (omega arith) ∙ ap (λ n. drop (preskip_of (head_in front)) (take n samples)) g.given_before ∙ by_skip g.skip_before
  where
    by_skip : (preskip_of (head_in front) ≡ g.skip) ⊎ (g.before ≡ 0) → drop (preskip_of (head_in front)) (take g.before samples) ≡ drop g.skip (take g.before samples)
    by_skip (inl e) = ap (λ n. drop n (take g.before samples)) e
    by_skip (inr e) =
        ap (λ n. drop (preskip_of (head_in front)) (take n samples)) e ∙ drop_all (preskip_of (head_in front)) [] (omega arith)
        ∙ sym (ap (λ n. drop g.skip (take n samples)) e ∙ drop_all g.skip [] (omega arith))

joined_next : (front : List Page) (page : Page) (t : Told front) (g : Grows front page) (samples : List ℤ) → samples_on (audio_in (front ++ page ∷ [])) ≤ length samples
    → written_of samples (front ++ page ∷ []) ≡ drop (preskip_of (head_in (front ++ page ∷ []))) (take (given_on (audio_in (front ++ page ∷ []))) samples)
joined_next front page t g samples h =
    let now = front ++ page ∷ [] in
    let place = placed (samples_on (audio_in front)) (last_span now) in
    let all = g.samples_now in
    let high = g.high in
    let there : g.now ≤ length samples = omega arith in
    ap (flat_map (cut_out samples)) (places-next [] front page)
    ∙ flat_map-append (cut_out samples) (places_after [] front) (place ∷ [])
    ∙ ap (λ l. written_of samples front ++ l) (append-nil (cut_out samples place))
    ∙ ap (λ l. l ++ cut_out samples place) (front_written front page t g samples there)
    ∙ ap (λ n. drop g.skip (take g.before samples) ++ cut_out samples (placed n (last_span now))) g.samples_before
    ∙ ap (λ s. drop g.skip (take g.before samples) ++ cut_out samples (placed g.before s)) g.span_is
    ∙ cut_next samples g.before g.given g.skip g.low (omega arith)
    ∙ ap (λ n. drop n (take g.given samples)) (sym g.skip_now)
    ∙ ap (λ n. drop (preskip_of (head_in now)) (take n samples)) (sym g.given_now)

pub told_next : Steps IsFull Told
told_next front page t passes whole =
    let g = grows front page t.spanned.full passes whole in
    let now = front ++ page ∷ [] in
    let low = g.low in
    let high = g.high in
    let given = g.given_now in
    let all = g.samples_now in
    let before : samples_on (audio_in (before_last now)) ≡ g.before = ap (λ l. samples_on (audio_in l)) (before-next front page) ∙ g.samples_before in
    let added = fresh_samples front page g in
    let mine : samples_in (last_packets now) ≡ samples_in g.fresh = ap samples_in (fresh_last front page g) in
    let b = span-bounds (g.skip - g.before) (g.given - g.before) in
    let to_small : (last_span now).to ≤ g.given - g.before = subst (λ (x : Span). x.to ≤ g.given - g.before) (sym g.span_is) b.0 in
    record {
      spanned = spanned_next front page t.spanned passes whole;
      joined = joined_next front page t g;
      trims = omega arith;
      kept = omega arith;
      reach = omega arith;
      sound = subst (All IsPlayable) (sym g.packets) (All-append IsPlayable (audio_packets front) g.fresh t.sound g.sound);
      last = subst (All IsPlayable) (sym (fresh_last front page g)) g.sound;
    }

pub told : (bytes : List ℕ) → Told (accepted bytes)
told bytes = accepted_each IsFull Told none_told told_next bytes (bytes_full bytes)

-- before a last page all is given
pub all_given : (pages : List Page) → is_ended pages ≡ false → given_on (audio_in pages) ≡ samples_on (audio_in pages)
all_given [] h = given-open (audio_in []) (ap is_ended none_audio)
all_given (page ∷ pages) h = given-open (behind_tags pages) (ended-behind pages (ended-cons page pages h))

-- ---- the first of the accepted pages

-- what holds of no page, and of one page more, holds of every front of the accepted pages
abbrev Fronts : (List Page → Type 0) → List Page → Type 0
Fronts P pages = (n : ℕ) → P (take n pages)

fronts_next : (Q : Page → Type 0) (P : List Page → Type 0) → Steps Q P → Steps Q (Fronts P)
fronts_next Q P step front page p passes q = λ n. by_order n (cases_lt (length front) n) where
  whole : P front
  whole = subst P (take_all (length front) front (omega arith)) (p (length front))

  by_order : (n : ℕ) → (length front < n) ⊎ (n ≤ length front) → P (take n (front ++ page ∷ []))
  by_order n (inl h) = subst P (sym (take_all n (front ++ page ∷ []) (let l = length-append front (page ∷ []) in omega arith))) (step front page whole passes q)
  by_order n (inr h) = subst P (sym (take-append-le n front (page ∷ []) h)) (p n)

pub accepted_fronts : (Q : Page → Type 0) (P : List Page → Type 0) → P [] → Steps Q P → (bytes : List ℕ) → AreAll Q (stream bytes).pages → (n : ℕ) → P (take n (accepted bytes))
accepted_fronts Q P none step bytes all = accepted_each Q (Fronts P) (λ n. subst P (sym (take_all n [] (omega arith))) none) (fronts_next Q P step) bytes all

pub told_given : (bytes : List ℕ) (given : ℕ) → Told (given_pages bytes given)
told_given bytes given = accepted_fronts IsFull Told none_told told_next bytes (bytes_full bytes) given

-- a packet that is one of them may be played
found : (packets : List (List ℕ)) (i : ℕ) (packet : List ℕ) → All IsPlayable packets → slice_get packets i ≡ Some packet → IsPlayable packet
found [] zero packet all e = let f : ⊥ = cc in absurd f
found [] (suc i) packet all e = let f : ⊥ = cc in absurd f
found (p ∷ ps) zero packet all e = let same : p ≡ packet = cc in subst IsPlayable same (All-head IsPlayable p ps all)
found (p ∷ ps) (suc i) packet all e = found ps i packet (All-tail IsPlayable p ps all) e

pub found_sound : (bytes : List ℕ) (given i : ℕ) (packet : List ℕ) → slice_get (last_packets (given_pages bytes given)) i ≡ Some packet → IsPlayable packet
found_sound bytes given i packet e = found (last_packets (given_pages bytes given)) i packet (told_given bytes given).last e

-- ---- counts

-- a page of bytes has at most 255 segments
abbrev pub IsShort : Page → Type 0
IsShort page = IsFull page × (length page.lacing ≤ 255)

pub bytes_short : (bytes : List ℕ) → AreBytes bytes → AreAll IsShort (stream bytes).pages
bytes_short bytes small = stream_all IsShort AreBytes (λ l n s e. ((page_full l n e, few (take n l) (bytes-take n l s)), bytes-drop n l s)) bytes small

record Laced (pages : List Page) : Type 0 where
  pub told : Told pages
  pub few : length (last_packets pages) ≤ 255

laced_next : Steps IsShort Laced
laced_next front page l passes short =
    let g = grows front page l.told.spanned.full passes short.0 in
    let e : length (last_packets (front ++ page ∷ [])) ≡ length g.fresh = ap length (fresh_last front page g) in
    let f = g.few in
    let s = short.1 in
    record { told = told_next front page l.told passes short.0; few = omega arith }

none_laced : Laced []
none_laced = let e : length (last_packets []) ≡ 0 = ap length none_last in record { told = none_told; few = omega arith }

pub packets_few : (bytes : List ℕ) (given : ℕ) → AreBytes bytes → length (last_packets (given_pages bytes given)) ≤ 255
packets_few bytes given small = (accepted_fronts IsShort Laced none_laced laced_next bytes (bytes_short bytes small) given).few

-- the pages of some bytes are no longer than these
turn_size : (more : List ℕ → Stream) (bytes : List ℕ) (v : Verdict) → verdict bytes ≡ v → ((l : List ℕ) → size_of (more l).pages ≤ length l) → size_of (after_verdict more bytes v).pages ≤ length bytes
turn_size more bytes (verdicts.Whole n) e again =
    let s = sound_of bytes n e in
    let inside = s.inside in
    let page = page_of (take n bytes) in
    let len : length (take n bytes) ≡ n = simp length-take (omega arith) in
    let one : length (take n bytes) ≡ page_size page = size (take n bytes) (page_len-take bytes n s.length_is s.inside ∙ sym len) in
    let rest = again (drop n bytes) in
    let behind : length (drop n bytes) ≡ length bytes - n = length-drop n bytes in
    let all : size_of (page ∷ (more (drop n bytes)).pages) ≡ page_size page + size_of (more (drop n bytes)).pages = sum_by-cons page_size page (more (drop n bytes)).pages in
    omega arith
turn_size more bytes verdicts.Need e again = omega arith
turn_size more bytes (verdicts.Fault fault) e again = omega arith

stream_in_size : (turns : ℕ) (bytes : List ℕ) → size_of (stream_in turns bytes).pages ≤ length bytes
unfolding stream_in
stream_in_size zero bytes = omega arith
stream_in_size (suc turns) bytes = turn_size (stream_in turns) bytes (verdict bytes) refl (stream_in_size turns)

stream_size : (bytes : List ℕ) → size_of (stream bytes).pages ≤ length bytes
unfolding stream
stream_size bytes = stream_in_size (length bytes) bytes

after_size : (before pages : List Page) → size_of (accepted_after before pages) ≤ size_of pages
after_size before [] = let e : size_of (accepted_after before []) ≡ 0 = ap size_of (accepted_none before) in omega arith
after_size before (page ∷ pages) = by_fault (page_fault before page) refl (after_size (before ++ page ∷ []) pages) where
  by_fault : (f : Option Fault) → page_fault before page ≡ f → size_of (accepted_after (before ++ page ∷ []) pages) ≤ size_of pages → size_of (accepted_after before (page ∷ pages)) ≤ size_of (page ∷ pages)
  by_fault None e again =
      let a : size_of (accepted_after before (page ∷ pages)) ≡ page_size page + size_of (accepted_after (before ++ page ∷ []) pages) =
      ap size_of (accepted_one before page pages e) ∙ sum_by-cons page_size page (accepted_after (before ++ page ∷ []) pages) in
      let b : size_of (page ∷ pages) ≡ page_size page + size_of pages = sum_by-cons page_size page pages in
      omega arith
  by_fault (Some fault) e again = let a : size_of (accepted_after before (page ∷ pages)) ≡ 0 = ap size_of (accepted_stop before page pages fault e) in omega arith

pub accepted_size : (bytes : List ℕ) → size_of (accepted bytes) ≤ length bytes
unfolding accepted
accepted_size bytes = let a = after_size [] (stream bytes).pages in let b = stream_size bytes in omega arith

pages_count : (pages : List Page) → 27 * length pages ≤ size_of pages
pages_count [] = omega arith
pages_count (page ∷ pages) = let e : size_of (page ∷ pages) ≡ page_size page + size_of pages = sum_by-cons page_size page pages in let a = pages_count pages in omega arith

lacing_count : (pages : List Page) → length (lacing_in pages) ≤ size_of pages
lacing_count [] = omega arith
lacing_count (page ∷ pages) =
    let e : size_of (page ∷ pages) ≡ page_size page + size_of pages = sum_by-cons page_size page pages in
    let l : length (lacing_in (page ∷ pages)) ≡ length page.lacing + length (lacing_in pages) = length-append page.lacing (lacing_in pages) in
    let a = lacing_count pages in
    omega arith

behind_size : (pages : List Page) → size_of (behind_tags pages) ≤ size_of pages
unfolding behind_tags
behind_size [] = omega arith
behind_size (page ∷ pages) = by_test (ends_packet page) (behind_size pages) (sum_by-cons page_size page pages) where
  by_test : (b : Bool) → size_of (behind_tags pages) ≤ size_of pages → size_of (page ∷ pages) ≡ page_size page + size_of pages → size_of (if b then pages else behind_tags pages) ≤ size_of (page ∷ pages)
  by_test true again e = omega arith
  by_test false again e = omega arith

audio_size : (pages : List Page) → size_of (audio_in pages) ≤ size_of pages
audio_size [] = let e : size_of (audio_in []) ≡ 0 = ap size_of none_audio in omega arith
audio_size (page ∷ pages) = let e : size_of (page ∷ pages) ≡ page_size page + size_of pages = sum_by-cons page_size page pages in let a = behind_size pages in omega arith

packets_count : (pages : List Page) → length (packets_in pages) ≤ length (lacing_in pages)
unfolding packets_in
packets_count pages = let e = length-parts (lengths_in pages) (Rattle.opus_stream.specs.Packets.body_in pages) in let f = lengths-few 0 (lacing_in pages) in omega arith

pub record Counted (bytes : List ℕ) : Type 0 where
  pub pages : 27 * length (accepted bytes) ≤ length bytes
  pub packets : length (audio_packets (accepted bytes)) ≤ length bytes
  pub samples : samples_on (audio_in (accepted bytes)) ≤ 5760 * length (audio_packets (accepted bytes))

pub counted : (bytes : List ℕ) → Counted bytes
counted bytes =
    let pages = accepted bytes in
    let all = accepted_size bytes in
    let a = pages_count pages in
    let b = packets_count (audio_in pages) in
    let c = lacing_count (audio_in pages) in
    let d = audio_size pages in
    record { pages = omega arith; packets = omega arith; samples = samples_in_few (audio_packets pages) }
