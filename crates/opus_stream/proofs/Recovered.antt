-- Bytes without a fault are the joined spellings of pages that carry headers and sound audio packets.
use Rattle.std.proofs.Common.{◌≡◌, ℕ, zero, suc, ◌+◌, ◌-◌, ◌*◌, ◌%◌, ◌^◌, ◌<◌, ◌≤◌, Bool, true, false, not, List, [], ◌∷◌, ◌++◌, length, take, drop, sum, get_or, map, refl, sym, ◌∙◌, ap, subst, arith, append_assoc, append-nil, length-append, length-drop, nat_lt, ◌⊎◌, inl, inr, Option, Some, None, Result, Ok, Err}
use Rattle.std.specs.Prelude.{◌==◌, ◌&&◌, ◌||◌, slice_index, if◌then◌else◌}
use Rattle.std.specs.List.{All, flat_map, concat, list_any}
use Rattle.std.proofs.lemmas.Bool.{cases_Bool, eqb-true, eqb-false, and_parts}
use Rattle.std.proofs.lemmas.List.{drop_at, take-append-drop}
use Rattle.std.proofs.lemmas.List.Folds.{list_any-append}
use Rattle.std.proofs.lemmas.List.Elements.{All-head, All-tail, All-nil, All-cons, All-append}
use Rattle.celt_base.specs.declared.status.Fault.{Fault}
use Rattle.celt_base.specs.declared.status.FaultName.TheVariants as names
use Rattle.opus_packets.specs.Cut.{Cut, parts}
use Rattle.opus_packets.specs.declared.fault.PacketFault.{PacketFault}
use Rattle.opus_packets.specs.Packet.{config_of, cut_of}
use Rattle.opus_packets.specs.declared.header.Head.{Head}
use Rattle.opus_packets.specs.declared.header.HeadFault.{HeadFault}
use Rattle.opus_packets.specs.declared.header.HeadFault.TheVariants.{Bad, Family}
use Rattle.opus_packets.specs.Header.{head_of}
use Rattle.ogg_pages.specs.declared.page.Verdict.{Verdict}
use Rattle.ogg_pages.specs.declared.page.Verdict.TheVariants as verdicts
use Rattle.ogg_pages.specs.Verdicts.{verdict}
use Rattle.ogg_pages.specs.Fields.{Page, page_of}
use Rattle.ogg_pages.specs.Spelling.{AreBytes, IsPage, spelling, packet_lacing}
use Rattle.ogg_pages.specs.Stream.{Stream, Ending, Sound, Cut as Short, Broken, ending_of, ending_by, no_page, stream}
use Rattle.ogg_pages.proofs.ByteLists.{bytes-append, bytes-drop, bytes-nil}
use Rattle.ogg_pages.proofs.Joined.{joined_pages}
use Rattle.ogg_pages.proofs.Judged.{sound_of}
use Rattle.ogg_pages.proofs.Laced.{packet_only, packet_sum}
use Rattle.ogg_pages.proofs.Readings.{read_is_page, read_is_spelling}
use Rattle.ogg_pages.proofs.Streams.{stream-Whole, stream-Need, stream-Fault}
use Rattle.opus_stream.specs.Truths.{differ}
use Rattle.opus_stream.specs.Packets.{lengths_from, lacing_in, body_in, lengths_in, packets_in, open_in, is_open, ends_packet, holds_packet}
use Rattle.opus_stream.specs.Audio.{fault_at, first_fault, longest, cut_fault, packet_fault, packets_fault}
use Rattle.opus_stream.specs.Granules.{is_last, bad_granule}
use Rattle.opus_stream.specs.Tests.{is_continued, is_first, is_ended, is_other, follows, breaks_packets, continuation_fault, order_fault, read_fault, head_fault, is_tags, has_tags, behind_tags, tags_go_on, audio_fault, form_fault, page_fault}
use Rattle.opus_stream.specs.Acceptance.{accepted_after, fault_after, end_fault, accepted, fault_of, audio_packets}
use Rattle.opus_stream.specs.Carrying.{is_none_of, IsFlagged, IsNumbered, lacing_of, Carries, AreSound}
use Rattle.opus_stream.proofs.Joining.{sum-append, lengths-sum, joins}
use Rattle.opus_stream.proofs.Grants.{values-open}
use Rattle.opus_stream.proofs.Lasting.{accepted_one, accepted_none}
use Rattle.opus_stream.proofs.Spanning.{AreFull, passes_going, passes_tests, passes_granule}
use Rattle.opus_stream.proofs.Carried.{tagged_behind, full_append, full_sum, pages_full, lacing-append, any-first}
use Rattle.opus_stream.proofs.Regrouped.{map-parts, concat-parts, IsClosed, regroup, lacing_by_lengths, holds_lacing, holds_ends, full_before}

-- ---- the bytes are the joined spellings of their pages

pub record Spells (bytes : List ℕ) : Type 0 where
  pub bytes_are : bytes ≡ flat_map spelling (stream bytes).pages
  pub pages : All IsPage (stream bytes).pages

nothing_left : (bytes : List ℕ) → stream bytes ≡ no_page bytes → ending_of bytes ≡ Sound → (verdict bytes ≡ verdicts.Need) ⊎ ((fault : Rattle.ogg_pages.specs.declared.page.PageFault.PageFault) × (verdict bytes ≡ verdicts.Fault fault)) → Spells bytes
nothing_left [] s e v = record {
  bytes_are = ap (λ (t : Stream). flat_map spelling t.pages) (sym s);
  pages = subst (λ (t : Stream). All IsPage t.pages) (sym s) (All-nil IsPage);
}
nothing_left (byte ∷ bytes) s e (inl v) = let f : ending_by verdicts.Need ≡ Sound = ap ending_by (sym v) ∙ e in let g : ⊥ = cc in absurd g
nothing_left (byte ∷ bytes) s e (inr v) = let f : ending_by (verdicts.Fault v.0) ≡ Sound = ap ending_by (sym v.1) ∙ e in let g : ⊥ = cc in absurd g

spells_once : (bytes : List ℕ) (v : Verdict) → verdict bytes ≡ v → AreBytes bytes → (stream bytes).ending ≡ Sound
    → ((l : List ℕ) → length l < length bytes → AreBytes l → (stream l).ending ≡ Sound → Spells l) → Spells bytes
spells_once bytes (verdicts.Whole n) v small e again =
    let s = sound_of bytes n v in
    let size = s.length_is in
    let inside = s.inside in
    let rest = drop n bytes in
    let whole = stream-Whole bytes n v in
    let less : length rest < length bytes = Rattle.std.proofs.Common.subst (λ k. k < length bytes) (sym (length-drop n bytes)) (omega arith) in
    let r = again rest less (bytes-drop n bytes small) (sym (ap (λ (t : Stream). t.ending) whole) ∙ e) in
    let page = page_of (take n bytes) in
    record {
      bytes_are = sym (take-append-drop n bytes) ∙ (λ i. read_is_spelling bytes n small v i ++ r.bytes_are i) ∙ ap (λ (t : Stream). flat_map spelling t.pages) (sym whole);
      pages = subst (λ (t : Stream). All IsPage t.pages) (sym whole) (All-cons IsPage page (stream rest).pages (read_is_page bytes n small v) r.pages);
    }
spells_once bytes verdicts.Need v small e again = let s = stream-Need bytes v in nothing_left bytes s (sym (ap (λ (t : Stream). t.ending) s) ∙ e) (inl v)
spells_once bytes (verdicts.Fault fault) v small e again = let s = stream-Fault bytes fault v in nothing_left bytes s (sym (ap (λ (t : Stream). t.ending) s) ∙ e) (inr (fault, v))

spells_by : (k : ℕ) (bytes : List ℕ) → length bytes ≤ k → AreBytes bytes → (stream bytes).ending ≡ Sound → Spells bytes
spells_by zero bytes h small e = spells_once bytes (verdict bytes) refl small e (λ l less. absurd (omega arith))
spells_by (suc k) bytes h small e = spells_once bytes (verdict bytes) refl small e (λ l less. spells_by k l (omega arith))

pub spells : (bytes : List ℕ) → AreBytes bytes → (stream bytes).ending ≡ Sound → Spells bytes
spells bytes small e = spells_by (length bytes) bytes (omega arith) small e

-- ---- without a fault every page passes

first-none : (a b : Option Fault) → first_fault a b ≡ None → (a ≡ None) × (b ≡ None)
first-none None b h = (refl, h)
first-none (Some fault) b h = let f : ⊥ = cc in absurd f

pub record AllPass (before pages : List Page) (ending : Ending) : Type 0 where
  pub each : (b : List Page) (p : Page) (r : List Page) → pages ≡ b ++ p ∷ r → page_fault (before ++ b) p ≡ None
  pub accepted_are : accepted_after before pages ≡ pages
  pub end : end_fault (is_ended (before ++ pages)) (length (before ++ pages)) ending ≡ None

pub all_pass : (before pages : List Page) (ending : Ending) → fault_after before pages ending ≡ None → AllPass before pages ending
unfolding fault_after
all_pass before [] ending h = record {
  each = λ b p r e. absurd (no_page b p r e);
  accepted_are = accepted_none before;
  end = ap (λ l. end_fault (is_ended l) (length l) ending) (append-nil before) ∙ h;
}
  where
    no_page : (b : List Page) (p : Page) (r : List Page) → [] ≡ b ++ p ∷ r → ⊥
    no_page [] p r e = cc
    no_page (x ∷ b) p r e = cc
all_pass before (q ∷ qs) ending h = by_rest (all_pass (before ++ q ∷ []) qs ending (tests.1)) where
  tests : (page_fault before q ≡ None) × (fault_after (before ++ q ∷ []) qs ending ≡ None)
  tests = first-none (page_fault before q) (fault_after (before ++ q ∷ []) qs ending) h

  by_rest : AllPass (before ++ q ∷ []) qs ending → AllPass before (q ∷ qs) ending
  by_rest a = record {
    each = λ b p r e. by_front b p r e a.each;
    accepted_are = accepted_one before q qs tests.0 ∙ ap (λ l. q ∷ l) a.accepted_are;
    end = ap (λ l. end_fault (is_ended l) (length l) ending) (sym (append_assoc before (q ∷ []) qs)) ∙ a.end;
  }
    where
      by_front : (b : List Page) (p : Page) (r : List Page) → q ∷ qs ≡ b ++ p ∷ r
          → ((b : List Page) (p : Page) (r : List Page) → qs ≡ b ++ p ∷ r → page_fault ((before ++ q ∷ []) ++ b) p ≡ None) → page_fault (before ++ b) p ≡ None
      by_front [] p r e each = let same : q ≡ p = cc in (λ i. page_fault (append-nil before i) (sym same i)) ∙ tests.0
      by_front (x ∷ b) p r e each =
          let same : q ≡ x = cc in
          let rest : qs ≡ b ++ p ∷ r = cc in
          ap (λ y. page_fault (before ++ y ∷ b) p) (sym same) ∙ ap (λ l. page_fault l p) (sym (append_assoc before (q ∷ []) b)) ∙ each b p r rest

-- ---- flags and numbers

-- every page passes
abbrev Passing : List Page → Type 0
Passing pages = (b : List Page) (p : Page) (r : List Page) → pages ≡ b ++ p ∷ r → page_fault b p ≡ None

unbroken : (before : List Page) (page : Page) → order_fault before page ≡ None → breaks_packets before page ≡ false
unfolding order_fault
unbroken [] page h = quiet (breaks_packets [] page) 0 h where
  quiet : (b : Bool) (n : ℕ) → (if b then Some (fault_at names.BadContinuation n) else None) ≡ None → b ≡ false
  quiet false n e = refl
  quiet true n e = let f : ⊥ = cc in absurd f
unbroken (head ∷ rest) page h = by (is_other head page) (follows head (length (head ∷ rest)) page) h where
  quiet : (b : Bool) (n : ℕ) → (if b then Some (fault_at names.BadContinuation n) else None) ≡ None → b ≡ false
  quiet false n e = refl
  quiet true n e = let f : ⊥ = cc in absurd f

  by : (o q : Bool) → (if o then Some (fault_at names.OtherStream (length (head ∷ rest))) else if not q then Some (fault_at names.PageGap (length (head ∷ rest))) else continuation_fault (head ∷ rest) page) ≡ None
      → breaks_packets (head ∷ rest) page ≡ false
  by false true e = quiet (breaks_packets (head ∷ rest) page) (length (head ∷ rest)) e
  by false false e = let f : ⊥ = cc in absurd f
  by true q e = let f : ⊥ = cc in absurd f

or_parts : (a b : Bool) → (a || b) ≡ false → (a ≡ false) × (b ≡ false)
or_parts false b h = (refl, h)
or_parts true b h = let f : ⊥ = cc in absurd f

same_truth : (a b : Bool) → differ a b ≡ false → a ≡ b
same_truth true true h = refl
same_truth false false h = refl
same_truth true false h = let f : ⊥ = cc in absurd f
same_truth false true h = let f : ⊥ = cc in absurd f

not_false : (b : Bool) → not b ≡ false → b ≡ true
not_false true h = refl
not_false false h = let f : ⊥ = cc in absurd f

pub record Follows (head page : Page) (number : ℕ) : Type 0 where
  pub serial : page.serial ≡ head.serial
  pub later : is_first page ≡ false
  pub sequence : page.sequence ≡ (head.sequence + number) % 2 ^ 32

pub follows_by : (head : Page) (rest : List Page) (page : Page) → order_fault (head ∷ rest) page ≡ None → Follows head page (length (head ∷ rest))
unfolding order_fault
follows_by head rest page h = by (page.serial == head.serial) (is_first page) (follows head (length (head ∷ rest)) page) refl refl refl h where
  by : (s f q : Bool) → (page.serial == head.serial) ≡ s → is_first page ≡ f → follows head (length (head ∷ rest)) page ≡ q
      → (if not s || f then Some (fault_at names.OtherStream (length (head ∷ rest))) else if not q then Some (fault_at names.PageGap (length (head ∷ rest))) else continuation_fault (head ∷ rest) page) ≡ None
      → Follows head page (length (head ∷ rest))
  by true false true es ef eq e = record {
    serial = eqb-true page.serial head.serial es;
    later = ef;
    sequence = eqb-true page.sequence ((head.sequence + length (head ∷ rest)) % 2 ^ 32) eq;
  }
  by true false false es ef eq e = let f : ⊥ = cc in absurd f
  by true true q es ef eq e = let f : ⊥ = cc in absurd f
  by false f q es ef eq e = let g : ⊥ = cc in absurd g

-- a page that others follow is not the last
not_last : (before : List Page) (page next : Page) → page_fault (before ++ page ∷ []) next ≡ None → is_last page ≡ false
not_last before page next h =
    let going = passes_going (before ++ page ∷ []) next h in
    let both = or_parts (is_ended before) (list_any is_last (page ∷ [])) (sym (list_any-append is_last before (page ∷ [])) ∙ going) in
    sym (one (is_last page)) ∙ both.1
  where
    one : (b : Bool) → (b || false) ≡ b
    one true = refl
    one false = refl

last_flag : (pages before : List Page) (page : Page) (rest : List Page) → Passing pages → is_ended pages ≡ true → pages ≡ before ++ page ∷ rest → is_last page ≡ is_none_of rest
last_flag pages before page [] passing ended h =
    let going = passes_going before page (passing before page [] h) in
    sym (one (is_last page)) ∙ ap (λ t. t || list_any is_last (page ∷ [])) (sym going) ∙ sym (list_any-append is_last before (page ∷ [])) ∙ ap is_ended (sym h) ∙ ended
  where
    one : (b : Bool) → (b || false) ≡ b
    one true = refl
    one false = refl
last_flag pages before page (q ∷ qs) passing ended h = not_last before page q (passing (before ++ page ∷ []) q qs (h ∙ sym (append_assoc before (page ∷ []) (q ∷ qs))))

-- ---- page 0

pub record Opens (page : Page) : Type 0 where
  pub first : is_first page ≡ true
  pub whole : holds_packet page.lacing ≡ true
  pub going : is_last page ≡ false
  pub says : Head
  pub says_is : head_of page.body ≡ Ok says

pub opens : (page : Page) → head_fault page ≡ None → Opens page
unfolding head_fault
opens page h = by (is_first page) (holds_packet page.lacing) (head_of page.body) refl refl refl h where
  quiet : (b : Bool) → (if b then Some (fault_at names.BadTags 0) else None) ≡ None → b ≡ false
  quiet false e = refl
  quiet true e = let f : ⊥ = cc in absurd f

  by : (f w : Bool) (r : Result Head HeadFault) → is_first page ≡ f → holds_packet page.lacing ≡ w → head_of page.body ≡ r → (if f && w then read_fault page r else Some (fault_at names.BadHead 0)) ≡ None → Opens page
  by true true (Ok says) ef ew er e = record { first = ef; whole = ew; going = quiet (is_last page) e; says = says; says_is = er }
  by true true (Err Bad) ef ew er e = let f : ⊥ = cc in absurd f
  by true true (Err Family) ef ew er e = let f : ⊥ = cc in absurd f
  by true false r ef ew er e = let f : ⊥ = cc in absurd f
  by false w r ef ew er e = let f : ⊥ = cc in absurd f

-- ---- the comment header

tags_test : (head : Page) (rest : List Page) (page : Page) → has_tags rest ≡ false → form_fault (head ∷ rest) page ≡ None → tags_go_on rest page ≡ true
unfolding form_fault
tags_test head rest page t h =
    quiet (tags_go_on rest page) (sym (ap (λ b. if b then audio_fault (length (head ∷ rest)) (behind_tags rest) page else (if tags_go_on rest page then None else Some (fault_at names.BadTags (length (head ∷ rest))))) t) ∙ h)
  where
    quiet : (b : Bool) → (if b then None else Some (fault_at names.BadTags (length (head ∷ rest)))) ≡ None → b ≡ true
    quiet true e = refl
    quiet false e = let f : ⊥ = cc in absurd f

goes_open : (pages : List Page) (page : Page) → ends_packet page ≡ false → tags_go_on pages page ≡ true → is_last page ≡ false
unfolding tags_go_on
goes_open pages page e h = by (is_last page) (sym (ap (λ b. if b then holds_packet page.lacing && is_tags (body_in pages ++ page.body) else not (is_last page)) e) ∙ h) where
  by : (b : Bool) → not b ≡ true → b ≡ false
  by false e = refl
  by true e = let f : ⊥ = cc in absurd f

goes_closed : (pages : List Page) (page : Page) → ends_packet page ≡ true → tags_go_on pages page ≡ true → (holds_packet page.lacing ≡ true) × (is_tags (body_in pages ++ page.body) ≡ true)
unfolding tags_go_on
goes_closed pages page e h = and_parts (holds_packet page.lacing) (is_tags (body_in pages ++ page.body)) (sym (ap (λ b. if b then holds_packet page.lacing && is_tags (body_in pages ++ page.body) else not (is_last page)) e) ∙ h)

-- no page of a comment header that is not whole is the last
untagged_open : (first : Page) (seen rest : List Page) → Passing (first ∷ (seen ++ rest)) → has_tags (seen ++ rest) ≡ false → is_ended rest ≡ false
untagged_open first seen [] passing none = refl
untagged_open first seen (p ∷ ps) passing none =
    let split = or_parts (has_tags seen) (has_tags (p ∷ ps)) (sym (list_any-append ends_packet seen (p ∷ ps)) ∙ none) in
    let here = or_parts (ends_packet p) (has_tags ps) (sym (any-first p ps) ∙ split.1) in
    let test = tags_test first seen p split.0 (passes_tests (first ∷ seen) p (passing (first ∷ seen) p ps refl)).1 in
    let open_page = goes_open seen p here.0 test in
    let same : seen ++ p ∷ ps ≡ (seen ++ p ∷ []) ++ ps = sym (append_assoc seen (p ∷ []) ps) in
    let again = untagged_open first (seen ++ p ∷ []) ps (subst (λ l. Passing (first ∷ l)) same passing) (ap has_tags (sym same) ∙ none) in
    list_any-append is_last (p ∷ []) ps ∙ ap (λ t. t || is_ended ps) (one (is_last p) ∙ open_page) ∙ again
  where
    one : (b : Bool) → (b || false) ≡ b
    one true = refl
    one false = refl

pub record Closes (others : List Page) : Type 0 where
  pub comments : List Page
  pub closing : Page
  pub audio : List Page
  pub is : others ≡ comments ++ closing ∷ audio
  pub none : has_tags comments ≡ false
  pub end : ends_packet closing ≡ true

closes : (others : List Page) → has_tags others ≡ true → Closes others
closes [] h = let f : ⊥ = cc in absurd f
closes (p ∷ ps) h = by_test (cases_Bool (ends_packet p)) (closes ps) where
  by_test : (ends_packet p ≡ true) ⊎ (ends_packet p ≡ false) → (has_tags ps ≡ true → Closes ps) → Closes (p ∷ ps)
  by_test (inl e) again = record { comments = []; closing = p; audio = ps; is = refl; none = refl; end = e }
  by_test (inr e) again =
      let r = again (sym (any-first p ps ∙ ap (λ t. t || has_tags ps) e) ∙ h) in
      record { comments = p ∷ r.comments; closing = r.closing; audio = r.audio; is = ap (λ l. p ∷ l) r.is; none = any-first p r.comments ∙ (λ i. e i || r.none i); end = r.end }

-- ---- sound packets

any_number : (n m : ℕ) (packet : List ℕ) → packet_fault n packet ≡ None → packet_fault m packet ≡ None
unfolding packet_fault
any_number n m packet h = by (nat_lt longest (length packet)) (cut_of packet) h where
  quiet : (n m config : ℕ) → (if nat_lt config 16 then Some (fault_at (names.NotCelt config) n) else None) ≡ None → (if nat_lt config 16 then Some (fault_at (names.NotCelt config) m) else None) ≡ None
  quiet n m config e = on (nat_lt config 16) e where
    on : (b : Bool) → (if b then Some (fault_at (names.NotCelt config) n) else None) ≡ None → (if b then Some (fault_at (names.NotCelt config) m) else None) ≡ None
    on false e = refl
    on true e = let f : ⊥ = cc in absurd f

  by : (b : Bool) (r : Result Cut PacketFault) → (if b then Some (fault_at names.PacketTooLong n) else cut_fault n r) ≡ None → (if b then Some (fault_at names.PacketTooLong m) else cut_fault m r) ≡ None
  by true r e = let f : ⊥ = cc in absurd f
  by false (Err rule) e = let f : ⊥ = cc in absurd f
  by false (Ok cut) e = quiet n m (config_of (slice_index cut.packet 0)) e

abbrev IsSoundPacket : List ℕ → Type 0
IsSoundPacket packet = (number : ℕ) → packet_fault number packet ≡ None

packets_sound : (number : ℕ) (packets : List (List ℕ)) (left : List ℕ) → packets_fault number packets left ≡ None → All IsSoundPacket packets
unfolding packets_fault
packets_sound number [] left h = All-nil IsSoundPacket
packets_sound number (p ∷ ps) left h =
    let both = first-none (packet_fault number p) (packets_fault (number + 1) ps left) h in
    All-cons IsSoundPacket p ps (λ m. any_number number m p both.0) (packets_sound (number + 1) ps left both.1)

audio_test : (head : Page) (rest : List Page) (page : Page) → has_tags rest ≡ true → form_fault (head ∷ rest) page ≡ None → audio_fault (length (head ∷ rest)) (behind_tags rest) page ≡ None
unfolding form_fault
audio_test head rest page t h = sym (ap (λ b. if b then audio_fault (length (head ∷ rest)) (behind_tags rest) page else (if tags_go_on rest page then None else Some (fault_at names.BadTags (length (head ∷ rest))))) t) ∙ h

new_sound : (number : ℕ) (before : List Page) (page : Page) → audio_fault number before page ≡ None → All IsSoundPacket (drop (length (packets_in before)) (packets_in (before ++ page ∷ [])))
unfolding audio_fault
new_sound number before page h =
    packets_sound (length (packets_in before)) (drop (length (packets_in before)) (packets_in (before ++ page ∷ []))) (open_in (before ++ page ∷ []))
    (first-none (packets_fault (length (packets_in before)) (drop (length (packets_in before)) (packets_in (before ++ page ∷ []))) (open_in (before ++ page ∷ [])))
    (if bad_granule before (before ++ page ∷ []) page then Some (fault_at names.BadGranule number) else None) h).0

-- all audio packets are sound
all_sound : (seen rest : List Page) → AreFull (seen ++ rest) → ((b : List Page) (p : Page) (r : List Page) → seen ++ rest ≡ b ++ p ∷ r → (number : ℕ) × (audio_fault number b p ≡ None))
    → All IsSoundPacket (packets_in seen) → All IsSoundPacket (packets_in (seen ++ rest))
all_sound seen [] full tests sound = subst (λ l. All IsSoundPacket (packets_in l)) (sym (append-nil seen)) sound
all_sound seen (p ∷ ps) full tests sound =
    let same : seen ++ p ∷ ps ≡ (seen ++ p ∷ []) ++ ps = sym (append_assoc seen (p ∷ []) ps) in
    let parts_full = full_append seen (p ∷ ps) full in
    let j = joins seen p (full_sum seen parts_full.0) parts_full.1.0 in
    let t = tests seen p ps refl in
    let more = parts (lengths_from (length (open_in seen)) p.lacing) (open_in seen ++ p.body) in
    let fresh : All IsSoundPacket more =
    subst (All IsSoundPacket) (ap (drop (length (packets_in seen))) j.packets ∙ drop_at (packets_in seen) more (length (packets_in seen)) refl) (new_sound t.0 seen p t.1) in
    let now = subst (All IsSoundPacket) (sym j.packets) (All-append IsSoundPacket (packets_in seen) more sound fresh) in
    subst (λ l. All IsSoundPacket (packets_in l)) (sym same)
    (all_sound (seen ++ p ∷ []) ps (subst AreFull same full) (λ b q r e. tests b q r (same ∙ e)) now)

-- ---- nothing is open at the end

pub record Ends (pages : List Page) : Type 0 where
  pub front : List Page
  pub page : Page
  pub is : pages ≡ front ++ page ∷ []

ends_in : (p : Page) (ps : List Page) → Ends (p ∷ ps)
ends_in p [] = record { front = []; page = p; is = refl }
ends_in p (q ∷ qs) = let r = ends_in q qs in record { front = p ∷ r.front; page = r.page; is = ap (λ l. p ∷ l) r.is }

closed_end : (pages : List Page) → Passing pages → is_ended pages ≡ true → Ends pages → is_open pages ≡ false
closed_end pages passing ended e =
    let last : is_last e.page ≡ true = last_flag pages e.front e.page [] passing ended e.is in
    let b = unbroken e.front e.page (passes_tests e.front e.page (passing e.front e.page [] e.is)).0 in
    let both = or_parts (differ (is_continued e.page) (is_open e.front)) (is_last e.page && is_open (e.front ++ e.page ∷ [])) b in
    ap is_open e.is ∙ sym (ap (λ t. t && is_open (e.front ++ e.page ∷ [])) last) ∙ both.1

bytes_lacing : (pages : List Page) → All IsPage pages → AreBytes (lacing_in pages)
bytes_lacing [] all = bytes-nil
bytes_lacing (p ∷ ps) all = let is : IsPage p = All-head IsPage p ps all in bytes-append p.lacing (lacing_in ps) is.lacing (bytes_lacing ps (All-tail IsPage p ps all))

last-append : (xs : List ℕ) (y : ℕ) (ys : List ℕ) → get_or (xs ++ (y ∷ ys)) (length (xs ++ (y ∷ ys)) - 1) 0 ≡ get_or (y ∷ ys) (length (y ∷ ys) - 1) 0
last-append [] y ys = refl
last-append (x ∷ xs) y ys =
    let zs = xs ++ (y ∷ ys) in
    let some : length zs ≡ length xs + length (y ∷ ys) = length-append xs (y ∷ ys) in
    let place : length (x ∷ zs) - 1 ≡ suc (length zs - 1) = omega arith in
    ap (λ k. get_or (x ∷ zs) k 0) place ∙ last-append xs y ys

closed_by : (before after : List ℕ) → AreBytes after → (slice_index (before ++ after) (length (before ++ after) - 1) == 255) ≡ false → IsClosed 0 after
closed_by before [] small h = refl
closed_by before (x ∷ xs) small h =
    let e = last-append before x xs in
    let other = eqb-false (slice_index (before ++ (x ∷ xs)) (length (before ++ (x ∷ xs)) - 1)) 255 h in
    let s = small (length (x ∷ xs) - 1) in
    let n : get_or (x ∷ xs) (length (x ∷ xs) - 1) 0 ≡ 255 → ⊥ = λ f. other (e ∙ f) in
    omega (arith, n)

-- the audio pages by their packets
pub record Audible (audio : List Page) : Type 0 where
  pub lacing : lacing_in audio ≡ lacing_of (packets_in audio)
  pub body : body_in audio ≡ concat (packets_in audio)

sum_flat : (lengths : List ℕ) → sum (flat_map packet_lacing lengths) ≡ sum lengths
sum_flat [] = refl
sum_flat (n ∷ ns) = sum-append (packet_lacing n) (flat_map packet_lacing ns) ∙ (λ i. packet_sum n i + sum_flat ns i) ∙ sym (Rattle.opus_stream.proofs.Joining.sum-cons n ns)

pub audible : (audio : List Page) → AreFull audio → AreBytes (lacing_in audio) → IsClosed 0 (lacing_in audio) → Audible audio
unfolding packets_in
audible audio full small closed =
    let body = body_in audio in
    let lens = lengths_in audio in
    let whole = full_sum audio full in
    let l : lacing_in audio ≡ flat_map packet_lacing lens = regroup 0 (lacing_in audio) small closed in
    let total : sum lens ≡ length body = sym (sum_flat lens) ∙ ap sum (sym l) ∙ sym whole in
    record {
      lacing = l ∙ ap (flat_map packet_lacing) (sym (map-parts lens body (omega arith))) ∙ sym (lacing_by_lengths (parts lens body));
      body = sym (concat-parts lens body total);
    }

-- ---- flags and numbers of every page

flagged : (first : Page) (others : List Page) → Passing (first ∷ others) → is_ended (first ∷ others) ≡ true → Opens first
    → (before : List Page) (page : Page) (rest : List Page) → first ∷ others ≡ before ++ page ∷ rest → IsFlagged before page rest
flagged first others passing ended o before page rest e =
    let tests = passes_tests before page (passing before page rest e) in
    let b = or_parts (differ (is_continued page) (is_open before)) (is_last page && is_open (before ++ page ∷ [])) (unbroken before page tests.0) in
    record {
      first = first_flag before e tests.0;
      last = last_flag (first ∷ others) before page rest passing ended e;
      continued = same_truth (is_continued page) (is_open before) b.0;
    }
  where
    first_flag : (l : List Page) → first ∷ others ≡ l ++ page ∷ rest → order_fault l page ≡ None → is_first page ≡ is_none_of l
    first_flag [] e t = let same : page ≡ first = cc in ap is_first same ∙ o.first
    first_flag (x ∷ xs) e t = (follows_by x xs page t).later

numbered : (first : Page) (others : List Page) → Passing (first ∷ others) → IsPage first
    → (before : List Page) (page : Page) (rest : List Page) → first ∷ others ≡ before ++ page ∷ rest → IsNumbered first before page
numbered first others passing is before page rest e = by before e (passes_tests before page (passing before page rest e)).0 where
  by : (l : List Page) → first ∷ others ≡ l ++ page ∷ rest → order_fault l page ≡ None → IsNumbered first l page
  by [] e t =
      let same : page ≡ first = cc in
      let small = is.sequence in
      record { serial = ap (λ (p : Page). p.serial) same; sequence = ap (λ (p : Page). p.sequence) same ∙ omega arith }
  by (x ∷ xs) e t =
      let same : x ≡ first = cc in
      let f = follows_by x xs page t in
      record { serial = f.serial ∙ ap (λ (p : Page). p.serial) same; sequence = f.sequence ∙ ap (λ (p : Page). (p.sequence + length (x ∷ xs)) % 2 ^ 32) same }

closed_list : (pages : List Page) (first : Page) (comments : List Page) (closing : Page) (audio : List Page) → pages ≡ first ∷ (comments ++ closing ∷ audio) → is_open pages ≡ false
    → (slice_index ((first.lacing ++ (lacing_in comments ++ closing.lacing)) ++ lacing_in audio) (length ((first.lacing ++ (lacing_in comments ++ closing.lacing)) ++ lacing_in audio) - 1) == 255) ≡ false
unfolding is_open
closed_list pages first comments closing audio e closed =
    let all : (first.lacing ++ (lacing_in comments ++ closing.lacing)) ++ lacing_in audio ≡ lacing_in pages =
    append_assoc first.lacing (lacing_in comments ++ closing.lacing) (lacing_in audio)
    ∙ ap (λ l. first.lacing ++ l) (append_assoc (lacing_in comments) closing.lacing (lacing_in audio) ∙ sym (lacing-append comments (closing ∷ audio)))
    ∙ ap lacing_in (sym e) in
    ap (λ l. slice_index l (length l - 1) == 255) all ∙ closed

-- ---- put together

pub record Assembled (pages : List Page) : Type 0 where
  pub head : List ℕ
  pub tags : List ℕ
  pub carries : Carries pages head tags (audio_packets pages)
  pub sound : AreSound head tags (audio_packets pages)

all_parts : (xs ys : List Page) → All IsPage (xs ++ ys) → All IsPage xs × All IsPage ys
all_parts [] ys all = (All-nil IsPage, all)
all_parts (x ∷ xs) ys all =
    let r = all_parts xs ys (All-tail IsPage x (xs ++ ys) all) in
    (All-cons IsPage x xs (All-head IsPage x (xs ++ ys) all) r.0, r.1)

pub first_form : (page : Page) → form_fault [] page ≡ head_fault page
unfolding form_fault
first_form page = refl

none_packets : packets_in [] ≡ []
unfolding packets_in lengths_from
none_packets = refl

audio_are : (first : Page) (others audio : List Page) → behind_tags others ≡ audio → packets_in audio ≡ audio_packets (first ∷ others)
audio_are first others audio e = ap packets_in (sym e)

-- what page 0 and the others are
pub record Heads (first : Page) (others : List Page) : Type 0 where
  pub opens_is : Opens first
  pub closes_is : Closes others
  pub comment : (holds_packet closes_is.closing.lacing ≡ true) × (is_tags (body_in closes_is.comments ++ closes_is.closing.body) ≡ true)

heads : (first : Page) (others : List Page) → Passing (first ∷ others) → is_ended (first ∷ others) ≡ true → Heads first others
heads first others passing ended = by_tags (cases_Bool (has_tags others)) where
  start : Opens first
  start = opens first (sym (first_form first) ∙ (passes_tests [] first (passing [] first others refl)).1)

  one : (b : Bool) → (b || false) ≡ b
  one true = refl
  one false = refl

  by_tags : (has_tags others ≡ true) ⊎ (has_tags others ≡ false) → Heads first others
  by_tags (inr none) =
      let open_others = untagged_open first [] others passing none in
      let f : true ≡ false = sym ended ∙ list_any-append is_last (first ∷ []) others ∙ (λ i. (one (is_last first) ∙ start.going) i || open_others i) in
      let g : ⊥ = cc in absurd g
  by_tags (inl t) =
      let c = closes others t in
      let form = (passes_tests (first ∷ c.comments) c.closing (passing (first ∷ c.comments) c.closing c.audio (ap (λ l. first ∷ l) c.is))).1 in
      record { opens_is = start; closes_is = c; comment = goes_closed c.comments c.closing c.end (tags_test first c.comments c.closing c.none form) }

pub assembled : (pages : List Page) → Passing pages → is_ended pages ≡ true → All IsPage pages → Assembled pages
assembled [] passing ended all = let f : ⊥ = cc in absurd f
assembled (first ∷ others) passing ended all = record {
  head = first.body;
  tags = tags;
  carries = subst (λ l. Carries pages first.body tags l) same_packets carries;
  sound = subst (λ l. AreSound first.body tags l) same_packets (record { says = h.opens_is.says; head_is = h.opens_is.says_is; tags_are = h.comment.1; packets_are = sound });
}
  where
    pages : List Page
    pages = first ∷ others

    h : Heads first others
    h = heads first others passing ended

    c : Closes others
    c = h.closes_is

    tags : List ℕ
    tags = body_in c.comments ++ c.closing.body

    pages_are : pages ≡ first ∷ (c.comments ++ c.closing ∷ c.audio)
    pages_are = ap (λ l. first ∷ l) c.is

    first_page : IsPage first
    first_page = All-head IsPage first others all

    all_others : All IsPage (c.comments ++ c.closing ∷ c.audio)
    all_others = subst (All IsPage) c.is (All-tail IsPage first others all)

    all_comments : All IsPage c.comments
    all_comments = (all_parts c.comments (c.closing ∷ c.audio) all_others).0

    closing_page : IsPage c.closing
    closing_page = All-head IsPage c.closing c.audio (all_parts c.comments (c.closing ∷ c.audio) all_others).1

    all_audio : All IsPage c.audio
    all_audio = All-tail IsPage c.closing c.audio (all_parts c.comments (c.closing ∷ c.audio) all_others).1

    behind : (b : List Page) → (has_tags (c.comments ++ c.closing ∷ b) ≡ true) × (behind_tags (c.comments ++ c.closing ∷ b) ≡ b)
    behind b = tagged_behind c.comments c.closing b c.none c.end

    same_packets : packets_in c.audio ≡ audio_packets pages
    same_packets = audio_are first others c.audio (ap behind_tags c.is ∙ (behind c.audio).1)

    head_lacing : first.lacing ≡ packet_lacing (length first.body)
    head_lacing = holds_lacing first.lacing h.opens_is.whole ∙ ap packet_lacing (sym first_page.body_len)

    tags_lacing : lacing_in c.comments ++ c.closing.lacing ≡ packet_lacing (length tags)
    tags_lacing =
        let ends_one = full_before (lacing_in c.comments) c.closing.lacing (bytes_lacing c.comments all_comments) (values-open c.comments c.none) (holds_ends c.closing.lacing h.comment.0) in
        let size : sum (lacing_in c.comments ++ c.closing.lacing) ≡ length tags =
        sum-append (lacing_in c.comments) c.closing.lacing ∙ (λ i. sym (full_sum c.comments (pages_full c.comments all_comments)) i + sym closing_page.body_len i) ∙ sym (length-append (body_in c.comments) c.closing.body) in
        packet_only (lacing_in c.comments ++ c.closing.lacing) ends_one ∙ ap packet_lacing size

    closed : is_open pages ≡ false
    closed = closed_end pages passing ended (ends_in first others)

    audio_closed : IsClosed 0 (lacing_in c.audio)
    audio_closed = closed_by (first.lacing ++ (lacing_in c.comments ++ c.closing.lacing)) (lacing_in c.audio) (bytes_lacing c.audio all_audio) (closed_list pages first c.comments c.closing c.audio pages_are closed)

    heard : Audible c.audio
    heard = audible c.audio (pages_full c.audio all_audio) (bytes_lacing c.audio all_audio) audio_closed

    audio_place : (b : List Page) (p : Page) (r : List Page) → c.audio ≡ b ++ p ∷ r → pages ≡ (first ∷ (c.comments ++ c.closing ∷ b)) ++ p ∷ r
    audio_place b p r e = pages_are ∙ ap (λ l. first ∷ (c.comments ++ c.closing ∷ l)) e ∙ ap (λ l. first ∷ l) (sym (append_assoc c.comments (c.closing ∷ b) (p ∷ r)))

    audio_passes : (b : List Page) (p : Page) (r : List Page) → c.audio ≡ b ++ p ∷ r → page_fault (first ∷ (c.comments ++ c.closing ∷ b)) p ≡ None
    audio_passes b p r e = passing (first ∷ (c.comments ++ c.closing ∷ b)) p r (audio_place b p r e)

    granules : (b : List Page) (p : Page) (r : List Page) → c.audio ≡ b ++ p ∷ r → bad_granule b (b ++ p ∷ []) p ≡ false
    granules b p r e =
        subst (λ l. bad_granule l (l ++ p ∷ []) p ≡ false) (behind b).1 (passes_granule first (c.comments ++ c.closing ∷ b) p (audio_passes b p r e) (behind b).0)

    tests : (b : List Page) (p : Page) (r : List Page) → c.audio ≡ b ++ p ∷ r → (number : ℕ) × (audio_fault number b p ≡ None)
    tests b p r e =
        let rest = c.comments ++ c.closing ∷ b in
        (length (first ∷ rest), subst (λ l. audio_fault (length (first ∷ rest)) l p ≡ None) (behind b).1 (audio_test first rest p (behind b).0 (passes_tests (first ∷ rest) p (audio_passes b p r e)).1))

    sound : All IsSoundPacket (packets_in c.audio)
    sound = all_sound [] c.audio (pages_full c.audio all_audio) tests (subst (All IsSoundPacket) (sym none_packets) (All-nil IsSoundPacket))

    carries : Carries pages first.body tags (packets_in c.audio)
    carries = record {
      first = first;
      comments = c.comments;
      closing = c.closing;
      audio = c.audio;
      pages_are = pages_are;
      head_lacing = head_lacing;
      head_body = refl;
      tags_lacing = tags_lacing;
      tags_end = c.end;
      tags_body = refl;
      audio_lacing = heard.lacing;
      audio_body = heard.body;
      flags = λ before page rest e. flagged first others passing ended h.opens_is before page rest e;
      numbers = λ before page rest e. numbered first others passing first_page before page rest e;
      granules = granules;
    }

-- ---- over bytes

pub record Recovered (bytes : List ℕ) : Type 0 where
  pub spelled : bytes ≡ flat_map spelling (accepted bytes)
  pub pages : All IsPage (accepted bytes)
  pub carried : Assembled (accepted bytes)

pub sound_end : (ended : Bool) (number : ℕ) (ending : Ending) → end_fault ended number ending ≡ None → (ended ≡ true) × (ending ≡ Sound)
sound_end true number Sound h = (refl, refl)
sound_end true number Short h = let f : ⊥ = cc in absurd f
sound_end true number (Broken fault) h = let f : ⊥ = cc in absurd f
sound_end false number Sound h = let f : ⊥ = cc in absurd f
sound_end false number Short h = let f : ⊥ = cc in absurd f
sound_end false number (Broken fault) h = let f : ⊥ = cc in absurd f

pub recovered : (bytes : List ℕ) → AreBytes bytes → fault_of bytes ≡ None → Recovered bytes
unfolding fault_of accepted
recovered bytes small h =
    let a = all_pass [] (stream bytes).pages (stream bytes).ending h in
    let e = sound_end (is_ended (stream bytes).pages) (length (stream bytes).pages) (stream bytes).ending a.end in
    let s = spells bytes small e.1 in
    record {
      spelled = s.bytes_are ∙ ap (flat_map spelling) (sym a.accepted_are);
      pages = subst (All IsPage) (sym a.accepted_are) s.pages;
      carried = subst Assembled (sym a.accepted_are) (assembled (stream bytes).pages a.each e.0 s.pages);
    }

pub only_pages : (ps qs : List Page) → All IsPage ps → All IsPage qs → flat_map spelling ps ≡ flat_map spelling qs → ps ≡ qs
only_pages ps qs a b h = sym (joined_pages ps a) ∙ ap (λ l. (stream l).pages) h ∙ joined_pages qs b
