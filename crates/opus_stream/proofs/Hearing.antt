-- An audio page behind the pages that were accepted.
use Rattle.std.proofs.Common.{◌≡◌, ℕ, ◌+◌, ◌-◌, ◌≤◌, Bool, true, false, List, [], ◌∷◌, ◌++◌, length, drop, sum, refl, sym, ◌∙◌, ap, subst, arith, length-append, ◌⊎◌, inl, inr, Option, Some, None, Result}
use Rattle.std.specs.Prelude.{◌||◌, if◌then◌else◌}
use Rattle.std.specs.List.{list_any}
use Rattle.std.proofs.lemmas.Bool.{cases_Bool}
use Rattle.std.proofs.lemmas.List.{drop_at}
use Rattle.std.proofs.lemmas.List.Sums.{sum_by-append}
use Rattle.std.proofs.lemmas.List.Folds.{list_any-append}
use Rattle.celt_base.specs.declared.status.Fault.{Fault}
use Rattle.celt_base.specs.declared.status.FaultName.TheVariants.{BadGranule}
use Rattle.ogg_pages.specs.Fields.{Page}
use Rattle.opus_stream.specs.declared.answers.Span.{Span}
use Rattle.opus_stream.specs.declared.granules.Settled.{Settled}
use Rattle.opus_stream.specs.declared.packets.Tally.{Tally}
use Rattle.opus_stream.specs.declared.progress.Audio.{Audio}
use Rattle.opus_stream.specs.declared.progress.Progress.{Progress}
use Rattle.opus_stream.specs.Rooms.{Kept}
use Rattle.opus_stream.specs.Packets.{lengths_from, packets_in, open_in, body_in, lacing_in, ends_packet}
use Rattle.opus_stream.specs.Audio.{fault_at, first_fault, packet_samples, samples_in, packets_fault}
use Rattle.opus_stream.specs.Granules.{is_last, samples_on, bad_granule, given_on, span, span_on}
use Rattle.opus_stream.specs.Tests.{is_ended, has_tags, behind_tags, audio_fault, form_fault, page_fault}
use Rattle.opus_stream.specs.Acceptance.{before_last, page_size, head_in, preskip_of, audio_in, audio_packets, last_packets, last_span}
use Rattle.opus_stream.specs.Tallies.{packets_on, open_behind, fault_on, Adds, IsTally}
use Rattle.opus_stream.specs.Settled.{IsSettledOn}
use Rattle.opus_stream.specs.Progressing.{order_by, IsNext, IsPlaced, IsBase, IsHeard, IsRead, StandsAfter}
use Rattle.opus_stream.specs.Accepted.{left_in, Gives}
use Rattle.opus_stream.proofs.Joining.{joins, length-parts}
use Rattle.opus_stream.proofs.Grants.{granted, denied}
use Rattle.opus_stream.proofs.Placing.{any-next, before-next, placed_next, ended_same, fault_ordered}

-- ---- over audio pages alone

pub record Offered (before : List Page) (page : Page) (audio : Audio) (bytes : List ℕ) (open_len : ℕ) : Type 0 where
  pub going : is_ended before ≡ false
  pub packets : audio.packets ≡ length (packets_in before)
  pub samples : audio.samples ≡ samples_on before
  pub base : IsBase audio.base before
  pub full : length (body_in before) ≡ sum (lacing_in before)
  pub whole : length page.body ≡ sum page.lacing
  pub bytes_are : bytes ≡ open_in before ++ page.body
  pub open_is : open_len ≡ length (open_in before)

pub offered : (before : List Page) (page : Page) (audio : Audio) (left bytes : List ℕ) (open_len : ℕ) → IsHeard audio left before → is_ended before ≡ false
    → length page.body ≡ sum page.lacing → bytes ≡ left ++ page.body → open_len ≡ length left → Offered before page audio bytes open_len
offered before page audio left bytes open_len heard going whole bytes_are open_is = record {
  going = going;
  packets = heard.packets;
  samples = heard.samples;
  base = heard.base going;
  full = heard.full;
  whole = whole;
  bytes_are = bytes_are ∙ ap (λ l. l ++ page.body) heard.left_is;
  open_is = open_is ∙ ap length heard.left_is;
}

-- the packets that end on the page, and what is open behind them
packets_next : (before : List Page) (page : Page) (audio : Audio) (bytes : List ℕ) (open_len : ℕ) → Offered before page audio bytes open_len
    → packets_in (before ++ page ∷ []) ≡ packets_in before ++ packets_on page.lacing bytes open_len
packets_next before page audio bytes open_len o =
    (joins before page o.full o.whole).packets ∙ ap (λ l. packets_in before ++ packets_on page.lacing l (length (open_in before))) (sym o.bytes_are)
    ∙ ap (λ n. packets_in before ++ packets_on page.lacing bytes n) (sym o.open_is)

pub packets_new : (before : List Page) (page : Page) (audio : Audio) (bytes : List ℕ) (open_len : ℕ) → Offered before page audio bytes open_len
    → drop (length (packets_in before)) (packets_in (before ++ page ∷ [])) ≡ packets_on page.lacing bytes open_len
packets_new before page audio bytes open_len o =
    ap (drop (length (packets_in before))) (packets_next before page audio bytes open_len o)
    ∙ drop_at (packets_in before) (packets_on page.lacing bytes open_len) (length (packets_in before)) refl

open_next : (before : List Page) (page : Page) (audio : Audio) (bytes : List ℕ) (open_len : ℕ) → Offered before page audio bytes open_len
    → open_in (before ++ page ∷ []) ≡ open_behind page.lacing bytes open_len
open_next before page audio bytes open_len o =
    (joins before page o.full o.whole).left ∙ ap (λ l. open_behind page.lacing l (length (open_in before))) (sym o.bytes_are)
    ∙ ap (λ n. open_behind page.lacing bytes n) (sym o.open_is)

samples_next : (before : List Page) (page : Page) (audio : Audio) (bytes : List ℕ) (open_len : ℕ) → Offered before page audio bytes open_len
    → samples_on (before ++ page ∷ []) ≡ samples_on before + samples_in (packets_on page.lacing bytes open_len)
samples_next before page audio bytes open_len o =
    ap samples_in (packets_next before page audio bytes open_len o) ∙ sum_by-append packet_samples (packets_in before) (packets_on page.lacing bytes open_len)

abbrev granule_fault : ℕ → Bool → Option Fault
granule_fault number bad = if bad then Some (fault_at BadGranule number) else None

fault_is : (number : ℕ) (before : List Page) (page : Page) (audio : Audio) (bytes : List ℕ) (open_len : ℕ) → Offered before page audio bytes open_len
    → audio_fault number before page ≡ first_fault (fault_on page.lacing bytes open_len audio.packets) (granule_fault number (bad_granule before (before ++ page ∷ []) page))
unfolding audio_fault
fault_is number before page audio bytes open_len o =
    let now = before ++ page ∷ [] in
    let bad = granule_fault number (bad_granule before now page) in
    ap (λ l. first_fault (packets_fault (length (packets_in before)) l (open_in now)) bad) (packets_new before page audio bytes open_len o)
    ∙ ap (λ l. first_fault (packets_fault (length (packets_in before)) (packets_on page.lacing bytes open_len) l) bad) (open_next before page audio bytes open_len o)
    ∙ ap (λ n. first_fault (packets_fault n (packets_on page.lacing bytes open_len) (open_behind page.lacing bytes open_len)) bad) (sym o.packets)

pub packet_refused : (number : ℕ) (before : List Page) (page : Page) (audio : Audio) (bytes : List ℕ) (open_len : ℕ) (fault : Fault) → Offered before page audio bytes open_len
    → fault_on page.lacing bytes open_len audio.packets ≡ Some fault → audio_fault number before page ≡ Some fault
packet_refused number before page audio bytes open_len fault o h =
    fault_is number before page audio bytes open_len o ∙ ap (λ f. first_fault f (granule_fault number (bad_granule before (before ++ page ∷ []) page))) h

-- the samples that the page adds
added : (before : List Page) (page : Page) (audio : Audio) (bytes : List ℕ) (open_len : ℕ) (tally : Tally) → Offered before page audio bytes open_len
    → Adds page.lacing bytes open_len audio.packets tally → samples_on (before ++ page ∷ []) ≡ samples_on before + tally.samples
added before page audio bytes open_len tally o adds = samples_next before page audio bytes open_len o ∙ ap (λ n. samples_on before + n) (sym adds.samples)

pub granule_refused : (number : ℕ) (before : List Page) (page : Page) (audio : Audio) (bytes : List ℕ) (open_len : ℕ) (tally : Tally) → Offered before page audio bytes open_len
    → Adds page.lacing bytes open_len audio.packets tally → IsSettledOn audio.base audio.samples tally.samples page None → audio_fault number before page ≡ Some (fault_at BadGranule number)
granule_refused number before page audio bytes open_len tally o adds h =
    let settled = subst (λ n. IsSettledOn audio.base n tally.samples page None) o.samples h in
    let bad = denied before page audio.base tally.samples o.going o.base (added before page audio bytes open_len tally o adds) settled in
    fault_is number before page audio bytes open_len o
    ∙ ap (λ f. first_fault f (granule_fault number (bad_granule before (before ++ page ∷ []) page))) adds.sound
    ∙ ap (granule_fault number) bad

-- what is known after an audio page
pub record Played (number : ℕ) (before : List Page) (page : Page) (audio : Audio) (bytes : List ℕ) (tally : Tally) (settled : Settled) : Type 0 where
  pub sound : audio_fault number before page ≡ None
  pub heard : (next : Audio) → next.packets ≡ audio.packets + tally.packets → next.samples ≡ audio.samples + tally.samples → next.base ≡ settled.base
      → IsHeard next (drop tally.len bytes) (before ++ page ∷ [])
  pub given : given_on (before ++ page ∷ []) - samples_on before ≡ settled.given

pub played : (number : ℕ) (before : List Page) (page : Page) (audio : Audio) (bytes : List ℕ) (open_len : ℕ) (tally : Tally) (settled : Settled) → Offered before page audio bytes open_len
    → Adds page.lacing bytes open_len audio.packets tally → IsSettledOn audio.base audio.samples tally.samples page (Some settled) → Played number before page audio bytes tally settled
played number before page audio bytes open_len tally settled o adds h =
    let now = before ++ page ∷ [] in
    let more = added before page audio bytes open_len tally o adds in
    let s = subst (λ n. IsSettledOn audio.base n tally.samples page (Some settled)) o.samples h in
    let g = granted before page audio.base tally.samples settled o.going o.base more s in
    let count : length (packets_in now) ≡ length (packets_in before) + tally.packets =
    ap length (packets_next before page audio bytes open_len o) ∙ length-append (packets_in before) (packets_on page.lacing bytes open_len)
    ∙ ap (λ n. length (packets_in before) + n) (length-parts (lengths_from open_len page.lacing) bytes ∙ sym adds.packets) in
    record {
      sound = fault_is number before page audio bytes open_len o
          ∙ ap (λ f. first_fault f (granule_fault number (bad_granule before now page))) adds.sound
          ∙ ap (granule_fault number) g.sound;
      heard = λ next packets samples base. record {
        packets = packets ∙ ap (λ n. n + tally.packets) o.packets ∙ sym count;
        samples = samples ∙ ap (λ n. n + tally.samples) o.samples ∙ sym more;
        left_is = ap (λ n. drop n bytes) adds.len ∙ sym (open_next before page audio bytes open_len o);
        full = (joins before page o.full o.whole).full;
        base = λ going. subst (λ b. IsBase b now) (sym base) (g.base going);
      };
      given = g.given;
    }

-- ---- behind the headers

pub behind-next : (rest : List Page) (page : Page) → has_tags rest ≡ true → behind_tags (rest ++ page ∷ []) ≡ behind_tags rest ++ page ∷ []
unfolding behind_tags
behind-next [] page h = let f : ⊥ = cc in absurd f
behind-next (p ∷ ps) page h = by_test (cases_Bool (ends_packet p)) (behind-next ps page) where
  any : has_tags (p ∷ ps) ≡ (ends_packet p || has_tags ps)
  any = list_any-append ends_packet (p ∷ []) ps ∙ ap (λ t. t || has_tags ps) (one (ends_packet p)) where
    one : (b : Bool) → (b || false) ≡ b
    one true = refl
    one false = refl

  by_test : (ends_packet p ≡ true) ⊎ (ends_packet p ≡ false) → (has_tags ps ≡ true → behind_tags (ps ++ page ∷ []) ≡ behind_tags ps ++ page ∷ [])
      → behind_tags (p ∷ (ps ++ page ∷ [])) ≡ behind_tags (p ∷ ps) ++ page ∷ []
  by_test (inl e) again = rw e refl
  by_test (inr e) again = let rest : has_tags ps ≡ true = sym (any ∙ ap (λ t. t || has_tags ps) e) ∙ h in rw e (again rest)

pub ended-cons : (p : Page) (ps : List Page) → is_ended (p ∷ ps) ≡ false → is_ended ps ≡ false
ended-cons p ps h = by_any (list_any-append is_last (p ∷ []) ps) where
  by_any : list_any is_last (p ∷ ps) ≡ (list_any is_last (p ∷ []) || list_any is_last ps) → is_ended ps ≡ false
  by_any e = both (list_any is_last (p ∷ [])) (list_any is_last ps) (sym e ∙ h) where
    both : (a b : Bool) → (a || b) ≡ false → b ≡ false
    both false b f = f
    both true b f = let g : ⊥ = cc in absurd g

pub ended-behind : (rest : List Page) → is_ended rest ≡ false → is_ended (behind_tags rest) ≡ false
unfolding behind_tags
ended-behind [] h = refl
ended-behind (p ∷ ps) h = by_test (cases_Bool (ends_packet p)) (ended-behind ps) where
  by_test : (ends_packet p ≡ true) ⊎ (ends_packet p ≡ false) → (is_ended ps ≡ false → is_ended (behind_tags ps) ≡ false) → is_ended (behind_tags (p ∷ ps)) ≡ false
  by_test (inl e) again = rw e (ended-cons p ps h)
  by_test (inr e) again = rw e (again (ended-cons p ps h))

-- the parts of what stands before an audio page
pub record Before (p : Progress) (left : List ℕ) (before : List Page) : Type 0 where
  pub head : Page
  pub rest : List Page
  pub is : before ≡ head ∷ rest
  pub placed : IsPlaced p (head ∷ rest)
  pub tagged : has_tags rest ≡ true
  pub heard : IsHeard p.audio left (behind_tags rest)
  pub going : is_ended (behind_tags rest) ≡ false

pub before_audio : (p : Progress) (left : List ℕ) (before : List Page) → StandsAfter p left before → 1 ≤ p.pages → p.is_tagged ≡ true → p.is_ended ≡ false → Before p left before
before_audio p left [] stands some tagged going = let n = stands.placed.pages in absurd (omega arith)
before_audio p left (head ∷ rest) stands some tagged going =
    let t : has_tags rest ≡ true = sym stands.placed.tagged ∙ tagged in
    record {
      head = head;
      rest = rest;
      is = refl;
      placed = stands.placed;
      tagged = t;
      heard = subst (λ b. IsRead b p.audio left rest) t stands.read;
      going = ended-behind rest (ended-cons head rest (ended_same p (head ∷ rest) stands.placed going));
    }

form_is : (head : Page) (rest : List Page) (page : Page) → has_tags rest ≡ true → form_fault (head ∷ rest) page ≡ audio_fault (length (head ∷ rest)) (behind_tags rest) page
unfolding form_fault
form_is head rest page t = rw t refl

-- the faults
pub play_refused : (p : Progress) (left bytes : List ℕ) (open_len : ℕ) (page : Page) (fault : Fault) (before : List Page) → StandsAfter p left before
    → 1 ≤ p.pages → p.is_tagged ≡ true → p.is_ended ≡ false → order_by p page ≡ None
    → length page.body ≡ sum page.lacing → bytes ≡ left ++ page.body → open_len ≡ length left
    → fault_on page.lacing bytes open_len p.audio.packets ≡ Some fault → page_fault before page ≡ Some fault
play_refused p left bytes open_len page fault before stands some tagged going ordered whole bytes_are open_is h =
    let b = before_audio p left before stands some tagged going in
    let o = offered (behind_tags b.rest) page p.audio left bytes open_len b.heard b.going whole bytes_are open_is in
    subst (λ l. page_fault l page ≡ Some fault) (sym b.is)
    (fault_ordered p (b.head ∷ b.rest) page b.placed going ordered ∙ form_is b.head b.rest page b.tagged
    ∙ packet_refused (length (b.head ∷ b.rest)) (behind_tags b.rest) page p.audio bytes open_len fault o h)

pub play_denied : (p : Progress) (left bytes : List ℕ) (open_len : ℕ) (page : Page) (tally : Tally) (before : List Page) → StandsAfter p left before
    → 1 ≤ p.pages → p.is_tagged ≡ true → p.is_ended ≡ false → order_by p page ≡ None
    → length page.body ≡ sum page.lacing → bytes ≡ left ++ page.body → open_len ≡ length left
    → Adds page.lacing bytes open_len p.audio.packets tally → IsSettledOn p.audio.base p.audio.samples tally.samples page None → page_fault before page ≡ Some (fault_at BadGranule p.pages)
play_denied p left bytes open_len page tally before stands some tagged going ordered whole bytes_are open_is adds h =
    let b = before_audio p left before stands some tagged going in
    let o = offered (behind_tags b.rest) page p.audio left bytes open_len b.heard b.going whole bytes_are open_is in
    subst (λ l. page_fault l page ≡ Some (fault_at BadGranule p.pages)) (sym b.is)
    (fault_ordered p (b.head ∷ b.rest) page b.placed going ordered ∙ form_is b.head b.rest page b.tagged
    ∙ granule_refused (length (b.head ∷ b.rest)) (behind_tags b.rest) page p.audio bytes open_len tally o adds h
    ∙ ap (λ n. Some (fault_at BadGranule n)) (sym b.placed.pages))

-- the packets and the samples of the last page
packets_last : (head : Page) (rest : List Page) (page : Page) → has_tags rest ≡ true
    → last_packets ((head ∷ rest) ++ page ∷ []) ≡ drop (length (packets_in (behind_tags rest))) (packets_in (behind_tags rest ++ page ∷ []))
unfolding last_packets
packets_last head rest page t =
    ap (λ l. drop (length (audio_packets l)) (audio_packets ((head ∷ rest) ++ page ∷ []))) (before-next (head ∷ rest) page)
    ∙ ap (λ l. drop (length (packets_in (behind_tags rest))) (packets_in l)) (behind-next rest page t)

head-kept : (head : Page) (rest : List Page) (page : Page) → head_in ((head ∷ rest) ++ page ∷ []) ≡ head_in (head ∷ rest)
unfolding head_in
head-kept head rest page = refl

pub span_last : (head : Page) (rest : List Page) (page : Page) → has_tags rest ≡ true
    → last_span ((head ∷ rest) ++ page ∷ []) ≡ span (preskip_of (head_in (head ∷ rest)) - samples_on (behind_tags rest)) (given_on (behind_tags rest ++ page ∷ []) - samples_on (behind_tags rest))
unfolding last_span span_on
span_last head rest page t =
    ap (λ h. span_on (preskip_of h) (audio_in (before_last ((head ∷ rest) ++ page ∷ []))) (audio_in ((head ∷ rest) ++ page ∷ []))) (head-kept head rest page)
    ∙ ap (λ l. span_on (preskip_of (head_in (head ∷ rest))) (audio_in l) (audio_in ((head ∷ rest) ++ page ∷ []))) (before-next (head ∷ rest) page)
    ∙ ap (λ l. span_on (preskip_of (head_in (head ∷ rest))) (behind_tags rest) l) (behind-next rest page t)

pub play_passed : (p next : Progress) (left : List ℕ) (room : Kept) (open_len size : ℕ) (page : Page) (tally : Tally) (settled : Settled) (audio : Audio) (written : Span) (before : List Page) → StandsAfter p left before
    → 1 ≤ p.pages → p.is_tagged ≡ true → p.is_ended ≡ false → order_by p page ≡ None
    → size ≡ page_size page → length page.body ≡ sum page.lacing → room.given ≡ left ++ page.body → room.left ≡ tally.len → open_len ≡ length left
    → Adds page.lacing room.given open_len p.audio.packets tally → IsSettledOn p.audio.base p.audio.samples tally.samples page (Some settled)
    → audio.packets ≡ p.audio.packets + tally.packets → audio.samples ≡ p.audio.samples + tally.samples → audio.base ≡ settled.base
    → IsNext p page size p.head true audio next → written ≡ span (preskip_of p.head - p.audio.samples) settled.given
    → (page_fault before page ≡ None) × StandsAfter next (left_in room) (before ++ page ∷ []) × Gives (record { packets = tally.packets; before = open_len; written = written }) room page (before ++ page ∷ [])
play_passed p next left room open_len size page tally settled audio written before stands some tagged going ordered size_is whole bytes_are left_is open_is adds h packets samples base is written_is =
    let b = before_audio p left before stands some tagged going in
    let rest = b.rest in
    let heard_before = behind_tags rest in
    let now = (b.head ∷ rest) ++ page ∷ [] in
    let o = offered heard_before page p.audio left room.given open_len b.heard b.going whole bytes_are open_is in
    let d = played (length (b.head ∷ rest)) heard_before page p.audio room.given open_len tally settled o adds h in
    let tags_now : has_tags (rest ++ page ∷ []) ≡ true = any-next ends_packet rest page ∙ ap (λ t. t || ends_packet page) b.tagged in
    let heard : IsHeard next.audio (left_in room) (behind_tags (rest ++ page ∷ [])) =
    subst (λ l. IsHeard next.audio l (behind_tags (rest ++ page ∷ []))) (ap (λ n. drop n room.given) (sym left_is))
    (subst (λ l. IsHeard next.audio (drop tally.len room.given) l) (sym (behind-next rest page b.tagged))
    (d.heard next.audio (ap (λ (a : Audio). a.packets) is.audio_is ∙ packets) (ap (λ (a : Audio). a.samples) is.audio_is ∙ samples) (ap (λ (a : Audio). a.base) is.audio_is ∙ base))) in
    let fresh = packets_last b.head rest page b.tagged ∙ packets_new heard_before page p.audio room.given open_len o in
    let count : length (last_packets now) ≡ tally.packets = ap length fresh ∙ length-parts (lengths_from open_len page.lacing) room.given ∙ sym adds.packets in
    let all : length room.given ≡ open_len + sum page.lacing = ap length bytes_are ∙ length-append left page.body ∙ (let e = open_is in omega arith) in
    subst (λ l. (page_fault l page ≡ None) × StandsAfter next (left_in room) (l ++ page ∷ []) × Gives (record { packets = tally.packets; before = open_len; written = written }) room page (l ++ page ∷ [])) (sym b.is) (
      fault_ordered p (b.head ∷ rest) page b.placed going ordered ∙ form_is b.head rest page b.tagged ∙ d.sound,
      record {
        placed = placed_next p next (b.head ∷ rest) page size p.head true audio b.placed ordered going size_is is (b.placed.head ∙ sym (head-kept b.head rest page)) (sym tags_now);
        read = subst (λ t. IsRead t next.audio (left_in room) (rest ++ page ∷ [])) (sym tags_now) heard;
      },
      record {
        packets = (sym count, inr (fresh, all));
        span = written_is
            ∙ ap (λ n. span (preskip_of p.head - n) settled.given) o.samples
            ∙ ap (λ n. span (preskip_of p.head - samples_on heard_before) n) (sym d.given)
            ∙ ap (λ o. span (preskip_of o - samples_on heard_before) (given_on (heard_before ++ page ∷ []) - samples_on heard_before)) b.placed.head
            ∙ sym (span_last b.head rest page b.tagged);
      },
    )

-- ---- the parts by which the code has them

pub all_offered : (left body lacing held_body held_lacing bytes : List ℕ) (open_len : ℕ) → held_body ≡ body → held_lacing ≡ lacing → bytes ≡ left ++ held_body → open_len ≡ length left
    → length body ≡ sum lacing → length bytes ≡ open_len + sum held_lacing
all_offered left body lacing held_body held_lacing bytes open_len b l o n whole =
    let e : length bytes ≡ length left + length held_body = ap length o ∙ length-append left held_body in
    let f = ap length b in
    let g = ap sum l in
    omega arith

pub tally_there : (held_lacing lacing bytes : List ℕ) (open_len number : ℕ) (answer : Result Tally Fault) → held_lacing ≡ lacing → IsTally held_lacing bytes open_len number answer → IsTally lacing bytes open_len number answer
tally_there held_lacing lacing bytes open_len number answer e h = subst (λ l. IsTally l bytes open_len number answer) e h
