-- The stream of coded frames: it is read without a fault, and gives the samples that were coded.
use Rattle.std.proofs.Common.{◌≡◌, ℕ, pos, zero, suc, ◌+◌, ◌-◌, ◌*◌, ◌/◌, ◌%◌, ◌^◌, ◌≤◌, ◌<◌, ◌⊎◌, inl, inr, Bool, true, false, List, [], ◌∷◌, ◌++◌, length, replicate, refl, sym, ◌∙◌, ap, subst, arith, w16, w64, Some, None, Ok}
use Rattle.std.specs.Prelude.{FitsSigned, ◌&&◌, nat_lt}
use Rattle.std.specs.List.{All, flat_map}
use Rattle.std.proofs.Math.Nat.{add-mul, mul_assoc, lt-div-mul-add, div-mul-le_self}
use Rattle.std.proofs.lemmas.Bool.{and_parts, ltb-true}
use Rattle.std.proofs.lemmas.Int.{fits_signed_from_abs}
use Rattle.std.proofs.lemmas.Nat.{mul-le}
use Rattle.std.proofs.lemmas.List.Elements.{All-nil, All-cons, All-push}
use Rattle.celt_base.specs.Kinds.{config_of_toc}
use Rattle.opus_packets.specs.declared.header.Head.{Head}
use Rattle.opus_packets.specs.Header.{head_of, written_head, written_tags}
use Rattle.opus_packets.proofs.HeadsSpelled.{head_spelled}
use Rattle.ogg_pages.specs.Fields.{Page}
use Rattle.ogg_pages.specs.Spelling.{AreBytes, IsPage, spelling, packet_page}
use Rattle.ogg_pages.proofs.ByteLists.{bytes-nil, bytes-cons}
use Rattle.ogg_pages.proofs.PacketPages.{packet_is_page}
use Rattle.opus_stream.specs.Acceptance.{accepted, fault_of, head_in, ok_head, preskip_of, audio_in}
use Rattle.opus_stream.specs.Audio.{packet_fault}
use Rattle.opus_stream.specs.Carrying.{is_none_of, IsFlagged, IsNumbered, Carries, AreSound}
use Rattle.opus_stream.specs.Granules.{is_last, given_on}
use Rattle.opus_stream.specs.Packets.{ends_packet, is_open}
use Rattle.opus_stream.specs.Spans.{written_in}
use Rattle.opus_stream.specs.Tests.{is_continued, is_first}
use Rattle.opus_stream.proofs.Carried.{tagged_behind}
use Rattle.opus_stream.proofs.Spanning.{spanned}
use Rattle.opus_stream.proofs.Spelled.{streams_read}
use Rattle.celt_session.specs.AudioPages.{Coded, kind_in, packet_of, page_of, packets_from, frame_count, last_packet, last_page, ended_pages, with_headers}
use Rattle.celt_session.specs.Encoding.{head_page, tags_page}
use Rattle.celt_session.specs.FrameFunctions.{frames_from}
use Rattle.celt_session.specs.Frames.{duration}
use Rattle.celt_session.proofs.KeepingPackets.{IsPlayed, AreFrames, packet_played}
use Rattle.celt_session.proofs.KeepingPages.{firsts, firsts-len, IsAudio, lacing_ends, closed_behind, Place, Inner, Last, placed, packets, carry_all, closed_front, granules, given_all}
use Rattle.celt_session.proofs.PacketLemmas.{packets-none, packets-more}
use Rattle.celt_session.proofs.Rows.{frames-none, frames-more, frames-count, frames-lengths, frames-bytes-len}

-- Frames of one length, under a first byte of the CELT-only mode; so many in a packet that it lasts at most 120 ms.
pub record IsCoded (c : Coded) (bytes : ℕ) : Type 0 where
  pub celt : 16 ≤ config_of_toc c.toc
  pub code : c.toc % 4 ≡ 0
  pub small : c.toc < 253
  pub some : 1 ≤ c.group
  pub few : c.group ≤ 48
  pub limited : bytes ≤ 1275
  pub some_samples : 1 ≤ duration (kind_in c)
  pub short : c.group * duration (kind_in c) ≤ 5760
  pub lengths : (t : ℕ) → length (c.frame t) ≡ bytes
  pub are_bytes : (t : ℕ) → AreBytes (c.frame t)

-- A stream that is read without a fault, with so many channels, a pre-skip of 120 samples and no gain, of which so many samples are written.
pub record IsRead (text : List ℕ) (channels n : ℕ) : Type 0 where
  pub none : fault_of text ≡ None
  pub head : head_in (accepted text) ≡ Some (record { channels = channels; preskip = 120; gain = pos 0 })
  pub written : written_in (accepted text) ≡ n

-- a page of a packet that is played
record IsSound (page : Page) : Type 0 where
  pub is_page : IsPage page
  pub sound : (number : ℕ) → packet_fault number page.body ≡ None

all_firsts : {X : Type 0} (P : X → Type 0) (f : ℕ → X) (count : ℕ) → ((i : ℕ) → i < count → P (f i)) → All P (firsts f count)
unfolding firsts
all_firsts P f zero h = All-nil P
all_firsts P f (suc k) h = All-push P (firsts f k) (f k) (all_firsts P f k (λ i l. h i (omega arith))) (h k (omega arith))

granule_fits : (g : ℕ) → g < 2 ^ 63 → FitsSigned w64 (pos g)
granule_fits g h = fits_signed_from_abs w64 (pos g) h

-- bytes that can be looked at
abbrev are_small : List ℕ → Bool
are_small [] = true
are_small (x ∷ xs) = nat_lt x 256 && are_small xs

small_bytes : (xs : List ℕ) → are_small xs ≡ true → AreBytes xs
small_bytes [] h = bytes-nil
small_bytes (x ∷ xs) h = let p = and_parts (nat_lt x 256) (are_small xs) h in bytes-cons x xs (ltb-true x 256 p.0) (small_bytes xs p.1)

header_page : (flags sequence : ℕ) (packet : List ℕ) → flags < 256 → sequence < 2 ^ 32 → length packet ≤ 61440 → are_small packet ≡ true → IsPage (packet_page flags (pos 0) sequence packet)
header_page flags sequence packet f s len small = packet_is_page flags (pos 0) sequence packet f (granule_fits 0 (omega arith)) s len (small_bytes packet small)

-- where a page stands among two pages of headers and others behind them
data Part (head tags : Page) (audio before : List Page) (page : Page) (others : List Page) : Type 0 where
  AtHead : before ≡ [] → page ≡ head → others ≡ tags ∷ audio → Part head tags audio before page others
  AtTags : before ≡ head ∷ [] → page ≡ tags → others ≡ audio → Part head tags audio before page others
  InAudio : (b : List Page) → before ≡ head ∷ tags ∷ b → audio ≡ b ++ page ∷ others → Part head tags audio before page others

part_of : (head tags : Page) (audio before : List Page) (page : Page) (others : List Page) → head ∷ tags ∷ audio ≡ before ++ page ∷ others → Part head tags audio before page others
part_of head tags audio [] page others e = let p : page ≡ head = cc in let o : others ≡ tags ∷ audio = cc in AtHead refl p o
part_of head tags audio (x ∷ []) page others e =
    let b : x ≡ head = cc in
    let p : page ≡ tags = cc in
    let o : others ≡ audio = cc in
    AtTags (ap (λ z. z ∷ []) b) p o
part_of head tags audio (x ∷ y ∷ before) page others e =
    let a : x ≡ head = cc in
    let b : y ≡ tags = cc in
    let o : audio ≡ before ++ page ∷ others = cc in
    InAudio before (λ i. a i ∷ b i ∷ before) o

-- ---- the frames and packets of so many samples

record AreCounts (n samples group frames packets : ℕ) : Type 0 where
  pub behind : packets * (group * samples) ≤ 120 + n
  pub some : 1 ≤ frames - packets * group
  pub few : frames - packets * group ≤ group
  pub within : 120 + n ≤ packets * (group * samples) + (frames - packets * group) * samples

counts_are : (n samples group : ℕ) → 1 ≤ samples → 1 ≤ group → AreCounts n samples group ((120 + n + samples - 1) / samples) (((120 + n + samples - 1) / samples - 1) / group)
counts_are n samples group s g =
    let all = 120 + n + samples - 1 in
    let frames = all / samples in
    let packets = (frames - 1) / group in
    let low : frames * samples ≤ all = div-mul-le_self all samples in
    let high : all < frames * samples + samples = lt-div-mul-add {b = samples} (omega arith) in
    let enough : 120 + n ≤ frames * samples = omega arith in
    let some : 1 ≤ frames = some_frames frames samples n enough in
    let one : (frames - 1 + 1) * samples ≡ (frames - 1) * samples + 1 * samples = add-mul (frames - 1) 1 samples in
    let again : frames - 1 + 1 ≡ frames = omega arith in
    let same : (frames - 1 + 1) * samples ≡ frames * samples = ap (λ k. k * samples) again in
    let fewest : (frames - 1) * samples ≤ 120 + n = omega arith in
    let full : packets * group ≤ frames - 1 = div-mul-le_self (frames - 1) group in
    let next : frames - 1 < packets * group + group = lt-div-mul-add {b = group} (omega arith) in
    let product : packets * group * samples ≤ (frames - 1) * samples = mul-le (packets * group) samples (frames - 1) samples full (omega arith) in
    let assoc = mul_assoc packets group samples in
    let split : (packets * group + (frames - packets * group)) * samples ≡ packets * group * samples + (frames - packets * group) * samples = add-mul (packets * group) (frames - packets * group) samples in
    let parts : packets * group + (frames - packets * group) ≡ frames = omega arith in
    let whole : (packets * group + (frames - packets * group)) * samples ≡ frames * samples = ap (λ k. k * samples) parts in
    record { behind = omega arith; some = omega arith; few = omega arith; within = omega arith }
  where
    some_frames : (frames samples n : ℕ) → 120 + n ≤ frames * samples → 1 ≤ frames
    some_frames zero samples n h = let e = Rattle.std.proofs.Math.Nat.zero-mul samples in absurd (omega arith)
    some_frames (suc frames) samples n h = omega arith

-- ---- the pages

module _ (c : Coded) (bytes n : ℕ) (h : IsCoded c bytes) (most : n < 2 ^ 62) where
  abbrev size : ℕ
  size = c.group * duration (kind_in c)

  abbrev count : ℕ
  count = last_packet c n

  abbrev left : ℕ
  left = frame_count c n - count * c.group

  counts : AreCounts n (duration (kind_in c)) c.group (frame_count c n) count
  counts = counts_are n (duration (kind_in c)) c.group h.some_samples h.some

  abbrev inner : ℕ → Page
  inner i = page_of c 0 ((i + 1) * c.group * duration (kind_in c)) i c.group

  inner_pages : (k : ℕ) → packets_from c 0 k ≡ firsts inner k
  unfolding firsts
  inner_pages zero = packets-none c 0
  inner_pages (suc k) = let place : 0 + k ≡ k = omega arith in packets-more c 0 k ∙ ap (λ i. packets_from c 0 k ++ inner i ∷ []) place ∙ ap (λ l. l ++ inner k ∷ []) (inner_pages k)

  all_bytes : (t k : ℕ) → All AreBytes (frames_from c.frame t k)
  all_bytes t zero = subst (All AreBytes) (sym (frames-none c.frame t)) (All-nil AreBytes)
  all_bytes t (suc k) = subst (All AreBytes) (sym (frames-more c.frame t k)) (All-push AreBytes (frames_from c.frame t k) (c.frame (t + k)) (all_bytes t k) (h.are_bytes (t + k)))

  frames_are : (t k : ℕ) → 1 ≤ k → k ≤ c.group → AreFrames c.toc bytes (frames_from c.frame t k)
  frames_are t k some within =
      let e : length (frames_from c.frame t k) ≡ k = frames-count c.frame t k in
      let few = h.few in
      let product = mul-le k (duration (kind_in c)) c.group (duration (kind_in c)) within (omega arith) in
      let short = h.short in
      record {
        some = omega arith;
        few = omega arith;
        limited = h.limited;
        short = subst (λ m. m * duration (kind_in c) ≤ 5760) (sym e) (omega arith);
        lengths = frames-lengths c.frame bytes h.lengths t k ∙ ap (λ m. replicate m bytes) (sym e);
        total = frames-bytes-len c.frame bytes h.lengths t k ∙ ap (λ m. m * bytes) (sym e);
        are_bytes = all_bytes t k;
      }

  packet_is : (t k : ℕ) → 1 ≤ k → k ≤ c.group → IsPlayed c.toc k (packet_of c.toc (frames_from c.frame t k))
  packet_is t k some within =
      subst (λ m. IsPlayed c.toc m (packet_of c.toc (frames_from c.frame t k))) (frames-count c.frame t k) (packet_played c.toc bytes h.celt h.code h.small (frames_from c.frame t k) (frames_are t k some within))

  page_sound : (flags granule number k : ℕ) → flags < 256 → granule < 2 ^ 63 → 1 ≤ k → k ≤ c.group → IsSound (page_of c flags granule number k)
  page_sound flags granule number k f g some within =
      let p = packet_is (number * c.group) k some within in
      record {
        is_page = packet_is_page flags (pos granule) ((number + 2) % 2 ^ 32) (packet_of c.toc (frames_from c.frame (number * c.group) k)) f (granule_fits granule g) (omega arith) p.short p.bytes;
        sound = p.sound;
      }

  page_is : (flags granule number k : ℕ) → 1 ≤ k → k ≤ c.group → IsAudio flags (k * duration (kind_in c)) granule number (page_of c flags granule number k)
  page_is flags granule number k some within =
      record { flags_are = refl; granule_is = refl; serial = refl; sequence = refl; lacing = refl; samples_are = (packet_is (number * c.group) k some within).samples }

  each : (i : ℕ) → i < count → IsAudio 0 size ((i + 1) * size) i (inner i)
  each i l =
      subst (λ g. IsAudio 0 size g i (inner i)) (mul_assoc (i + 1) c.group (duration (kind_in c))) (page_is 0 ((i + 1) * c.group * duration (kind_in c)) i c.group h.some (omega arith))

  final : IsAudio 4 (left * duration (kind_in c)) (120 + n) count (last_page c n)
  final = page_is 4 (120 + n) count left counts.some counts.few

  inner_sound : (i : ℕ) → i < count → IsSound (inner i)
  inner_sound i l =
      let product = mul-le (i + 1) size count size (omega arith) (omega arith) in
      let assoc = mul_assoc (i + 1) c.group (duration (kind_in c)) in
      let behind = counts.behind in
      page_sound 0 ((i + 1) * c.group * duration (kind_in c)) i c.group (omega arith) (omega arith) h.some (omega arith)

  last_sound : IsSound (last_page c n)
  last_sound = page_sound 4 (120 + n) count left (omega arith) (omega arith) counts.some counts.few

  abbrev audio : List Page
  audio = firsts inner count ++ last_page c n ∷ []

  audio_is : ended_pages c n ≡ audio
  audio_is = ap (λ l. l ++ last_page c n ∷ []) (inner_pages count)

  audio_placed : (before : List Page) (page : Page) (others : List Page) → audio ≡ before ++ page ∷ others → Place inner (last_page c n) count before page others
  audio_placed = placed inner (last_page c n) count size (left * duration (kind_in c)) (120 + n) each final counts.behind counts.within

  abbrev bodies : List (List ℕ)
  bodies = packets inner (last_page c n) count size (left * duration (kind_in c)) (120 + n) each final counts.behind counts.within

  module _ (channels : ℕ) (two : (channels ≡ 1) ⊎ (channels ≡ 2)) where
    abbrev all : List Page
    all = head_page channels ∷ tags_page ∷ audio

    tags_end : ends_packet tags_page ≡ true
    tags_end = lacing_ends (length written_tags)

    some_audio : is_none_of audio ≡ false
    some_audio = by (firsts inner count) where
      by : (pages : List Page) → is_none_of (pages ++ last_page c n ∷ []) ≡ false
      by [] = refl
      by (page ∷ pages) = refl

    closed_headers : is_open (head_page channels ∷ tags_page ∷ []) ≡ false
    closed_headers = closed_behind (head_page channels ∷ []) tags_page (length written_tags) refl

    closed_head : is_open (head_page channels ∷ []) ≡ false
    closed_head = closed_behind [] (head_page channels) (length (written_head channels 48000)) refl

    closed_none : is_open [] ≡ false
    unfolding is_open
    closed_none = refl

    closed_audio : (k : ℕ) → k ≤ count → is_open (head_page channels ∷ tags_page ∷ firsts inner k) ≡ false
    closed_audio k l = closed_front inner (last_page c n) count size (left * duration (kind_in c)) (120 + n) each final counts.behind counts.within (head_page channels ∷ tags_page ∷ []) k l closed_headers

    flagged_audio : (before : List Page) (page : Page) (others : List Page) → audio ≡ before ++ page ∷ others → IsFlagged (head_page channels ∷ tags_page ∷ before) page others
    flagged_audio before page others e = by (audio_placed before page others e) where
      by : Place inner (last_page c n) count before page others → IsFlagged (head_page channels ∷ tags_page ∷ before) page others
      by (Inner i l b p more) = record {
        first = ap is_first p;
        last = ap is_last p ∙ sym more;
        continued = ap is_continued p ∙ sym (ap (λ l. is_open (head_page channels ∷ tags_page ∷ l)) b ∙ closed_audio i (omega arith));
      }
      by (Last b p none) = record {
        first = ap is_first p;
        last = ap is_last p ∙ sym (ap is_none_of none);
        continued = ap is_continued p ∙ sym (ap (λ l. is_open (head_page channels ∷ tags_page ∷ l)) b ∙ closed_audio count (omega arith));
      }

    flagged : (before : List Page) (page : Page) (others : List Page) → all ≡ before ++ page ∷ others → IsFlagged before page others
    flagged before page others e = by (part_of (head_page channels) tags_page audio before page others e) where
      by : Part (head_page channels) tags_page audio before page others → IsFlagged before page others
      by (AtHead b p o) = record {
        first = ap is_first p ∙ sym (ap is_none_of b);
        last = ap is_last p ∙ sym (ap is_none_of o);
        continued = ap is_continued p ∙ sym (ap is_open b ∙ closed_none);
      }
      by (AtTags b p o) = record {
        first = ap is_first p ∙ sym (ap is_none_of b);
        last = ap is_last p ∙ sym (ap is_none_of o ∙ some_audio);
        continued = ap is_continued p ∙ sym (ap is_open b ∙ closed_head);
      }
      by (InAudio rest b o) = subst (λ l. IsFlagged l page others) (sym b) (flagged_audio rest page others o)

    more_two : (n : ℕ) → (0 + (n + 2)) % 2 ^ 32 ≡ (0 + suc (suc n)) % 2 ^ 32
    more_two n = let e : 0 + (n + 2) ≡ 0 + suc (suc n) = omega arith in ap (λ m. m % 2 ^ 32) e

    numbered_audio : (before : List Page) (page : Page) (others : List Page) → audio ≡ before ++ page ∷ others → IsNumbered (head_page channels) (head_page channels ∷ tags_page ∷ before) page
    numbered_audio before page others e = by (audio_placed before page others e) where
      number : (i : ℕ) (l : List Page) → l ≡ firsts inner i → (i + 2) % 2 ^ 32 ≡ (0 + length (head_page channels ∷ tags_page ∷ l)) % 2 ^ 32
      number i l b = let len : length l ≡ i = ap length b ∙ firsts-len inner i in let e : i + 2 ≡ 0 + (length l + 2) = omega arith in ap (λ m. m % 2 ^ 32) e ∙ more_two (length l)

      by : Place inner (last_page c n) count before page others → IsNumbered (head_page channels) (head_page channels ∷ tags_page ∷ before) page
      by (Inner i l b p more) = record { serial = ap (λ (q : Page). q.serial) p; sequence = ap (λ (q : Page). q.sequence) p ∙ number i before b }
      by (Last b p none) = record { serial = ap (λ (q : Page). q.serial) p; sequence = ap (λ (q : Page). q.sequence) p ∙ number count before b }

    numbered : (before : List Page) (page : Page) (others : List Page) → all ≡ before ++ page ∷ others → IsNumbered (head_page channels) before page
    numbered before page others e = by (part_of (head_page channels) tags_page audio before page others e) where
      by : Part (head_page channels) tags_page audio before page others → IsNumbered (head_page channels) before page
      by (AtHead b p o) = record {
        serial = ap (λ (q : Page). q.serial) p;
        sequence = ap (λ (q : Page). q.sequence) p ∙ sym (ap (λ (l : List Page). (0 + length l) % 2 ^ 32) b);
      }
      by (AtTags b p o) = record {
        serial = ap (λ (q : Page). q.serial) p;
        sequence = ap (λ (q : Page). q.sequence) p ∙ sym (ap (λ (l : List Page). (0 + length l) % 2 ^ 32) b);
      }
      by (InAudio rest b o) = subst (λ l. IsNumbered (head_page channels) l page) (sym b) (numbered_audio rest page others o)

    carries : Carries all (written_head channels 48000) written_tags bodies
    carries =
        let carry = carry_all inner (last_page c n) count size (left * duration (kind_in c)) (120 + n) each final counts.behind counts.within in
        record {
          first = head_page channels;
          comments = [];
          closing = tags_page;
          audio = audio;
          pages_are = refl;
          head_lacing = refl;
          head_body = refl;
          tags_lacing = refl;
          tags_end = tags_end;
          tags_body = refl;
          audio_lacing = carry.lacing;
          audio_body = carry.body;
          flags = flagged;
          numbers = numbered;
          granules = granules inner (last_page c n) count size (left * duration (kind_in c)) (120 + n) each final counts.behind counts.within;
        }

    abbrev says : Head
    says = record { channels = channels; preskip = 120; gain = pos 0 }

    head_is : head_of (written_head channels 48000) ≡ Ok says
    head_is =
        head_spelled (record { version = 1; channels = channels; preskip = 120; rate = 48000; gain = pos 0; rest = [] })
        (record { version = omega arith; channels = two; preskip = omega arith; rate = omega arith; gain = fits_signed_from_abs w16 (pos 0) (omega arith) })

    abbrev Fine : List ℕ → Type 0
    Fine packet = (number : ℕ) → packet_fault number packet ≡ None

    sound : AreSound (written_head channels 48000) written_tags bodies
    sound = record {
      says = says;
      head_is = head_is;
      tags_are = refl;
      packets_are = All-push Fine (firsts (λ i. (inner i).body) count) (last_page c n).body (all_firsts Fine (λ i. (inner i).body) count (λ i l. (inner_sound i l).sound)) last_sound.sound;
    }

    head_page_is : IsPage (head_page channels)
    head_page_is = by two where
      by : (channels ≡ 1) ⊎ (channels ≡ 2) → IsPage (head_page channels)
      by (inl e) = subst (λ k. IsPage (head_page k)) (sym e) (header_page 2 0 (written_head 1 48000) (omega arith) (omega arith) (omega arith) refl)
      by (inr e) = subst (λ k. IsPage (head_page k)) (sym e) (header_page 2 0 (written_head 2 48000) (omega arith) (omega arith) (omega arith) refl)

    tags_page_is : IsPage tags_page
    tags_page_is = header_page 0 1 written_tags (omega arith) (omega arith) (omega arith) refl

    all_pages : All IsPage all
    all_pages =
        All-cons IsPage (head_page channels) (tags_page ∷ audio) head_page_is
        (All-cons IsPage tags_page audio tags_page_is
        (All-push IsPage (firsts inner count) (last_page c n) (all_firsts IsPage inner count (λ i l. (inner_sound i l).is_page)) last_sound.is_page))

    -- the stream
    abbrev text : List ℕ
    text = flat_map spelling (with_headers c (ended_pages c n))

    headed : (pages : List Page) → head_in (head_page channels ∷ pages) ≡ Some says
    unfolding head_in
    headed pages = ap ok_head head_is

    audio_part : audio_in all ≡ audio
    audio_part = (tagged_behind [] tags_page audio refl tags_end).1

    pub stream_read : (kind_in c).channels ≡ channels → IsRead text channels n
    stream_read e =
        let r = streams_read all (written_head channels 48000) written_tags bodies all_pages carries sound in
        let pages : with_headers c (ended_pages c n) ≡ all = ap (λ k. head_page k ∷ tags_page ∷ ended_pages c n) e ∙ ap (λ l. head_page channels ∷ tags_page ∷ l) audio_is in
        let same : text ≡ flat_map spelling all = ap (flat_map spelling) pages in
        let there : accepted text ≡ all = ap accepted same ∙ r.accepted_are in
        let given : given_on audio ≡ 120 + n = given_all inner (last_page c n) count size (left * duration (kind_in c)) (120 + n) each final counts.behind counts.within in
        let head : head_in (accepted text) ≡ Some says = ap head_in there ∙ headed (tags_page ∷ audio) in
        let total = (spanned text).total in
        let kept : given_on (audio_in (accepted text)) ≡ 120 + n = ap (λ l. given_on (audio_in l)) there ∙ ap given_on audio_part ∙ given in
        let skip : preskip_of (head_in (accepted text)) ≡ 120 = ap preskip_of head in
        record { none = ap fault_of same ∙ r.none; head = head; written = omega arith }
