-- Files whose frames are bytes: their streams keep their samples.
use Rattle.std.proofs.Common.{◌≡◌, ℕ, pos, ◌+◌, ◌-◌, ◌*◌, ◌/◌, ◌%◌, ◌^◌, ◌≤◌, ◌<◌, ◌⊎◌, inl, inr, Bool, true, false, List, ◌++◌, length, take, drop, refl, sym, ◌∙◌, ap, subst, arith, length-drop, Option, Some, None}
use Rattle.std.specs.Prelude.{◌==◌, is_none, if◌then◌else◌}
use Rattle.std.specs.List.{flat_map}
use Rattle.std.proofs.lemmas.Bool.{leb-true, eqb-true}
use Rattle.std.proofs.lemmas.List.{length-take-le, drop_at}
use Rattle.std.proofs.lemmas.Nat.{pow_pos}
use Rattle.celt_base.specs.declared.status.Fault.{Fault}
use Rattle.celt_base.specs.declared.status.FaultName.TheVariants.{DataTruncated}
use Rattle.ogg_pages.specs.Spelling.{AreBytes, spelling}
use Rattle.opus_stream.specs.Acceptance.{accepted, fault_of as stream_fault, head_in}
use Rattle.opus_stream.specs.Spans.{written_in}
use Rattle.wav_edge.specs.Samples.{samples_of as samples_in_bytes}
use Rattle.wav_edge.specs.Reading.{Outcome, outcome, within_size, is_whole, samples, sample_bytes}
use Rattle.wav_edge.specs.Reading.Outcome.{Unfinished, Faulty, Started}
use Rattle.wav_edge.proofs.LawLemmas.{IsSound, outcome_sound}
use Rattle.wav_edge.specs.Spellings.{header}
use Rattle.wav_edge.proofs.ReaderLemmas.{readable_cases}
use Rattle.wav_edge.proofs.SpellingLemmas.{header_read}
use Rattle.celt_session.specs.declared.settings.Settings.{Settings}
use Rattle.celt_session.specs.declared.coding.FrameSize.{FrameSize}
use Rattle.celt_session.specs.declared.coding.FrameSize.TheVariants.{Samples120, Samples240, Samples480, Samples960}
use Rattle.celt_session.specs.declared.coding.Bandwidth.{Bandwidth}
use Rattle.celt_session.specs.declared.coding.Bandwidth.TheVariants.{Narrow, Wide, SuperWide, Full}
use Rattle.celt_session.specs.AudioPages.{Coded, ended_pages, with_headers}
use Rattle.celt_session.specs.Encoding.{size_number, band_number, size_of, band_of, coding_of, toc_of}
use Rattle.celt_session.specs.Encodings.{AreSettings, Audio, row_of, coded, sample_count, audio_of, fault_by, fault_of, pages_by, full}
use Rattle.celt_session.specs.FrameFunctions.{FrameFunction, frame_at}
use Rattle.celt_session.specs.Frames.{kind_of}
use Rattle.celt_session.specs.Decoding.{decoding}
use Rattle.celt_session.specs.Keeping.{into_samples, into_file, Holds, IsKept}
use Rattle.celt_session.specs.Samples.{channels_in}
use Rattle.celt_session.proofs.KeepingSamples.{decoded_len, file_is}
use Rattle.celt_session.proofs.KeepingStream.{IsCoded, stream_read}
use Rattle.celt_session.proofs.Planned.{toc_is, kind_channels, duration_for, few_frames}
use Rattle.celt_session.proofs.Rows.{frame-len}
use Rattle.celt_session.proofs.Sampling.{samples-len}
use Rattle.celt_session.proofs.WholeSizes.{whole_size}

-- ---- the first byte of a packet

size_few : (size : FrameSize) → size_number size ≤ 3
size_few Samples120 = omega arith
size_few Samples240 = omega arith
size_few Samples480 = omega arith
size_few Samples960 = omega arith

band_few : (band : Bandwidth) → band_number band ≤ 3
band_few Narrow = omega arith
band_few Wide = omega arith
band_few SuperWide = omega arith
band_few Full = omega arith

toc_small : (settings : Settings) (channels : ℕ) → (channels ≡ 1) ⊎ (channels ≡ 2) → toc_of (coding_of settings) channels < 253
toc_small settings channels (inl e) = let s = size_few (size_of settings.frame) in let b = band_few (band_of settings.band) in omega arith
toc_small settings channels (inr e) = let s = size_few (size_of settings.frame) in let b = band_few (band_of settings.band) in omega arith

-- ---- the samples of a file without a fault

-- Samples that have begun, all of whose groups are whole.
record IsWhole (bytes : List ℕ) (channels rate : ℕ) (size : Option ℕ) (place : ℕ) : Type 0 where
  pub begun : outcome bytes ≡ Started channels rate size place
  pub channels_are : (channels ≡ 1) ⊎ (channels ≡ 2)
  pub groups : length (within_size size (drop place bytes)) % (2 * channels) ≡ 0
  pub few : length (within_size size (drop place bytes)) ≤ length bytes

groups_whole : (size : Option ℕ) (channels : ℕ) (rest : List ℕ) (count : ℕ) → length rest ≡ count → ((n : ℕ) → size ≡ Some n → n % (2 * channels) ≡ 0) → is_whole channels size count ≡ true
    → (length (within_size size rest) % (2 * channels) ≡ 0) × (length (within_size size rest) ≤ count)
groups_whole None channels rest count len whole t = (ap (λ n. n % (2 * channels)) len ∙ eqb-true (count % (2 * channels)) 0 t, omega arith)
groups_whole (Some size) channels rest count len whole t =
    let less : size ≤ count = leb-true size count t in
    let same : length (take size rest) ≡ size = length-take-le size rest (omega arith) in
    (ap (λ n. n % (2 * channels)) same ∙ whole size refl, omega arith)

abbrev unless : Bool → ℕ → Option Fault
unless b n = if b then None else Some (record { name = DataTruncated; at = n })

whole_test : (b : Bool) (n : ℕ) → unless b n ≡ None → b ≡ true
whole_test true n h = refl
whole_test false n h = let f : ⊥ = cc in absurd f

is_whole_at : (bytes : List ℕ) (channels rate : ℕ) (size : Option ℕ) (place : ℕ) → outcome bytes ≡ Started channels rate size place → fault_of bytes ≡ None → IsWhole bytes channels rate size place
unfolding fault_of
is_whole_at bytes channels rate size place e h =
    let sound : IsSound (length bytes) (Started channels rate size place) = subst (IsSound (length bytes)) e (outcome_sound bytes) in
    let none : fault_by (Started channels rate size place) (length bytes) ≡ None = sym (ap (λ o. fault_by o (length bytes)) e) ∙ h in
    let whole = whole_test (is_whole channels size (length bytes - place)) (length bytes) none in
    let declared : (n : ℕ) → size ≡ Some n → n % (2 * channels) ≡ 0 = λ n s. whole_size bytes channels rate n place (e ∙ ap (λ o. Started channels rate o place) s) in
    let both = groups_whole size channels (drop place bytes) (length bytes - place) (length-drop place bytes) declared whole in
    let few = both.1 in
    record { begun = e; channels_are = readable_cases channels rate sound.0; groups = both.0; few = omega arith }

-- so many bytes are so many whole groups
groups_of : (channels held all count : ℕ) → (channels ≡ 1) ⊎ (channels ≡ 2) → held % (2 * channels) ≡ 0 → all ≡ held / 2 → count ≡ all / channels → (all ≡ channels * count) × (count ≤ held)
groups_of channels held all count (inl e) even a c =
    let even_one : held % (2 * 1) ≡ 0 = subst (λ k. held % (2 * k) ≡ 0) e even in
    let count_one : count ≡ all / 1 = subst (λ k. count ≡ all / k) e c in
    subst (λ k. (all ≡ k * count) × (count ≤ held)) (sym e) (omega arith, omega arith)
groups_of channels held all count (inr e) even a c =
    let even_two : held % (2 * 2) ≡ 0 = subst (λ k. held % (2 * k) ≡ 0) e even in
    let count_two : count ≡ all / 2 = subst (λ k. count ≡ all / k) e c in
    subst (λ k. (all ≡ k * count) × (count ≤ held)) (sym e) (omega arith, omega arith)

samples_are : (bytes : List ℕ) (channels rate : ℕ) (size : Option ℕ) (place : ℕ) → outcome bytes ≡ Started channels rate size place → samples bytes ≡ samples_in_bytes (within_size size (drop place bytes))
unfolding samples
samples_are bytes channels rate size place e = ap (λ o. samples_in_bytes (sample_bytes o bytes)) e

-- ---- a file

same_channels : (channels : ℕ) → (channels ≡ 1) ⊎ (channels ≡ 2) → (if channels == 2 then 2 else 1) ≡ channels
same_channels channels (inl e) = subst (λ k. (if k == 2 then 2 else 1) ≡ k) (sym e) refl
same_channels channels (inr e) = subst (λ k. (if k == 2 then 2 else 1) ≡ k) (sym e) refl

header_len : (channels : ℕ) → length (header channels) ≡ 44
unfolding header
header_len channels = refl

-- a file of a header and the bytes of so many samples
file_holds : (channels count : ℕ) (text : List ℕ) → (channels ≡ 1) ⊎ (channels ≡ 2) → length text ≡ 2 * (channels * count) → Holds (header channels ++ text) channels count
file_holds channels count text two len =
    let begun : outcome (header channels ++ text) ≡ Started channels 48000 None 44 = header_read channels two text in
    let behind : drop 44 (header channels ++ text) ≡ text = drop_at (header channels) text 44 (header_len channels) in
    let same : length (samples (header channels ++ text)) ≡ length (samples_in_bytes (drop 44 (header channels ++ text))) = ap length (samples_are (header channels ++ text) channels 48000 None 44 begun) in
    let half : length (samples_in_bytes (drop 44 (header channels ++ text))) ≡ length text / 2 = samples-len (drop 44 (header channels ++ text)) ∙ ap (λ l. length l / 2) behind in
    record { rate = 48000; size = None; place = 44; format = begun; all = omega (arith, same, half, len) }

module _ (f : FrameFunction) (settings : Settings) (bytes : List ℕ) (ok : AreSettings settings) (short : length bytes ≤ 2 ^ 40) (none : fault_of bytes ≡ None)
    (are_bytes : (channels t : ℕ) → AreBytes (frame_at f (row_of f (audio_of settings channels bytes)) t)) where
  module _ (channels rate : ℕ) (size : Option ℕ) (place : ℕ) (w : IsWhole bytes channels rate size place) where
    abbrev sound_of : Audio
    sound_of = audio_of settings channels bytes

    abbrev c : Coded
    c = coded f sound_of

    abbrev count : ℕ
    count = sample_count sound_of

    channels_same : (kind_of sound_of.toc).channels ≡ channels
    channels_same = kind_channels sound_of.toc ∙ (toc_is settings channels w.channels_are).channels_are

    groups : (length (samples bytes) ≡ channels * count) × (count ≤ length (within_size size (drop place bytes)))
    groups =
        let held = within_size size (drop place bytes) in
        groups_of channels (length held) (length (samples bytes)) count w.channels_are w.groups
        (ap length (samples_are bytes channels rate size place w.begun) ∙ samples-len held) (ap (λ k. length (samples bytes) / k) channels_same)

    is_coded : IsCoded c settings.bytes
    is_coded =
        let t = toc_is settings channels w.channels_are in
        let some = pow_pos (kind_of sound_of.toc).lm in
        record {
          celt = t.celt;
          code = t.code;
          small = toc_small settings channels w.channels_are;
          some = ok.some;
          few = few_frames settings ok;
          limited = ok.most;
          some_samples = omega arith;
          short = subst (λ n. settings.group * n ≤ 5760) (sym (duration_for settings channels ok w.channels_are)) ok.short;
          lengths = frame-len f (row_of f sound_of) settings.bytes ok.least (λ t. refl);
          are_bytes = are_bytes channels;
        }

    abbrev text : List ℕ
    text = flat_map spelling (with_headers c (ended_pages c count))

    text_is : full f settings bytes ≡ text
    unfolding full
    text_is =
        ap (λ o. flat_map spelling (pages_by f settings o bytes (is_none (fault_of bytes)))) w.begun
        ∙ ap (λ (e : Option Fault). flat_map spelling (pages_by f settings (Started channels rate size place) bytes (is_none e))) none

    is_kept : IsKept f settings bytes
    is_kept =
        let few = groups.1 in
        let less = w.few in
        let r = stream_read c settings.bytes count is_coded (omega arith) channels w.channels_are channels_same in
        let head : head_in (accepted (full f settings bytes)) ≡ Some (record { channels = channels; preskip = 120; gain = pos 0 }) = ap (λ l. head_in (accepted l)) text_is ∙ r.head in
        let written : written_in (accepted (full f settings bytes)) ≡ count = ap (λ l. written_in (accepted l)) text_is ∙ r.written in
        let same : channels_in (head_in (accepted (full f settings bytes))) ≡ channels = ap channels_in head ∙ same_channels channels w.channels_are in
        let given : (invert : Bool) → length ((decoding (into_samples invert)).full (full f settings bytes)) ≡ 2 * (channels * count) = λ invert.
        decoded_len invert (full f settings bytes) ∙ ap (λ k. 2 * (k * written_in (accepted (full f settings bytes)))) same ∙ ap (λ k. 2 * (channels * k)) written in
        record {
          channels = channels;
          count = count;
          held = record { rate = rate; size = size; place = place; format = w.begun; all = groups.0 };
          head = head;
          sound = λ invert. ap stream_fault text_is ∙ r.none;
          given = given;
          kept = λ invert.
              let text = (decoding (into_samples invert)).full (full f settings bytes) in
              let file : (decoding (into_file invert)).full (full f settings bytes) ≡ header channels ++ text = file_is invert (full f settings bytes) (record { channels = channels; preskip = 120; gain = pos 0 }) head
              ∙ ap (λ k. header k ++ text) same in
              subst (λ l. Holds l channels count) (sym file) (file_holds channels count text w.channels_are (given invert));
        }

  pub kept : IsKept f settings bytes
  unfolding fault_of
  kept = by (outcome bytes) refl where
    by : (o : Outcome) → outcome bytes ≡ o → IsKept f settings bytes
    by (Unfinished true) e = let h : fault_by (Unfinished true) (length bytes) ≡ None = sym (ap (λ o. fault_by o (length bytes)) e) ∙ none in let x : ⊥ = cc in absurd x
    by (Unfinished false) e = let h : fault_by (Unfinished false) (length bytes) ≡ None = sym (ap (λ o. fault_by o (length bytes)) e) ∙ none in let x : ⊥ = cc in absurd x
    by (Faulty fault) e = let h : fault_by (Faulty fault) (length bytes) ≡ None = sym (ap (λ o. fault_by o (length bytes)) e) ∙ none in let x : ⊥ = cc in absurd x
    by (Started channels rate size place) e = is_kept channels rate size place (is_whole_at bytes channels rate size place e none)
