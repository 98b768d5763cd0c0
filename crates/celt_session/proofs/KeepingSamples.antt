-- How many samples a stream is decoded into: those of the spans of its pages, whatever its frames hold.
use Rattle.std.proofs.Common.{◌≡◌, ℕ, ℤ, suc, ◌+◌, ◌-◌, ◌*◌, ◌≤◌, ◌⊎◌, inl, inr, Bool, true, false, List, [], ◌∷◌, ◌++◌, length, take, drop, map, refl, sym, ◌∙◌, ap, subst, arith, append_assoc, length-append, length-drop, Option, Some, None}
use Rattle.std.specs.Prelude.{◌==◌, nat_lt, if◌then◌else◌, slice_index, sum_by}
use Rattle.std.specs.Int.{w16, to_le_bytes, cast_unsigned}
use Rattle.std.specs.List.{All, slice_range}
use Rattle.std.proofs.Math.Nat.{mul-add, suc-mul}
use Rattle.std.proofs.lemmas.List.{take_at, length-take-le}
use Rattle.std.proofs.lemmas.List.Sums.{sum_by-cons, sum_by-append}
use Rattle.std.proofs.lemmas.List.Elements.{All-head, All-tail}
use Rattle.celt_base.specs.declared.kind.Kind.{Kind}
use Rattle.celt_base.specs.Kinds.{config_of_toc}
use Rattle.fixed_math.proofs.ItemLemmas.{length-listed}
use Rattle.opus_packets.specs.declared.header.Head.{Head}
use Rattle.opus_packets.specs.Cut.{frames_of}
use Rattle.opus_packets.specs.Packet.{config_of}
use Rattle.ogg_pages.specs.Fields.{Page}
use Rattle.opus_stream.specs.Audio.{IsPlayable, packet_samples, cut_samples, samples_in}
use Rattle.opus_stream.specs.Acceptance.{accepted, head_in, last_packets, last_span, given_pages}
use Rattle.opus_stream.specs.Spans.{span_len, spans_after, written_in}
use Rattle.opus_stream.proofs.Joining.{length-parts}
use Rattle.opus_stream.proofs.Telling.{told_given}
use Rattle.wav_edge.specs.Samples.{bytes_of}
use Rattle.wav_edge.specs.Spellings.{header}
use Rattle.celt_synth.specs.Blocks.{blocks_of}
use Rattle.celt_synth.specs.Readings.{frame_step, heard_of, shaped_of}
use Rattle.celt_synth.specs.Signals.{mono_samples, stereo_samples}
use Rattle.celt_synth.specs.States.{State}
use Rattle.celt_synth.specs.Steps.{Made, made_of, made_concealed, samples_of as frame_samples, step, conceal}
use Rattle.frame_symbols.specs.Readings.{reading_of, range_of}
use Rattle.celt_session.specs.Choices.{either_function}
use Rattle.celt_session.specs.Decoding.{decoding, samples, lines, playing}
use Rattle.celt_session.specs.Frames.{Frame, framed, kind_of, duration, durations, packet_frames, page_frames}
use Rattle.celt_session.specs.Keeping.{into_samples, into_file}
use Rattle.celt_session.specs.PageFunctions.{PageFunction, says_of, said, running, full}
use Rattle.celt_session.specs.Pages.{Heard, heard_at, heard_after}
use Rattle.celt_session.specs.Players.{Players, players_step, player}
use Rattle.celt_session.specs.Playing.{decoder_step}
use Rattle.celt_session.specs.Samples.{Target, FrameStep, Playing, samples_of, channels_in, target_of, written}
use Rattle.celt_session.proofs.Framing.{frames-is}
use Rattle.celt_session.proofs.PacketLemmas.{duration_is}

-- ---- the samples of frames

step_len : (stream : ℕ) (kind : Kind) (gain : ℤ) (made : Made) (s : State) → (stream ≡ 1) ⊎ (stream ≡ 2) → length (frame_samples stream kind gain made s) ≡ stream * duration kind
unfolding frame_samples mono_samples stereo_samples
step_len stream kind gain made s (inl e) =
    let one : length (frame_samples 1 kind gain made s) ≡ 120 * blocks_of kind = length-listed (120 * blocks_of kind) _ in
    subst (λ n. length (frame_samples n kind gain made s) ≡ n * duration kind) (sym e) (omega arith)
step_len stream kind gain made s (inr e) =
    let two : length (frame_samples 2 kind gain made s) ≡ 2 * (120 * blocks_of kind) = length-listed (2 * (120 * blocks_of kind)) _ in
    subst (λ n. length (frame_samples n kind gain made s) ≡ n * duration kind) (sym e) (omega arith)

frame_len : (stream : ℕ) (invert : Bool) (kind : Kind) (frame : List ℕ) (gain : ℤ) (s : State) → (stream ≡ 1) ⊎ (stream ≡ 2) → length (frame_step stream invert kind frame gain s).samples ≡ stream * duration kind
unfolding frame_step step conceal
frame_len stream invert kind frame gain s h = by (nat_lt (length frame) 2) where
  by : (b : Bool) → length (if b then conceal stream kind gain s else step stream kind (heard_of kind (range_of kind frame) (reading_of kind frame).value) (shaped_of kind (reading_of kind frame).value invert) gain s).samples ≡ stream * duration kind
  by true = step_len stream kind gain (made_concealed kind s) s h
  by false = step_len stream kind gain (made_of kind (heard_of kind (range_of kind frame) (reading_of kind frame).value) (shaped_of kind (reading_of kind frame).value invert s.seed) s) s h

abbrev both : FrameStep
both = players_step decoder_step

frames_len : (p : Players decoder_step) (target : Target) (frames : List Frame) → (target.channels ≡ 1) ⊎ (target.channels ≡ 2) → length (samples_of both p target frames) ≡ target.channels * durations frames
unfolding samples_of
frames_len p target [] h = omega arith
frames_len p target (frame ∷ frames) h =
    let first = both.samples p target frame in
    let rest = samples_of both (both.after p target frame) target frames in
    let one : length first ≡ target.channels * duration frame.kind = frame_len target.channels target.invert frame.kind frame.bytes target.gain (player target.channels p) h in
    length-append first rest ∙ ap (λ n. n + length rest) one
    ∙ ap (λ n. target.channels * duration frame.kind + n) (frames_len (both.after p target frame) target frames h)
    ∙ sym (mul-add target.channels (duration frame.kind) (durations frames))
    ∙ ap (λ n. target.channels * n) (sym (sum_by-cons (λ (frame : Frame). duration frame.kind) frame frames))

-- ---- how long packets last

durations_same : (kind : Kind) (frames : List (List ℕ)) → durations (map (framed kind) frames) ≡ length frames * duration kind
durations_same kind [] = omega arith
durations_same kind (frame ∷ frames) =
    sum_by-cons (λ (frame : Frame). duration frame.kind) (framed kind frame) (map (framed kind) frames)
    ∙ ap (λ n. duration kind + n) (durations_same kind frames) ∙ one_more (length frames) (duration kind) where
      one_more : (n d : ℕ) → d + n * d ≡ suc n * d
      one_more n d = let e = suc-mul n d in omega arith

durations_packet : (packet : List ℕ) → IsPlayable packet → durations (packet_frames packet) ≡ packet_samples packet
unfolding packet_samples
durations_packet packet h =
    let toc = slice_index h.cut.packet 0 in
    let celt : 16 ≤ config_of_toc toc = subst (λ l. 16 ≤ config_of (slice_index l 0)) (sym h.packet_is) h.celt in
    ap durations (frames-is packet h.cut (sym h.cut_is)) ∙ durations_same (kind_of toc) (frames_of h.cut)
    ∙ ap (λ n. n * duration (kind_of toc)) (length-parts h.cut.lengths (drop h.cut.first h.cut.packet))
    ∙ ap (λ n. length h.cut.lengths * n) (sym (duration_is toc celt)) ∙ sym (ap cut_samples h.cut_is)

pub durations_page : (packets : List (List ℕ)) → All IsPlayable packets → durations (page_frames packets) ≡ samples_in packets
unfolding page_frames
durations_page [] all = refl
durations_page (packet ∷ packets) all =
    sum_by-append (λ (frame : Frame). duration frame.kind) (packet_frames packet) (page_frames packets)
    ∙ ap (λ n. n + durations (page_frames packets)) (durations_packet packet (All-head IsPlayable packet packets all))
    ∙ ap (λ n. packet_samples packet + n) (durations_page packets (All-tail IsPlayable packet packets all))
    ∙ sym (sum_by-cons packet_samples packet packets)

-- ---- a page

bytes_len : (xs : List ℤ) → length (bytes_of xs) ≡ 2 * length xs
unfolding bytes_of
bytes_len [] = refl
bytes_len (x ∷ xs) =
    let two : length (to_le_bytes w16 (cast_unsigned w16 x)) ≡ 2 = refl in
    let again = bytes_len xs in
    let all = length-append (to_le_bytes w16 (cast_unsigned w16 x)) (bytes_of xs) in
    omega arith

slice_len : {X : Type 0} (xs : List X) (from to : ℕ) → to ≤ length xs → length (slice_range xs from to) ≡ to - from
slice_len xs from to h = let left = length-drop from xs in length-take-le (to - from) (drop from xs) (omega arith)

written_len : (channels from to : ℕ) (xs : List ℤ) (count : ℕ) → (channels ≡ 1) ⊎ (channels ≡ 2) → length xs ≡ channels * count → to ≤ count → length (slice_range xs (channels * from) (channels * to)) ≡ channels * (to - from)
written_len channels from to xs count (inl e) len h =
    let within : channels * to ≤ length xs = subst (λ c. length xs ≡ c * count → c * to ≤ length xs) (sym e) (λ k. omega arith) len in
    slice_len xs (channels * from) (channels * to) within ∙ subst (λ c. c * to - c * from ≡ c * (to - from)) (sym e) (omega arith)
written_len channels from to xs count (inr e) len h =
    let within : channels * to ≤ length xs = subst (λ c. length xs ≡ c * count → c * to ≤ length xs) (sym e) (λ k. omega arith) len in
    slice_len xs (channels * from) (channels * to) within ∙ subst (λ c. c * to - c * from ≡ c * (to - from)) (sym e) (omega arith)

abbrev two_if : Bool → ℕ
two_if b = if b then 2 else 1

one_or_two : (head : Option Head) → (channels_in head ≡ 1) ⊎ (channels_in head ≡ 2)
one_or_two None = inl refl
one_or_two (Some head) = by (head.channels == 2) where
  by : (b : Bool) → (two_if b ≡ 1) ⊎ (two_if b ≡ 2)
  by true = inr refl
  by false = inl refl

-- the last of some pages is of so many channels, its packets may be played, and its span is within their samples
record Tells (channels : ℕ) (pages : List Page) : Type 0 where
  pub channels_are : channels_in (head_in pages) ≡ channels
  pub sound : All IsPlayable (last_packets pages)
  pub reach : (last_span pages).to ≤ samples_in (last_packets pages)

page_len : (s : Playing both) (channels : ℕ) (pages : List Page) → s.awaits_header ≡ false → Tells channels pages → length (samples.says s (heard_at pages)) ≡ 2 * (channels * span_len (last_span pages))
page_len s channels pages quiet t =
    let page = heard_at pages in
    let c = channels_in page.head in
    let frames = page_frames page.packets in
    let all = samples_of both s.decoder (target_of s page) frames in
    let two = one_or_two page.head in
    let len : length all ≡ c * samples_in page.packets = frames_len s.decoder (target_of s page) frames two ∙ ap (λ n. c * n) (durations_page page.packets t.sound) in
    ap (λ b. length ((if b then header c else []) ++ bytes_of (written c page.span all))) quiet
    ∙ bytes_len (written c page.span all)
    ∙ ap (λ n. 2 * n) (written_len c page.span.from page.span.to all (samples_in page.packets) two len t.reach ∙ ap (λ n. n * span_len page.span) t.channels_are)

-- ---- pages

pages_len : (channels : ℕ) (all front pages : List Page) (s : Playing both) → s.awaits_header ≡ false
    → ((before : List Page) (page : Page) (rest : List Page) → all ≡ before ++ page ∷ rest → Tells channels (before ++ page ∷ [])) → all ≡ front ++ pages
    → length (says_of samples s (heard_after front pages)) ≡ 2 * (channels * sum_by span_len (spans_after front pages))
unfolding says_of heard_after spans_after
pages_len channels all front [] s quiet tells is = omega arith
pages_len channels all front (page ∷ pages) s quiet tells is =
    let now = front ++ page ∷ [] in
    let first = samples.says s (heard_at now) in
    let rest = says_of samples (samples.next s (heard_at now)) (heard_after now pages) in
    let spans = spans_after now pages in
    let again : length rest ≡ 2 * (channels * sum_by span_len spans) = pages_len channels all now pages (samples.next s (heard_at now)) refl tells (is ∙ sym (append_assoc front (page ∷ []) pages)) in
    let here : length first ≡ 2 * (channels * span_len (last_span now)) = page_len s channels now quiet (tells front page pages is) in
    let joined = mul-add channels (span_len (last_span now)) (sum_by span_len spans) in
    let both_parts : length (first ++ rest) ≡ 2 * (channels * (span_len (last_span now) + sum_by span_len spans)) = length-append first rest ∙ omega (arith, again, here, joined) in
    both_parts ∙ ap (λ n. 2 * (channels * n)) (sym (sum_by-cons span_len (last_span now) spans))

head_stays : (front : List Page) (page : Page) (rest : List Page) → head_in (front ++ page ∷ []) ≡ head_in (front ++ page ∷ rest)
unfolding head_in
head_stays [] page rest = refl
head_stays (first ∷ front) page rest = refl

tells_given : (bytes : List ℕ) (front : List Page) (page : Page) (rest : List Page) → accepted bytes ≡ front ++ page ∷ rest → Tells (channels_in (head_in (accepted bytes))) (front ++ page ∷ [])
tells_given bytes front page rest is =
    let now = front ++ page ∷ [] in
    let given : given_pages bytes (length now) ≡ now = ap (take (length now)) (is ∙ sym (append_assoc front (page ∷ []) rest)) ∙ take_at now rest (length now) refl in
    let t = told_given bytes (length now) in
    record {
      channels_are = ap channels_in (head_stays front page rest ∙ ap head_in (sym is));
      sound = subst (λ l. All IsPlayable (last_packets l)) given t.last;
      reach = subst (λ l. (last_span l).to ≤ samples_in (last_packets l)) given t.reach;
    }

says-either : (f g : PageFunction) (s : f.State) (heard : List Heard) → says_of (either_function f g) (inl s) heard ≡ says_of f s heard
unfolding says_of
says-either f g s [] = refl
says-either f g s (page ∷ pages) = ap (λ l. f.says s page ++ l) (says-either f g (f.next s page) pages)

-- two bytes for each sample of the channels that are written
pub decoded_len : (invert : Bool) (bytes : List ℕ) → length ((decoding (into_samples invert)).full bytes) ≡ 2 * (channels_in (head_in (accepted bytes)) * written_in (accepted bytes))
unfolding full running said written_in
decoded_len invert bytes =
    ap length (says-either samples lines (playing false invert) (heard_after [] (accepted bytes)))
    ∙ pages_len (channels_in (head_in (accepted bytes))) (accepted bytes) [] (accepted bytes) (playing false invert) refl (tells_given bytes) refl

-- ---- a WAV file

-- behind a header, where there is a page
opened : (invert : Bool) (page : Heard) (pages : List Heard) → says_of samples (playing true invert) (page ∷ pages) ≡ header (channels_in page.head) ++ says_of samples (playing false invert) (page ∷ pages)
unfolding says_of
opened invert page pages =
    let s = playing true invert in
    let text = bytes_of (written (channels_in page.head) page.span (samples_of both s.decoder (target_of s page) (page_frames page.packets))) in
    append_assoc (header (channels_in page.head)) text (says_of samples (samples.next s page) pages)

-- the header of the first page is that of all
first_head : (page : Page) (pages : List Page) → head_in ([] ++ page ∷ []) ≡ head_in (page ∷ pages)
first_head page pages = head_stays [] page pages

opened_pages : (invert : Bool) (pages : List Page) (head : Head) → head_in pages ≡ Some head
    → says_of samples (playing true invert) (heard_after [] pages) ≡ header (channels_in (head_in pages)) ++ says_of samples (playing false invert) (heard_after [] pages)
unfolding heard_after head_in
opened_pages invert [] head h = let f : ⊥ = cc in absurd f
opened_pages invert (page ∷ pages) head h =
    opened invert (heard_at ([] ++ page ∷ [])) (heard_after ([] ++ page ∷ []) pages)
    ∙ ap (λ head. header (channels_in head) ++ says_of samples (playing false invert) (heard_at ([] ++ page ∷ []) ∷ heard_after ([] ++ page ∷ []) pages)) (first_head page pages)

pub file_is : (invert : Bool) (bytes : List ℕ) (head : Head) → head_in (accepted bytes) ≡ Some head
    → (decoding (into_file invert)).full bytes ≡ header (channels_in (head_in (accepted bytes))) ++ (decoding (into_samples invert)).full bytes
unfolding full running said
file_is invert bytes head h =
    says-either samples lines (playing true invert) (heard_after [] (accepted bytes)) ∙ opened_pages invert (accepted bytes) head h
    ∙ ap (λ l. header (channels_in (head_in (accepted bytes))) ++ l) (sym (says-either samples lines (playing false invert) (heard_after [] (accepted bytes))))
