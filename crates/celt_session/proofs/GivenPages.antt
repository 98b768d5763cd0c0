-- The pages that a session gives, by what its maker has made.
use Rattle.std.proofs.Common.{◌≡◌, ℕ, ℤ, ◌+◌, ◌-◌, ◌*◌, ◌/◌, ◌≤◌, ◌<◌, ◌⊎◌, true, false, List, [], ◌∷◌, ◌++◌, length, drop, Option, sym, ◌∙◌, ap, subst, arith, append_assoc, append-nil}
use Rattle.std.specs.List.{flat_map}
use Rattle.std.proofs.Math.Nat.{mul_assoc, mul-add, add-mul, one-mul, div-div-eq-div-mul, div-eq_of_lt-le, div-mul-le_self, mul_comm}
use Rattle.std.proofs.Math.Seq.{drop-append_seam}
use Rattle.std.proofs.lemmas.Nat.{mul-le, le-div, div-mul-add}
use Rattle.std.proofs.lemmas.List.Concat.{flat_map-append}
use Rattle.ogg_pages.specs.Fields.{Page}
use Rattle.ogg_pages.specs.Spelling.{spelling}
use Rattle.celt_base.specs.declared.kind.Kind.{Kind}
use Rattle.wav_edge.specs.Reading.{outcome, samples}
use Rattle.wav_edge.specs.Reading.Outcome.{Started}
use Rattle.wav_edge.specs.Samples.{samples_of}
use Rattle.celt_session.specs.declared.plan.Plan.{Plan}
use Rattle.celt_session.specs.declared.maker.Maker.{Maker}
use Rattle.celt_session.specs.declared.settings.Settings.{Settings}
use Rattle.celt_session.specs.Frames.{kind_of, duration}
use Rattle.celt_session.specs.Encoding.{head_page, tags_page, coding_of, toc_of}
use Rattle.celt_session.specs.FrameFunctions.{FrameFunction, frame_at}
use Rattle.celt_session.specs.Windows.{lead, window_of}
use Rattle.celt_session.specs.AudioPages.{Coded, kind_in, packets_from, page_of, ended_pages, settled_pages, with_headers}
use Rattle.celt_session.specs.Encodings.{Audio, coded, sample_count, audio_of, pages_by}
use Rattle.celt_session.specs.FrameWorks.{FrameWorks}
use Rattle.celt_session.specs.Packers.{coded_by, pages_text}
use Rattle.celt_session.specs.Makers.{group_bytes, plan_frame, HasMade, GoesOn, settled_for, frames_for, last_for}
use Rattle.celt_session.specs.FrameSessions.{given_packets, given_by, given, given_more}
use Rattle.celt_session.proofs.Sampling.{samples-len}
use Rattle.celt_session.proofs.PacketLemmas.{text_from}
use Rattle.celt_session.proofs.WindowLemmas.{held-len}
use Rattle.celt_session.proofs.MakerLemmas.{plan_sizes}
use Rattle.celt_session.proofs.Planned.{toc_is, kind_channels}

-- ---- how many frames were made

-- so many samples per channel, by their bytes
module _ (channels frame count batches : ℕ) (some : 1 ≤ channels) (more : 1 ≤ frame) where
  abbrev size : ℕ
  size = 2 * channels * (16 * frame)

  size_is : (k : ℕ) → k * size ≡ group_bytes channels (16 * k * frame)
  size_is k =
      let a = mul_assoc k (2 * channels) (16 * frame) in
      let b = mul_assoc 2 channels (16 * k * frame) in
      let c = ap (λ n. n * (16 * frame)) (mul_comm k (2 * channels)) in
      let d = mul_assoc (2 * channels) k (16 * frame) in
      let e : k * (16 * frame) ≡ 16 * k * frame = sym (mul_assoc k 16 frame) ∙ ap (λ n. n * frame) (mul_comm k 16) in
      sym a ∙ c ∙ d ∙ ap (λ n. 2 * channels * n) e ∙ b

  whole : count / 2 / channels / (16 * frame) ≡ count / size
  whole = ap (λ n. n / (16 * frame)) (div-div-eq-div-mul count 2 channels) ∙ div-div-eq-div-mul count (2 * channels) (16 * frame)

  positive : 0 < size
  positive = let a = mul-le 2 16 (2 * channels) (16 * frame) (omega arith) (omega arith) in omega arith

  pub batches_are : group_bytes channels (16 * batches * frame) ≤ count → count < group_bytes channels (16 * batches * frame) + group_bytes channels (16 * frame) → count / 2 / channels / (16 * frame) ≡ batches
  batches_are low high =
      let a = size_is batches in
      let b = add-mul batches 1 size in
      let c = one-mul size in
      let d = mul_assoc 2 channels (16 * frame) in
      whole ∙ div-eq_of_lt-le size (omega arith) (omega arith)

  pub batches_within : group_bytes channels (16 * (count / 2 / channels / (16 * frame)) * frame) ≤ count
  batches_within =
      let a = size_is (count / size) in
      let b = div-mul-le_self count size in
      subst (λ n. group_bytes channels (16 * n * frame) ≤ count) (sym whole) (omega arith)

  pub batches_least : group_bytes channels (16 * batches * frame) ≤ count → batches ≤ count / 2 / channels / (16 * frame)
  batches_least low =
      let a = size_is batches in
      let b = le-div batches count size positive (omega arith) in
      subst (λ n. batches ≤ n) (sym whole) b

-- ---- what a plan stands for

-- the pages of the headers
abbrev pub headers_for : ℕ → List ℕ
headers_for channels = spelling (head_page channels) ++ spelling tags_page

-- the packets that are full of the frames that are made 16 at a time of these bytes of samples
abbrev pub packets_for : Plan → List ℕ → ℕ
packets_for plan heard = 16 * (length heard / 2 / plan.kind.channels / (16 * plan.samples)) / plan.group

-- these are its channels, its settings and the bytes of its samples
pub record IsPlanOf (plan : Plan) (settings : Settings) (channels : ℕ) (heard bytes : List ℕ) : Type 0 where
  pub toc : plan.toc ≡ toc_of (coding_of settings) channels
  pub bytes_are : plan.bytes ≡ settings.bytes
  pub group : plan.group ≡ settings.group
  pub channels_are : (channels ≡ 1) ⊎ (channels ≡ 2)
  pub samples_are : samples bytes ≡ samples_of heard

module _ (f : FrameFunction) (plan : Plan) (settings : Settings) (channels : ℕ) (heard bytes : List ℕ) (h : IsPlanOf plan settings channels heard bytes) where
  abbrev audio_by : ℕ → ℕ → ℕ → List ℤ → Audio
  audio_by toc group len x = record { toc = toc; group = group; bytes = λ t. len; samples = x }

  -- as the plan has it
  pub audio_is : audio_by plan.toc plan.group plan.bytes (samples_of heard) ≡ audio_of settings channels bytes
  audio_is =
      ap (λ t. audio_by t plan.group plan.bytes (samples_of heard)) h.toc ∙ ap (λ g. audio_by (toc_of (coding_of settings) channels) g plan.bytes (samples_of heard)) h.group
      ∙ ap (λ b. audio_by (toc_of (coding_of settings) channels) settings.group b (samples_of heard)) h.bytes_are
      ∙ ap (λ x. audio_by (toc_of (coding_of settings) channels) settings.group settings.bytes x) (sym h.samples_are)

  abbrev frame_by : Kind → ℕ → ℕ → List ℕ
  frame_by kind n = frame_at f (record { kind = kind; from = f.start; window = window_of kind.channels n (samples_of heard); bytes = λ t. plan.bytes })

  frames_are : plan_frame f plan heard ≡ frame_by (kind_of plan.toc) (duration (kind_of plan.toc))
  frames_are = ap (frame_by plan.kind) (plan.samples_is ∙ ap duration plan.kind_is) ∙ ap (λ k. frame_by k (duration (kind_of plan.toc))) plan.kind_is

  pub coded_is : coded_by plan (plan_frame f plan heard) ≡ coded f (audio_of settings channels bytes)
  coded_is =
      ap (λ (frame : ℕ → List ℕ). coded_by plan frame) frames_are ∙ ap (coded f) audio_is

  pub headers_are : (c : Coded) (pages : List Page) → (kind_in c).channels ≡ channels → flat_map spelling (with_headers c pages) ≡ headers_for channels ++ flat_map spelling pages
  headers_are c pages e =
      ap (λ n. spelling (head_page n) ++ (spelling tags_page ++ flat_map spelling pages)) e ∙ sym (append_assoc (spelling (head_page channels)) (spelling tags_page) (flat_map spelling pages))

  pub kind_channels_are : (kind_of (toc_of (coding_of settings) channels)).channels ≡ channels
  kind_channels_are = kind_channels (toc_of (coding_of settings) channels) ∙ (toc_is settings channels h.channels_are).channels_are

  packets_are : given_packets (coded f (audio_of settings channels bytes)) (sample_count (audio_of settings channels bytes)) ≡ packets_for plan heard
  packets_are =
      let by : Audio → ℕ = λ a. given_packets (coded f a) (sample_count a) in
      let count : Kind → ℕ → ℕ → ℕ = λ k n len. 16 * (len / k.channels / (16 * n)) / plan.group in
      ap by (sym audio_is) ∙ ap (λ k. count k (duration (kind_of plan.toc)) (length (samples_of heard))) (sym plan.kind_is)
      ∙ ap (λ n. count plan.kind n (length (samples_of heard))) (sym (plan.samples_is ∙ ap duration plan.kind_is)) ∙ ap (count plan.kind plan.samples) (samples-len heard)

  -- how many samples per channel they are
  pub count_is : sample_count (audio_of settings channels bytes) ≡ length heard / 2 / plan.kind.channels
  count_is =
      let by : Kind → ℕ → ℕ = λ k n. n / k.channels in
      ap sample_count (sym audio_is) ∙ ap (λ k. by k (length (samples_of heard))) (sym plan.kind_is) ∙ ap (by plan.kind) (samples-len heard)

  pub given_text : (declared : Option ℕ) (place : ℕ) → outcome bytes ≡ Started channels 48000 declared place → given f settings bytes ≡ headers_for channels ++ pages_text plan (plan_frame f plan heard) 0 (packets_for plan heard)
  unfolding given
  given_text declared place begun =
      let a = audio_of settings channels bytes in
      ap (λ o. given_by f settings o bytes) begun
      ∙ headers_are (coded f a) (packets_from (coded f a) 0 (given_packets (coded f a) (sample_count a))) kind_channels_are
      ∙ ap (λ n. headers_for channels ++ flat_map spelling (packets_from (coded f a) 0 n)) packets_are
      ∙ ap (λ c. headers_for channels ++ flat_map spelling (packets_from c 0 (packets_for plan heard))) (sym coded_is)

  -- all that is given begins each list that has the headers and as many packets
  pub given_begins : (declared : Option ℕ) (place : ℕ) → outcome bytes ≡ Started channels 48000 declared place → (all text : List ℕ) (packets : ℕ)
      → all ≡ headers_for channels ++ (pages_text plan (plan_frame f plan heard) 0 packets ++ text) → packets_for plan heard ≤ packets
      → all ≡ given f settings bytes ++ (pages_text plan (plan_frame f plan heard) (packets_for plan heard) (packets - packets_for plan heard) ++ text)
  given_begins declared place begun all text packets e ahead =
      let frame = plan_frame f plan heard in
      let p = packets_for plan heard in
      let rest = pages_text plan frame p (packets - p) ++ text in
      e ∙ ap (λ l. headers_for channels ++ (l ++ text)) (text_from plan frame p packets ahead)
      ∙ ap (λ l. headers_for channels ++ l) (append_assoc (pages_text plan frame 0 p) (pages_text plan frame p (packets - p)) text)
      ∙ sym (append_assoc (headers_for channels) (pages_text plan frame 0 p) rest) ∙ ap (λ l. l ++ rest) (sym (given_text declared place begun))

  -- ---- the pages of a file that ends, and of one that may go on

  frame_size : plan.samples ≡ duration (kind_of plan.toc)
  frame_size = plan.samples_is ∙ ap duration plan.kind_is

  abbrev ended_by : ℕ → ℕ → List Page
  ended_by n samples =
      let c = coded_by plan (plan_frame f plan heard) in
      let count = (120 + n + samples - 1) / samples in
      packets_from c 0 ((count - 1) / plan.group) ++ page_of c 4 (120 + n) ((count - 1) / plan.group) (count - (count - 1) / plan.group * plan.group) ∷ []

  ended_text : flat_map spelling (ended_pages (coded f (audio_of settings channels bytes)) (sample_count (audio_of settings channels bytes)))
      ≡ pages_text plan (plan_frame f plan heard) 0 ((frames_for plan heard - 1) / plan.group) ++ spelling (last_for (plan_frame f plan heard) plan heard)
  ended_text =
      let frame = plan_frame f plan heard in
      let packets = (frames_for plan heard - 1) / plan.group in
      ap (λ c. flat_map spelling (ended_pages c (sample_count (audio_of settings channels bytes)))) (sym coded_is)
      ∙ ap (λ n. flat_map spelling (ended_pages (coded_by plan frame) n)) count_is
      ∙ ap (λ n. flat_map spelling (ended_by (length heard / 2 / plan.kind.channels) n)) (sym frame_size)
      ∙ flat_map-append spelling (packets_from (coded_by plan frame) 0 packets) (last_for frame plan heard ∷ [])
      ∙ ap (λ l. pages_text plan frame 0 packets ++ l) (append-nil (spelling (last_for frame plan heard)))

  settled_text : flat_map spelling (settled_pages (coded f (audio_of settings channels bytes)) (sample_count (audio_of settings channels bytes)))
      ≡ pages_text plan (plan_frame f plan heard) 0 (settled_for plan heard)
  settled_text =
      let frame = plan_frame f plan heard in
      ap (λ c. flat_map spelling (settled_pages c (sample_count (audio_of settings channels bytes)))) (sym coded_is)
      ∙ ap (λ n. flat_map spelling (settled_pages (coded_by plan frame) n)) count_is
      ∙ ap (λ n. pages_text plan frame 0 (length heard / 2 / plan.kind.channels / (plan.group * n))) (sym frame_size)

  with_first : (pages : List Page) → flat_map spelling (with_headers (coded f (audio_of settings channels bytes)) pages) ≡ headers_for channels ++ flat_map spelling pages
  with_first pages = headers_are (coded f (audio_of settings channels bytes)) pages kind_channels_are

  -- with the headers
  pub all_ended : (declared : Option ℕ) (place : ℕ) → flat_map spelling (pages_by f settings (Started channels 48000 declared place) bytes true)
      ≡ headers_for channels ++ (pages_text plan (plan_frame f plan heard) 0 ((frames_for plan heard - 1) / plan.group) ++ spelling (last_for (plan_frame f plan heard) plan heard))
  all_ended declared place =
      let a = audio_of settings channels bytes in
      with_first (ended_pages (coded f a) (sample_count a)) ∙ ap (λ l. headers_for channels ++ l) ended_text

  pub all_settled : (declared : Option ℕ) (place : ℕ) → flat_map spelling (pages_by f settings (Started channels 48000 declared place) bytes false)
      ≡ headers_for channels ++ pages_text plan (plan_frame f plan heard) 0 (settled_for plan heard)
  all_settled declared place =
      let a = audio_of settings channels bytes in
      with_first (settled_pages (coded f a) (sample_count a)) ∙ ap (λ l. headers_for channels ++ l) settled_text

-- ---- what was made

module _ {W : Type 0} (w : FrameWorks W) (plan : Plan) (heard : List ℕ) where
  -- all windows of 16 frames were taken, and all full packets were written
  pub packets_made : (batches : ℕ) (m : Maker W) → HasMade w plan heard (16 * batches) m → GoesOn plan m → packets_for plan heard ≡ m.packer.packets
  packets_made batches m h going =
      let sizes = plan_sizes plan in
      let least = sizes.0 in
      let all = held-len plan.kind.channels plan.samples (16 * batches) heard m.framer.held.items h.held h.within in
      let held : length m.framer.held.items < 2 * (plan.kind.channels * (lead + 16 * plan.samples)) = subst (λ n. length m.framer.held.items < 2 * (plan.kind.channels * (lead + 16 * n))) (sym plan.samples_is) going.held in
      let split = mul-add plan.kind.channels lead (16 * plan.samples) in
      let are = batches_are plan.kind.channels plan.samples (length heard) batches plan.kind.some_channel (omega arith) h.within (omega arith) in
      ap (λ n. 16 * n / plan.group) are ∙ ap (λ n. n / plan.group) (sym h.packs.place) ∙ div-mul-add m.packer.packets plan.group m.packer.count going.less

pub least_packets : (plan : Plan) (heard : List ℕ) (batches until : ℕ) → group_bytes plan.kind.channels (16 * batches * plan.samples) ≤ length heard → until * plan.group ≤ 16 * batches → until ≤ packets_for plan heard
least_packets plan heard batches until within some =
    let sizes = plan_sizes plan in
    let least = sizes.0 in
    let b = batches_least plan.kind.channels plan.samples (length heard) batches plan.kind.some_channel (omega arith) within in
    let positive : 0 < plan.group = let s = plan.some in omega arith in
    le-div until (16 * (length heard / 2 / plan.kind.channels / (16 * plan.samples))) plan.group positive (omega arith)

pub packets_least : {W : Type 0} (w : FrameWorks W) (plan : Plan) (heard : List ℕ) (batches until : ℕ) → group_bytes plan.kind.channels (16 * batches * plan.samples) ≤ length heard → until * plan.group ≤ 16 * batches
    → until ≤ packets_for plan heard
packets_least w plan heard = least_packets plan heard

-- the frames that are made of some bytes are there
pub frames_within : (plan : Plan) (heard : List ℕ) → group_bytes plan.kind.channels (16 * (length heard / 2 / plan.kind.channels / (16 * plan.samples)) * plan.samples) ≤ length heard
frames_within plan heard =
    let sizes = plan_sizes plan in
    let least = sizes.0 in
    batches_within plan.kind.channels plan.samples (length heard) 0 plan.kind.some_channel (omega arith)

-- ---- what more bytes give

-- what was given of a front of some bytes, and behind it
pub more_is : (f : FrameFunction) (settings : Settings) (bytes now added : List ℕ) → given f settings now ≡ given f settings bytes ++ added → given_more f settings bytes now ≡ added
unfolding given_more
more_is f settings bytes now added e = ap (drop (length (given f settings bytes))) e ∙ drop-append_seam (given f settings bytes) added
