-- What a WAV file is encoded into, by a function of a window: an Ogg stream of its samples.
use Rattle.std.specs.Prelude.{◌≡◌, ◌≤◌, ◌⊎◌, ℕ, ℤ, ◌*◌, ◌/◌, Bool, true, false, List, [], length, Option, Some, is_none}
use Rattle.std.specs.List.{flat_map}
use Rattle.celt_base.specs.declared.status.Fault.{Fault}
use Rattle.ogg_pages.specs.Fields.{Page}
use Rattle.ogg_pages.specs.Spelling.{spelling}
use Rattle.wav_edge.specs.Reading.{Outcome, outcome, samples, fault_at_end}
use Rattle.wav_edge.specs.Reading.Outcome.{Unfinished, Faulty, Started}
use Rattle.celt_session.specs.declared.settings.Settings.{Settings}
use Rattle.celt_session.specs.Encoding.{coding_of, toc_of}
use Rattle.celt_session.specs.Frames.{kind_of, duration}
use Rattle.celt_session.specs.FrameFunctions.{FrameFunction, Row, frame_at}
use Rattle.celt_session.specs.Windows.{window_of}
use Rattle.celt_session.specs.AudioPages.{Coded, ended_pages, settled_pages, with_headers}
use Rattle.celt_session.specs.Outcomes.{Meaning, is_early_end}

-- What a stream is encoded with: frames of 2 to 1275 bytes and of one of four sizes, a bandwidth, and packets of so many frames that
-- they last at most 120 ms.
pub record AreSettings (settings : Settings) : Type 0 where
  pub least : 2 ≤ settings.bytes
  pub most : settings.bytes ≤ 1275
  pub frame : (settings.frame ≡ 120) ⊎ (settings.frame ≡ 240) ⊎ (settings.frame ≡ 480) ⊎ (settings.frame ≡ 960)
  pub band : settings.band ≤ 3
  pub some : 1 ≤ settings.group
  pub short : settings.group * settings.frame ≤ 5760

-- What is encoded: the first byte of packets of one frame, how many frames a packet has at most, the bytes of each frame by its number,
-- and the samples, channels interleaved.
pub record Audio : Type 0 where
  pub toc : ℕ
  pub group : ℕ
  pub bytes : ℕ → ℕ
  pub samples : List ℤ

abbrev pub row_of : (f : FrameFunction) → Audio → Row f
row_of f a = record {
  kind = kind_of a.toc;
  from = f.start;
  window = window_of (kind_of a.toc).channels (duration (kind_of a.toc)) a.samples;
  bytes = a.bytes;
}

abbrev pub coded : (f : FrameFunction) → Audio → Coded
coded f a = record { toc = a.toc; group = a.group; frame = frame_at f (row_of f a) }

-- how many samples per channel they are
abbrev pub sample_count : Audio → ℕ
sample_count a = length a.samples / (kind_of a.toc).channels

-- The samples of a file's bytes. Each frame has the length that is asked for, and no sample that is there is changed by a later byte.
abbrev pub audio_of : Settings → ℕ → List ℕ → Audio
audio_of settings channels bytes = record {
  toc = toc_of (coding_of settings) channels;
  group = settings.group;
  bytes = λ t. settings.bytes;
  samples = samples bytes;
}

-- the earliest fault of a file
abbrev pub fault_by : Outcome → ℕ → Option Fault
fault_by (Unfinished between) len = fault_at_end (Unfinished between) len
fault_by (Faulty fault) len = Some fault
fault_by (Started channels rate size place) len = fault_at_end (Started channels rate size place) len

unfoldable pub fault_of : List ℕ → Option Fault
fault_of bytes = fault_by (outcome bytes) (length bytes)

-- The pages of samples that end here, and those of samples that may go on.
abbrev pub audio_pages : (f : FrameFunction) → Audio → Bool → List Page
audio_pages f a true = ended_pages (coded f a) (sample_count a)
audio_pages f a false = settled_pages (coded f a) (sample_count a)

-- the pages of a file; none before its samples begin
abbrev pub pages_by : (f : FrameFunction) → Settings → Outcome → List ℕ → Bool → List Page
pages_by f settings (Unfinished between) bytes ends = []
pages_by f settings (Faulty fault) bytes ends = []
pages_by f settings (Started channels rate size place) bytes ends =
    let a = audio_of settings channels bytes in with_headers (coded f a) (audio_pages f a ends)

-- The stream of a file's bytes; where they have a fault, without an end. And what of it no later byte changes.
unfoldable pub full : (f : FrameFunction) → Settings → List ℕ → List ℕ
full f settings bytes = flat_map spelling (pages_by f settings (outcome bytes) bytes (is_none (fault_of bytes)))

unfoldable pub running : (f : FrameFunction) → Settings → List ℕ → List ℕ
running f settings bytes = flat_map spelling (pages_by f settings (outcome bytes) bytes false)

abbrev pub encoding_by : (f : FrameFunction) → Settings → Meaning
encoding_by f settings = record { full = full f settings; running = running f settings; fault_of = fault_of; is_end = is_early_end }
