-- What a session that encodes stands for, and what its calls add to the output.
use Rattle.std.specs.Prelude.{◌≡◌, ℕ, ◌+◌, ◌-◌, ◌*◌, ◌/◌, ◌≤◌, ◌⊎◌, Bool, false, List, [], length, drop, Option, None, Some, option_map, if◌then◌else◌, ◌%◌, ◌==◌}
use Rattle.std.specs.List.{flat_map}
use Rattle.std.specs.Io.KnownBytes.{Appends}
use Rattle.celt_base.specs.declared.status.Fault.{Fault}
use Rattle.celt_base.specs.declared.status.Status.{Status}
use Rattle.celt_base.specs.declared.status.Status.TheVariants as statuses
use Rattle.celt_base.specs.Outside.{AppendsFront, Rose}
use Rattle.ogg_pages.specs.Fields.{Page}
use Rattle.ogg_pages.specs.Spelling.{spelling}
use Rattle.wav_edge.specs.Reading.{Outcome, outcome, within_size}
use Rattle.wav_edge.specs.Reading.Outcome.{Unfinished, Faulty, Started}
use Rattle.wav_edge.specs.Readers.{StandsFor as ReadsTo, bytes_fed, has_started, fault_of as header_fault}
use Rattle.celt_session.specs.declared.settings.Settings.{Settings}
use Rattle.celt_session.specs.declared.fed.Fed.{Fed}
use Rattle.celt_session.specs.declared.fed.Fed.TheVariants.{More, Fault as Stopped, WriteFault}
use Rattle.celt_session.specs.declared.ended.Ended.{Ended}
use Rattle.celt_session.specs.declared.ended.Ended.TheVariants.{Done, Fault as CutShort, WriteFault as NotWritten}
use Rattle.celt_session.specs.declared.maker.Maker.{Maker}
use Rattle.celt_session.specs.declared.recording.Recording.{Recording}
use Rattle.celt_session.specs.declared.frame_session.FrameSession.{FrameSession}
use Rattle.celt_session.specs.Frames.{kind_of, duration}
use Rattle.celt_session.specs.Encoding.{coding_of, toc_of}
use Rattle.celt_session.specs.FrameFunctions.{FrameFunction}
use Rattle.celt_session.specs.AudioPages.{Coded, kind_in, packets_from, with_headers}
use Rattle.celt_session.specs.Encodings.{Audio, coded, sample_count, audio_of, fault_of, full, running}
use Rattle.celt_session.specs.FrameWorks.{FrameWorks}
use Rattle.celt_session.specs.Framers.{HasFramerRooms}
use Rattle.celt_session.specs.Packers.{HasRooms}
use Rattle.celt_session.specs.Makers.{HasMade, IsMaker, GoesOn}
use Rattle.celt_session.specs.Outcomes.{is_early_end}

-- ---- WHAT WAS GIVEN BEFORE THE END IS KNOWN

-- Frames are made 16 at a time, of the samples that are there; the packets that they fill are given.
abbrev pub given_packets : Coded → ℕ → ℕ
given_packets c n = 16 * (n / (16 * duration (kind_in c))) / c.group

abbrev pub given_pages : (f : FrameFunction) → Audio → List Page
given_pages f a = with_headers (coded f a) (packets_from (coded f a) 0 (given_packets (coded f a) (sample_count a)))

abbrev pub given_by : (f : FrameFunction) → Settings → Outcome → List ℕ → List ℕ
given_by f settings (Unfinished between) bytes = []
given_by f settings (Faulty fault) bytes = []
given_by f settings (Started channels rate size place) bytes = flat_map spelling (given_pages f (audio_of settings channels bytes))

unfoldable pub given : (f : FrameFunction) → Settings → List ℕ → List ℕ
given f settings bytes = given_by f settings (outcome bytes) bytes

-- what a list of bytes gives behind what one of its fronts gives
unfoldable pub given_more : (f : FrameFunction) → Settings → List ℕ → List ℕ → List ℕ
given_more f settings bytes now = drop (length (given f settings bytes)) (given f settings now)

-- the earliest fault, where more bytes do not mend it
abbrev pub lasting : Option Fault → Option Fault
lasting None = None
lasting (Some fault) = if is_early_end fault.name then None else Some fault

abbrev pub fault_now : List ℕ → Option Fault
fault_now bytes = lasting (fault_of bytes)

-- ---- THE SESSION

-- how many bytes of samples are still to come
abbrev pub left_of : Option ℕ → ℕ → Option ℕ
left_of size count = option_map (λ n. n - count) size

-- before the samples of these bytes
pub record BeforeSamples {W : Type 0} (w : FrameWorks W) (s : FrameSession W) (bytes : List ℕ) : Type 0 where
  pub reads : ReadsTo s.header bytes
  pub between : Bool
  pub unfinished : outcome bytes ≡ Unfinished between
  pub shows : w.Shows s.maker.work w.function.start

-- among the samples of these bytes
pub record AmongSamples {W : Type 0} (w : FrameWorks W) (settings : Settings) (r : Recording) (m : Maker W) (fed : ℕ) (bytes : List ℕ) : Type 0 where
  pub count : fed ≡ length bytes
  pub channels : ℕ
  pub size : Option ℕ
  pub place : ℕ
  pub begun : outcome bytes ≡ Started channels 48000 size place
  pub toc : r.plan.toc ≡ toc_of (coding_of settings) channels
  pub bytes_are : r.plan.bytes ≡ settings.bytes
  pub group : r.plan.group ≡ settings.group
  pub left : r.left ≡ left_of size (length bytes - place)
  pub batches : ℕ
  pub made : HasMade w r.plan (within_size size (drop place bytes)) (16 * batches) m

abbrev pub StandsBy : {W : Type 0} (w : FrameWorks W) → FrameSession W → List ℕ → Option Recording → Type 0
StandsBy w s bytes None = BeforeSamples w s bytes
StandsBy w s bytes (Some r) = AmongSamples w s.settings r s.maker s.fed bytes

-- it was fed these bytes
abbrev pub StandsFor : {W : Type 0} (w : FrameWorks W) → FrameSession W → List ℕ → Type 0
StandsFor w s bytes = StandsBy w s bytes s.recording

-- what holds of a session that goes on, whatever it was fed: before the samples nothing was made
pub record IsNew {W : Type 0} (w : FrameWorks W) (m : Maker W) : Type 0 where
  pub framer : HasFramerRooms m.framer
  pub packer : HasRooms m.packer
  pub held : m.framer.held.items ≡ []
  pub count : m.packer.count ≡ 0
  pub packets : m.packer.packets ≡ 0

abbrev pub MakesBoth : {W : Type 0} (w : FrameWorks W) → Settings → W → Type 0
MakesBoth w settings work = (channels : ℕ) → (channels ≡ 1) ⊎ (channels ≡ 2) → w.Makes work (kind_of (toc_of (coding_of settings) channels))

pub record IsReading {W : Type 0} (w : FrameWorks W) (s : FrameSession W) : Type 0 where
  pub unread : has_started s.header ≡ false
  pub sound : header_fault s.header ≡ None
  pub fed : bytes_fed s.header ≡ s.fed
  pub made : IsNew w s.maker
  pub makes : MakesBoth w s.settings s.maker.work

pub record IsTaking {W : Type 0} (w : FrameWorks W) (r : Recording) (m : Maker W) (fed : ℕ) : Type 0 where
  pub maker : IsMaker w r.plan m
  pub going : GoesOn r.plan m
  pub sum : m.packer.packets + m.packer.count + length m.framer.held.items ≤ fed + 4580

-- the samples have begun, of so many channels and of this size
pub record IsBegun {W : Type 0} (w : FrameWorks W) (settings : Settings) (channels : ℕ) (size : Option ℕ) (before : Maker W) (r : Recording) (m : Maker W) : Type 0 where
  pub toc : r.plan.toc ≡ toc_of (coding_of settings) channels
  pub bytes_are : r.plan.bytes ≡ settings.bytes
  pub group : r.plan.group ≡ settings.group
  pub left : r.left ≡ size
  pub taking : IsTaking w r m 0
  pub packets : m.packer.packets ≡ 0
  pub made : w.Shows before.work w.function.start → HasMade w r.plan [] 0 m

abbrev pub GoesBy : {W : Type 0} (w : FrameWorks W) → FrameSession W → Option Recording → Type 0
GoesBy w s None = IsReading w s
GoesBy w s (Some r) = IsTaking w r s.maker s.fed

abbrev pub Goes : {W : Type 0} (w : FrameWorks W) → FrameSession W → Type 0
Goes w s = GoesBy w s s.recording

-- what a call of feed does
abbrev pub Adds : {W : Type 0} (w : FrameWorks W) → Settings → List ℕ → List ℕ → FrameSession W → Option (List ℕ) → Option (List ℕ) → Fed → Type 0
Adds w settings bytes now s old new More = StandsFor w s now × (fault_now now ≡ None) × Appends old new (given_more w.function settings bytes now)
Adds w settings bytes now s old new (Stopped fault) = (fault_now now ≡ Some fault) × Appends old new (given_more w.function settings bytes now)
Adds w settings bytes now s old new WriteFault = AppendsFront old new (given_more w.function settings bytes now)

-- ---- THE END

-- what all of the bytes give, and what no later byte changes, behind what was given of them
unfoldable pub full_more : (f : FrameFunction) → Settings → List ℕ → List ℕ
full_more f settings bytes = drop (length (given f settings bytes)) (full f settings bytes)

unfoldable pub running_more : (f : FrameFunction) → Settings → List ℕ → List ℕ
running_more f settings bytes = drop (length (given f settings bytes)) (running f settings bytes)

-- what a call of end does
abbrev pub Ends : (f : FrameFunction) → Settings → List ℕ → Option (List ℕ) → Option (List ℕ) → Ended → Type 0
Ends f settings bytes old new Done = (fault_of bytes ≡ None) × Appends old new (full_more f settings bytes)
Ends f settings bytes old new (CutShort fault) = (fault_of bytes ≡ Some fault) × Appends old new (full_more f settings bytes)
Ends f settings bytes old new NotWritten = AppendsFront old new (full_more f settings bytes)

-- a write fault comes only where the count rose, which never falls
abbrev pub HasEndedCause : ℕ → ℕ → Ended → Type 0
HasEndedCause before now Done = before ≤ now
HasEndedCause before now (CutShort fault) = before ≤ now
HasEndedCause before now NotWritten = Rose before now

-- whether all samples came: none is left of the size that was declared, or the bytes that are held end with a whole group
abbrev pub is_complete : Option ℕ → ℕ → ℕ → Bool
is_complete None channels held = held % (2 * channels) == 0
is_complete (Some left) channels held = left == 0

-- the status of an input that ends within the limit
abbrev pub status_of : Ended → Status
status_of Done = statuses.Done
status_of (CutShort fault) = statuses.Refused fault
status_of NotWritten = statuses.WriteFault
