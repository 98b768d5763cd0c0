-- What a maker of packets was given, and what it gave.
use Rattle.std.specs.Prelude.{◌≡◌, ℕ, ◌*◌, ◌≤◌, ◌<◌, List, ◌++◌, length, drop, replicate, Option, Result, Ok, Err, ◌+◌, ◌-◌, ◌/◌}
use Rattle.celt_base.specs.declared.outside.Failed.{Failed}
use Rattle.wav_edge.specs.Samples.{samples_of}
use Rattle.celt_session.specs.declared.plan.Plan.{Plan}
use Rattle.celt_session.specs.declared.maker.Maker.{Maker}
use Rattle.celt_session.specs.FrameFunctions.{FrameFunction, Row, state_before, frame_at}
use Rattle.celt_session.specs.Windows.{lead, window_of}
use Rattle.celt_session.specs.FrameWorks.{FrameWorks, batch_len}
use Rattle.celt_session.specs.Framers.{HasFramerRooms}
use Rattle.ogg_pages.specs.Fields.{Page}
use Rattle.ogg_pages.specs.Spelling.{spelling}
use Rattle.celt_session.specs.AudioPages.{page_of}
use Rattle.celt_session.specs.Packers.{HasRooms, Packs, WritesFull, WritesSome, coded_by, pages_text}

-- the bytes of so many samples per channel
abbrev pub group_bytes : ℕ → ℕ → ℕ
group_bytes channels count = 2 * (channels * count)

-- What is held of the bytes of samples: those of the lead of samples of 0, and then the input's, without those of the first frames.
abbrev pub held_of : ℕ → ℕ → ℕ → List ℕ → List ℕ
held_of channels samples done heard = drop (group_bytes channels (done * samples)) (replicate (group_bytes channels lead) 0 ++ heard)

-- the frames of the samples of these bytes
abbrev pub plan_row : (f : FrameFunction) → Plan → List ℕ → Row f
plan_row f plan heard = record { kind = plan.kind; from = f.start; window = window_of plan.kind.channels plan.samples (samples_of heard); bytes = λ t. plan.bytes }

abbrev pub plan_frame : (f : FrameFunction) → Plan → List ℕ → ℕ → List ℕ
plan_frame f plan heard = frame_at f (plan_row f plan heard)

-- It was given these bytes of samples, and made the first frames of them, which were put into packets.
pub record HasMade {W : Type 0} (w : FrameWorks W) (plan : Plan) (heard : List ℕ) (done : ℕ) (m : Maker W) : Type 0 where
  pub held : m.framer.held.items ≡ held_of plan.kind.channels plan.samples done heard
  pub within : group_bytes plan.kind.channels (done * plan.samples) ≤ length heard
  pub shows : w.Shows m.work (state_before w.function (plan_row w.function plan heard) done)
  pub packs : Packs plan (plan_frame w.function plan heard) done m.packer

-- what holds of a maker whatever it was given
pub record IsMaker {W : Type 0} (w : FrameWorks W) (plan : Plan) (m : Maker W) : Type 0 where
  pub makes : w.Makes m.work plan.kind
  pub framer : HasFramerRooms m.framer
  pub packer : HasRooms m.packer
  pub few : m.packer.count ≤ plan.group

-- more frames were made, and the pages of the packets that got full were written behind the first `packets`
pub record MakesMore {W : Type 0} (w : FrameWorks W) (plan : Plan) (heard : List ℕ) (done packets : ℕ) (now : Maker W) (old new : Option (List ℕ)) : Type 0 where
  pub made : HasMade w plan heard done now
  pub wrote : WritesFull plan (plan_frame w.function plan heard) done packets now.packer old new

abbrev pub Made : {W : Type 0} (w : FrameWorks W) → Plan → List ℕ → ℕ → ℕ → Maker W → Option (List ℕ) → Option (List ℕ) → Result (Unit {0}) Failed → Type 0
Made w plan heard done packets now old new (Ok written) = MakesMore w plan heard done packets now old new
Made w plan heard done packets now old new (Err failure) = WritesSome plan (plan_frame w.function plan heard) done packets old new

-- A front of the pages of full packets was written, whose frames are made of these bytes of samples 16 at a time.
pub record TakesSome (f : FrameFunction) (plan : Plan) (heard : List ℕ) (packets : ℕ) (old new : Option (List ℕ)) : Type 0 where
  pub batches : ℕ
  pub within : group_bytes plan.kind.channels (16 * batches * plan.samples) ≤ length heard
  pub wrote : WritesSome plan (plan_frame f plan heard) (16 * batches) packets old new

-- All of these bytes of samples were taken in, and as many frames made as there are windows of 16 at a time.
pub record TakesAll {W : Type 0} (w : FrameWorks W) (plan : Plan) (heard : List ℕ) (packets : ℕ) (now : Maker W) (old new : Option (List ℕ)) : Type 0 where
  pub batches : ℕ
  pub makes : MakesMore w plan heard (16 * batches) packets now old new

abbrev pub Taken : {W : Type 0} (w : FrameWorks W) → Plan → List ℕ → ℕ → Maker W → Option (List ℕ) → Option (List ℕ) → Result (Unit {0}) Failed → Type 0
Taken w plan heard packets now old new (Ok taken) = TakesAll w plan heard packets now old new
Taken w plan heard packets now old new (Err failure) = TakesSome w.function plan heard packets old new

-- there is room for more samples, and the packet that is being filled is not full
pub record GoesOn {W : Type 0} (plan : Plan) (m : Maker W) : Type 0 where
  pub held : length m.framer.held.items < 2 * batch_len plan.kind 16
  pub less : m.packer.count < plan.group

-- ---- THE END OF THE SAMPLES

-- how many packets are full of the frames whose samples are all there
abbrev pub settled_for : Plan → List ℕ → ℕ
settled_for plan heard = length heard / 2 / plan.kind.channels / (plan.group * plan.samples)

-- how many frames hold the samples and the 120 that a decoder drops
abbrev pub frames_for : Plan → List ℕ → ℕ
frames_for plan heard = (120 + length heard / 2 / plan.kind.channels + plan.samples - 1) / plan.samples

-- the page of the last packet
abbrev pub last_for : (ℕ → List ℕ) → Plan → List ℕ → Page
last_for frame plan heard = page_of (coded_by plan frame) 4 (120 + length heard / 2 / plan.kind.channels) ((frames_for plan heard - 1) / plan.group) (frames_for plan heard - (frames_for plan heard - 1) / plan.group * plan.group)

-- the pages that are left at the end
abbrev pub ending_text : (ℕ → List ℕ) → Plan → List ℕ → ℕ → List ℕ
ending_text frame plan heard packets = pages_text plan frame packets ((frames_for plan heard - 1) / plan.group - packets) ++ spelling (last_for frame plan heard)
