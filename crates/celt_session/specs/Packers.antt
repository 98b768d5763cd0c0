-- What was put into packets, and what of it is still to be written.
use Rattle.std.specs.Prelude.{◌≡◌, ℕ, ◌+◌, ◌-◌, ◌*◌, ◌≤◌, List, length, take, Option, Result, Ok, Err, ⊤}
use Rattle.std.specs.List.{concat, flat_map}
use Rattle.std.specs.Io.KnownBytes.{Appends}
use Rattle.celt_base.specs.declared.outside.Failed.{Failed}
use Rattle.celt_base.specs.Outside.{AppendsFront}
use Rattle.ogg_pages.specs.Spelling.{spelling}
use Rattle.celt_session.specs.declared.plan.Plan.{Plan}
use Rattle.celt_session.specs.declared.packer.Packer.{Packer}
use Rattle.celt_session.specs.FrameFunctions.{frames_from}
use Rattle.celt_session.specs.AudioPages.{Coded, packets_from}

-- the rooms of a packer: frames of the longest packet, a packet and a page
pub record HasRooms (p : Packer) : Type 0 where
  pub frames : length p.frames.items ≡ 61200
  pub packet : length p.packet.items ≡ 61202
  pub page : length p.page.items ≡ 65307

abbrev pub coded_by : Plan → (ℕ → List ℕ) → Coded
coded_by plan frame = record { toc = plan.toc; group = plan.group; frame = frame }

-- The frames before frame `done` were put in: those of the packets before are written, and the others stand in the packet that is being
-- filled.
pub record Packs (plan : Plan) (frame : ℕ → List ℕ) (done : ℕ) (p : Packer) : Type 0 where
  pub place : p.packets * plan.group + p.count ≡ done
  pub frames : take (p.count * plan.bytes) p.frames.items ≡ concat (frames_from frame (p.packets * plan.group) p.count)

-- each frame has the length of the plan
abbrev pub AreLong : Plan → (ℕ → List ℕ) → Type 0
AreLong plan frame = (t : ℕ) → length (frame t) ≡ plan.bytes

-- the pages of full packets
abbrev pub pages_text : Plan → (ℕ → List ℕ) → ℕ → ℕ → List ℕ
pages_text plan frame p count = flat_map spelling (packets_from (coded_by plan frame) p count)

-- A front of the pages of full packets was written, whose frames are all before frame `done`.
pub record WritesSome (plan : Plan) (frame : ℕ → List ℕ) (done packets : ℕ) (old new : Option (List ℕ)) : Type 0 where
  pub until : ℕ
  pub ahead : packets ≤ until
  pub within : until * plan.group ≤ done
  pub text : AppendsFront old new (pages_text plan frame packets (until - packets))

-- The frames before frame `done` were put in, and the pages of the packets that got full were written.
pub record WritesFull (plan : Plan) (frame : ℕ → List ℕ) (done packets : ℕ) (now : Packer) (old new : Option (List ℕ)) : Type 0 where
  pub packs : Packs plan frame done now
  pub ahead : packets ≤ now.packets
  pub text : Appends old new (pages_text plan frame packets (now.packets - packets))

abbrev pub Packed : Plan → (ℕ → List ℕ) → ℕ → ℕ → Packer → Option (List ℕ) → Option (List ℕ) → Result (Unit {0}) Failed → Type 0
Packed plan frame done packets now old new (Ok written) = WritesFull plan frame done packets now old new
Packed plan frame done packets now old new (Err failure) = WritesSome plan frame done packets old new

-- A failure before frame `done` was put in.
abbrev pub FailsBefore : Plan → (ℕ → List ℕ) → ℕ → ℕ → Option (List ℕ) → Option (List ℕ) → Result (Unit {0}) Failed → Type 0
FailsBefore plan frame done packets old new (Ok written) = ⊤
FailsBefore plan frame done packets old new (Err failure) = WritesSome plan frame done packets old new
