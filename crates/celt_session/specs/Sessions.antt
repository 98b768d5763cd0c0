-- What a session stands for, and what its calls add to the output.
use Rattle.std.specs.Prelude.{◌≡◌, ℕ, ◌≤◌, Bool, true, false, List, [], length, drop, Option, None, Some, Result, Ok, Err}
use Rattle.std.specs.Io.KnownBytes.{Appends}
use Rattle.celt_base.specs.declared.outside.Failed.{Failed}
use Rattle.celt_base.specs.declared.status.Fault.{Fault}
use Rattle.celt_base.specs.Outside.{AppendsFront, Rose}
use Rattle.ogg_pages.specs.Fields.{Page}
use Rattle.opus_stream.specs.Acceptance.{accepted, given_pages}
use Rattle.opus_stream.specs.Readers.{Reader, bytes_fed, StandsFor as ReadsTo}
use Rattle.celt_session.specs.declared.fed.Fed.{Fed}
use Rattle.celt_session.specs.declared.fed.Fed.TheVariants.{More, Fault as Stopped, WriteFault}
use Rattle.celt_session.specs.Pages.{heard_after}
use Rattle.celt_session.specs.PageFunctions.{PageFunction, state_after, said, added_by, fault_now, end_fault}
use Rattle.celt_session.specs.Works.{Works}

-- these pages of the bytes were given and worked on
pub record Along {W : Type 0} (w : Works W) (start : w.function.State) (reader : Reader) (work : W) (bytes : List ℕ) (front : List Page) : Type 0 where
  pub given : given_pages bytes (length front) ≡ front
  pub reads : ReadsTo reader bytes (length front)
  pub shows : w.Shows work (state_after w.function start (heard_after [] front))

-- a reader and a work were fed these bytes: all accepted pages were given, and there is no fault but that of the end
pub record IsFed {W : Type 0} (w : Works W) (start : w.function.State) (reader : Reader) (work : W) (bytes : List ℕ) : Type 0 where
  pub along : Along w start reader work bytes (accepted bytes)
  pub sound : fault_now bytes ≡ None

-- what pages give behind the first of them
abbrev pub said_behind : (f : PageFunction) → f.State → List Page → List Page → List ℕ
said_behind f start front pages = drop (length (said f start front)) (said f start pages)

-- all pages of the bytes were given
abbrev pub Gives : {W : Type 0} (w : Works W) → w.function.State → List ℕ → List Page → Reader → W → Option (List ℕ) → Option (List ℕ) → Result (Option Fault) Failed → Type 0
Gives w start bytes front reader work old new (Ok None) = IsFed w start reader work bytes × Appends old new (said_behind w.function start front (accepted bytes))
Gives w start bytes front reader work old new (Ok (Some fault)) =
    (fault_now bytes ≡ Some fault) × Appends old new (said_behind w.function start front (accepted bytes))
Gives w start bytes front reader work old new (Err failure) = AppendsFront old new (said_behind w.function start front (accepted bytes))

-- what a piece adds
abbrev pub Feeds : {W : Type 0} (w : Works W) → w.function.State → List ℕ → List ℕ → Reader → W → Option (List ℕ) → Option (List ℕ) → Result (Option Fault) Failed → Type 0
Feeds w start bytes now reader work old new (Ok None) = IsFed w start reader work now × Appends old new (added_by w.function start bytes now)
Feeds w start bytes now reader work old new (Ok (Some fault)) = (fault_now now ≡ Some fault) × Appends old new (added_by w.function start bytes now)
Feeds w start bytes now reader work old new (Err failure) = AppendsFront old new (added_by w.function start bytes now)

-- what a session holds
pub record Held (W : Type 0) : Type 0 where
  pub reader : Reader
  pub work : W
  -- whether a fault was answered or a write failed
  pub is_ended : Bool

abbrev pub taken_by : {W : Type 0} → Held W → ℕ
taken_by s = bytes_fed s.reader

abbrev pub StandsBy : {W : Type 0} (w : Works W) → w.function.State → Held W → List ℕ → Bool → Type 0
StandsBy w start s bytes false = IsFed w start s.reader s.work bytes
StandsBy w start s bytes true = (fault : Fault) × (fault_now bytes ≡ Some fault)

-- a session that was made of a work that shows the start was fed these bytes
abbrev pub StandsFor : {W : Type 0} (w : Works W) → w.function.State → Held W → List ℕ → Type 0
StandsFor w start s bytes = StandsBy w start s bytes s.is_ended

-- every answer but that more bytes are wanted ends a session
abbrev pub ends_session : Fed → Bool
ends_session More = false
ends_session (Stopped fault) = true
ends_session WriteFault = true

-- what a call of feed does
abbrev pub Adds : {W : Type 0} (w : Works W) → w.function.State → List ℕ → List ℕ → Held W → Option (List ℕ) → Option (List ℕ) → Fed → Type 0
Adds w start bytes now s old new More = StandsFor w start s now × (fault_now now ≡ None) × Appends old new (added_by w.function start bytes now)
Adds w start bytes now s old new (Stopped fault) =
    StandsFor w start s now × (fault_now now ≡ Some fault) × Appends old new (added_by w.function start bytes now)
Adds w start bytes now s old new WriteFault = AppendsFront old new (added_by w.function start bytes now)

-- a write fault comes only where the count rose, which never falls
abbrev pub HasFedCause : ℕ → ℕ → Fed → Type 0
HasFedCause before now More = before ≤ now
HasFedCause before now (Stopped fault) = before ≤ now
HasFedCause before now WriteFault = Rose before now

-- the fault of a stream that ends here
abbrev pub IsEndOf : {W : Type 0} (w : Works W) → Held W → Option Fault → Type 0
IsEndOf w s fault = (start : w.function.State) (bytes : List ℕ) → StandsFor w start s bytes → fault ≡ end_fault bytes
