-- What the next page of the bytes that are held gives.
use Rattle.std.specs.Prelude.{◌≡◌, ℕ, ◌+◌, ◌≤◌, List, length, take, drop, Ok, Err}
use Rattle.ogg_pages.specs.declared.page.PageFault.{PageFault}
use Rattle.ogg_pages.specs.declared.page.Verdict.TheVariants as verdicts
use Rattle.ogg_pages.specs.Verdicts.{verdict}
use Rattle.ogg_pages.specs.Fields.{page_of}
use Rattle.opus_stream.specs.declared.progress.Progress.{Progress}
use Rattle.opus_stream.specs.declared.step.Taken.{Taken}
use Rattle.opus_stream.specs.declared.step.Taken.TheVariants.{Page, Need, Broken, Refused}
use Rattle.opus_stream.specs.Acceptance.{name_of}
use Rattle.opus_stream.specs.Rooms.{Kept}
use Rattle.opus_stream.specs.Accepted.{Accepts}

-- the page of these bytes stands first in what was held, and is held no longer
pub record IsTaken (old new view : List ℕ) : Type 0 where
  pub whole : verdict old ≡ verdicts.Whole (length view)
  pub first : view ≡ take (length view) old
  pub behind : new ≡ drop (length view) old

pub record Same (old new : List ℕ) (page_old page_new : List ℕ) (room_old room_new : Kept) : Type 0 where
  pub held : new ≡ old
  pub page : page_new ≡ page_old
  pub room : room_new ≡ room_old

abbrev pub IsStep : Progress → List ℕ → List ℕ → List ℕ → List ℕ → Kept → Kept → Taken → Type 0
IsStep p old new page_old page_new room_old room_new (Page accepted) =
    IsTaken old new page_new × Accepts p room_old room_new (page_of page_new) (Ok accepted) × (accepted.progress.bytes ≡ p.bytes + length page_new) × (accepted.given.packets ≤ 255)
IsStep p old new page_old page_new room_old room_new Need = (verdict old ≡ verdicts.Need) × Same old new page_old page_new room_old room_new
IsStep p old new page_old page_new room_old room_new (Broken name) =
    ((fault : PageFault) × (verdict old ≡ verdicts.Fault fault) × (name ≡ name_of fault)) × Same old new page_old page_new room_old room_new
IsStep p old new page_old page_new room_old room_new (Refused fault) =
    ((view : List ℕ) × IsTaken old new view × Accepts p room_old room_new (page_of view) (Err fault))
    × (page_new ≡ page_old) × (room_new.given ≡ room_old.given) × (room_new.left ≡ room_old.left)
