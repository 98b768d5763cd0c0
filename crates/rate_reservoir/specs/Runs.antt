-- Runs of frames: any number of them in a row. A run of m frames may have m times `bytes` and `most` bytes.
use Rattle.std.specs.Prelude.{◌≡◌, ℕ, ◌+◌, ◌*◌, ◌<◌, ◌≤◌, List, length, take, drop, sum, Option, None, Some}

-- frame f ends a run of m frames, from frame `start` on, that has more
pub record EndsLongRun (bytes most : ℕ) (lengths : List ℕ) (f : ℕ) : Type 0 where
  pub start : ℕ
  pub m : ℕ
  pub ends : start + m ≡ f + 1
  pub within : start + m ≤ length lengths
  pub exceeds : m * bytes + most < sum (take m (drop start lengths))

-- no frame ends such a run, or this frame is the first that does
abbrev pub IsBrokenAt : ℕ → ℕ → List ℕ → Option ℕ → Type 0
IsBrokenAt bytes most lengths None = (f : ℕ) → EndsLongRun bytes most lengths f → ⊥
IsBrokenAt bytes most lengths (Some f) = EndsLongRun bytes most lengths f × ((g : ℕ) → EndsLongRun bytes most lengths g → f ≤ g)

-- Of all runs that end with the last frame, the one that has the most beyond its frames' `bytes` has so much beyond them.
-- The run of no frame has 0.
pub record IsMostExcess (bytes : ℕ) (lengths : List ℕ) (excess : ℕ) : Type 0 where
  pub bound : (start m : ℕ) → start + m ≡ length lengths → sum (drop start lengths) ≤ m * bytes + excess
  pub start : ℕ
  pub m : ℕ
  pub ends : start + m ≡ length lengths
  pub reached : sum (drop start lengths) ≡ m * bytes + excess
