-- What a budget stands for: the lengths that it noted.
use Rattle.std.specs.Prelude.{◌≡◌, ℕ, List, length, Option, None}
use Rattle.rate_reservoir.specs.declared.budget.Budget.{Budget}
use Rattle.rate_reservoir.specs.Runs.{IsBrokenAt, IsMostExcess}

-- how many frames it noted
abbrev pub frames_noted : Budget → ℕ
frames_noted budget = budget.frames

-- its answer
abbrev pub broken_in : Budget → Option ℕ
broken_in budget = budget.broken

-- until it is broken it keeps the excess of the frames noted
pub record HasNoted (budget : Budget) (bytes most : ℕ) (lengths : List ℕ) : Type 0 where
  pub bytes_is : budget.bytes ≡ bytes
  pub most_is : budget.most ≡ most
  pub frames_is : budget.frames ≡ length lengths
  pub broken_is : IsBrokenAt bytes most lengths budget.broken
  pub excess_is : budget.broken ≡ None → IsMostExcess bytes lengths budget.excess
