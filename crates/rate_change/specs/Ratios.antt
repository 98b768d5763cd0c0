-- The ratio of a rate.
use Rattle.std.specs.Prelude.{◌≡◌, ℕ, false, true, Option, None, Some}
use Rattle.rate_change.specs.declared.ratio.Ratio.{Ratio}
use Rattle.rate_change.specs.Rates.{is_rate, IsLowest}

-- there is a ratio exactly where the rate is one of the six, and it is that of this rate
abbrev pub IsRatioOf : ℕ → Option Ratio → Type 0
IsRatioOf rate None = is_rate rate ≡ false
IsRatioOf rate (Some r) = (is_rate rate ≡ true) × IsLowest rate r.up r.down
