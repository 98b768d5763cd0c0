-- What the walk of a frame's bands rests on.
use Rattle.std.specs.Prelude.{ℕ, ◌<◌, ◌≤◌, ◌^◌, ℤ, unsigned_abs}
use Rattle.celt_base.specs.declared.kind.Kind.{Kind}
use Rattle.celt_base.specs.declared.state.Allocation.{Allocation}
use Rattle.band_plan.specs.declared.symbols.BandSettings.{BandSettings}
use Rattle.band_plan.specs.Plans.{AreSettings, pulses_of}

-- Settings of this kind, and numbers that stay small.
pub record IsFrame (kind : Kind) (s : BandSettings) (a : Allocation) (eighths : ℤ) : Type 0 where
  pub settings : AreSettings kind s
  pub coded : a.coded ≤ kind.end
  pub balance : unsigned_abs a.balance ≤ 81600
  pub pulses : (band : ℕ) → band < kind.end → unsigned_abs (pulses_of a band) ≤ 2 ^ 15
  pub total : unsigned_abs eighths ≤ 81600
