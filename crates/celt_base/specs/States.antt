-- The setting that is off, and when an allocation is valid.
use Rattle.std.specs.Prelude.{◌≡◌, ℕ, ◌<◌, ◌≤◌, ℤ, pos, ◌≤ℤ◌, slice_index_or, false}
use Rattle.celt_base.specs.declared.kind.Kind.{Kind}
use Rattle.celt_base.specs.declared.state.Allocation.{Allocation}
use Rattle.celt_base.specs.declared.state.Setting.{Setting}

-- The setting that is off.
pub record IsOff (setting : Setting) : Type 0 where
  pub period : setting.period ≡ 15
  pub gain : setting.gain ≡ 0
  pub tapset : setting.tapset ≡ 0

-- The eighths of a bit of a band are at most its cap.
pub record IsShare (cap pulses : ℤ) : Type 0 where
  pub least : pos 0 ≤ℤ pulses
  pub most : pulses ≤ℤ cap

-- An allocation is valid for a kind of frame where each band has a share within its cap.
pub record IsAllocation (cap : ℕ → ℤ) (kind : Kind) (a : Allocation) : Type 0 where
  pub some_coded : 1 ≤ a.coded
  pub most_coded : a.coded ≤ kind.end
  pub most_intensity : a.intensity ≤ a.coded
  pub balance : IsShare (pos 81600) a.balance
  pub pulses : (band : ℕ) → band < kind.end → IsShare (cap band) (slice_index_or a.pulses band (pos 0))
  pub fine : (band : ℕ) → band < kind.end → slice_index_or a.fine band 0 ≤ 8
  pub mono_intensity : kind.channels ≡ 1 → a.intensity ≡ 0
  pub mono_dual : kind.channels ≡ 1 → a.dual ≡ false
