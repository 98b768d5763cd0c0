-- What a source of windows stands for.
use Rattle.std.specs.Prelude.{◌≡◌, ℕ, ◌+◌, ◌*◌, ◌<◌}
use Rattle.fixed_math.specs.Items.{item}
use Rattle.celt_cli.specs.declared.generator.GenSettings.{GenSettings}
use Rattle.celt_cli.specs.declared.windows.GenWindows.{GenWindows}
use Rattle.celt_cli.specs.GenPairs.{GavePairs}
use Rattle.celt_cli.specs.GenSignals.{window_for}

-- so many windows were given, and the next one begins with what is held of the last of them
pub record GaveWindows (settings : GenSettings) (count : ℕ) (windows : GenWindows) : Type 0 where
  pub pairs : GavePairs settings (960 * count) windows.pairs
  pub held : (place : ℕ) → place < 2290 → item windows.items (place + 1920) ≡ item (window_for settings count) place
