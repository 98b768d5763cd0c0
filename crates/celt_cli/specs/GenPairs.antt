-- What a source of pairs stands for.
use Rattle.std.specs.Prelude.{◌≡◌, ℕ, ℤ, pos, ◌-◌, ◌≤◌, nat_lt, if◌then◌else◌}
use Rattle.celt_cli.specs.declared.generator.GenSettings.{GenSettings}
use Rattle.celt_cli.specs.declared.pairs.GenPairs.{GenPairs}
use Rattle.celt_cli.specs.Generator.{pair_of}
use Rattle.celt_cli.specs.Generators.{HasGiven}
use Rattle.celt_cli.specs.GenSignals.{pairs_of}

-- the pair with this number, and 0 behind the last one
abbrev pub pair_in : GenSettings → ℕ → ℤ × ℤ
pair_in settings number = if nat_lt number (pairs_of settings) then pair_of settings.seed number else (pos 0, pos 0)

-- so many pairs were given
pub record GavePairs (settings : GenSettings) (count : ℕ) (pairs : GenPairs) : Type 0 where
  pub rest : pairs.rest ≡ pairs_of settings - count
  pub given : count ≤ pairs_of settings → HasGiven pairs.generator settings.seed count
