-- What a generator stands for: its seed and the pairs that it gave.
use Rattle.std.specs.Prelude.{◌≡◌, ℕ, ◌%◌}
use Rattle.celt_cli.specs.declared.generator.GenSamples.{GenSamples}
use Rattle.celt_cli.specs.Generator.{noise_behind}

-- behind so many pairs of this seed
pub record HasGiven (generator : GenSamples) (seed count : ℕ) : Type 0 where
  pub noise : generator.noise ≡ noise_behind seed count
  pub left : generator.left ≡ count % 200
  pub right : generator.right ≡ count % 151
