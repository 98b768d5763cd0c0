-- The range of the energies.
use Rattle.std.specs.Prelude.{◌^◌, ℤ, pos, neg_ℤ, ◌≤ℤ◌, ◌<ℤ◌, List}
use Rattle.std.specs.List.{All}

-- An energy is from -2^15 up to 2^33.
pub record IsEnergy (energy : ℤ) : Type 0 where
  pub least : neg_ℤ (pos (2 ^ 15)) ≤ℤ energy
  pub most : energy <ℤ pos (2 ^ 33)

abbrev pub AreEnergies : List (List ℤ) → Type 0
AreEnergies energies = All (λ row. All IsEnergy row) energies
