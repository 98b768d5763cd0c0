-- What is wanted of the answers of the energies, by what was answered so far. No frame asks for another channel or band, or for
-- more than 8 bits.
use Rattle.std.specs.Prelude.{ℕ, min, Bool, ◌&&◌, if◌then◌else◌, nat_lt, ℤ, pos, [], get_or}
use Rattle.band_energy.specs.WantedEnergies.{energy_by_coarse, wanted_coarse, energy_by_fine, wanted_fine, wanted_last}
use Rattle.celt_encode.specs.declared.answers.Answers.{Answers}
use Rattle.celt_encode.specs.Outsets.{Outset}

abbrev pub has_band : ℕ → ℕ → Bool
has_band channel band = nat_lt channel 2 && nat_lt band 21

abbrev pub target_at : Outset → ℕ → ℕ → ℤ
target_at f channel band = get_or (get_or f.targets channel []) band (pos 0)

-- the energy by the coarse answers
abbrev pub coarse_energy : Outset → Answers → ℕ → ℕ → ℤ
coarse_energy f a channel band = energy_by_coarse f.kind a.intra f.energies a.coarse channel band

-- the energy by the coarse and the fine answers
abbrev pub fine_energy : Outset → Answers → ℕ → ℕ → ℤ
fine_energy f a channel band =
    energy_by_fine (coarse_energy f a channel band) (min (get_or (get_or a.bits channel []) band 0) 8) (get_or (get_or a.fine channel []) band 0)

unfoldable pub coarse_wanted : Outset → Answers → ℕ → ℕ → ℤ
coarse_wanted f a channel band =
    if has_band channel band then wanted_coarse f.kind a.intra f.energies a.coarse channel band (target_at f channel band) else pos 0

unfoldable pub fine_wanted : Outset → Answers → ℕ → ℕ → ℕ → ℤ
fine_wanted f a channel band bits =
    if has_band channel band then wanted_fine (target_at f channel band) (coarse_energy f a channel band) (min bits 8) else pos 0

unfoldable pub last_wanted : Outset → Answers → ℕ → ℕ → ℤ
last_wanted f a channel band =
    if has_band channel band then wanted_last (target_at f channel band) (fine_energy f a channel band) else pos 0
