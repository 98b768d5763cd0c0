-- What an encoder wants of the answers of the energies: those that bring a band's energy nearest to its target. Targets and
-- energies are log2 in units of 2^-10, as in the energies that come of the answers (RFC 6716, section 4.3.2).
use Rattle.std.specs.Prelude.{ℕ, ◌^◌, ◌≤◌, Bool, if◌then◌else◌, List, [], get_or, ℤ, pos, ◌+ℤ◌, ◌-ℤ◌, ◌*ℤ◌, int_le, unsigned_abs}
use Rattle.std.specs.Int.{int_shr}
use Rattle.celt_base.specs.declared.kind.Kind.{Kind}
use Rattle.band_energy.specs.EnergyValues.{alpha_of, beta_of, carried, kept_of, energy_from, fine_of}

-- A target is at most 64 steps of 6 dB in size.
abbrev pub IsTarget : ℤ → Type 0
IsTarget target = unsigned_abs target ≤ 2 ^ 16

-- What a coarse value of 0 comes to: what is kept of the energy before in time, and what is carried from the coarse values
-- of the bands below (units of 2^-17). Energies and values are a row for each channel.
unfoldable pub predicted : Kind → Bool → List (List ℤ) → List (List ℤ) → ℕ → ℕ → ℤ
predicted kind intra old coarse channel band =
    kept_of (alpha_of kind.lm intra) (get_or (get_or old channel []) band (pos 0))
    +ℤ carried (beta_of kind.lm intra) (get_or coarse channel []) band

-- The energy by the coarse values of the band and of those below it.
unfoldable pub energy_by_coarse : Kind → Bool → List (List ℤ) → List (List ℤ) → ℕ → ℕ → ℤ
energy_by_coarse kind intra old coarse channel band =
    energy_from (predicted kind intra old coarse channel band +ℤ get_or (get_or coarse channel []) band (pos 0) *ℤ pos (2 ^ 17))

-- The coarse value that is wanted: the whole number of steps nearest to what lies between the prediction and the target, the
-- upper one where two are as near.
unfoldable pub wanted_coarse : Kind → Bool → List (List ℤ) → List (List ℤ) → ℕ → ℕ → ℤ → ℤ
wanted_coarse kind intra old coarse channel band target =
    int_shr (target *ℤ pos 128 -ℤ predicted kind intra old coarse channel band +ℤ pos (2 ^ 16)) 17

-- The energy with a fine energy of so many bits.
unfoldable pub energy_by_fine : ℤ → ℕ → ℕ → ℤ
energy_by_fine energy bits fine = energy +ℤ fine_of bits fine

-- The fine energy that is wanted: the part of the step around the energy in which the target lies. It may be no number of so
-- many bits.
unfoldable pub wanted_fine : ℤ → ℤ → ℕ → ℤ
wanted_fine target energy bits = int_shr ((target -ℤ energy +ℤ pos 512) *ℤ pos (2 ^ bits)) 10

-- The last bit that is wanted.
unfoldable pub wanted_last : ℤ → ℤ → ℤ
wanted_last target energy = if int_le energy target then pos 1 else pos 0
