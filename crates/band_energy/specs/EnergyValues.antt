-- The energies that come of the answers (RFC 6716, section 4.3.2): log2 in units of 2^-10. A coarse value is a step of 2^10,
-- 6 dB.
use Rattle.std.specs.Prelude.{ℕ, zero, suc, ◌+◌, ◌-◌, ◌*◌, ◌^◌, nat_lt, Bool, true, false, ◌&&◌, if◌then◌else◌, List, [], map, get_or, slice_index, ℤ, pos, neg_ℤ, ◌+ℤ◌, ◌-ℤ◌, ◌*ℤ◌, Option, None, Some}
use Rattle.std.specs.Int.{int_shr, int_max}
use Rattle.std.specs.List.{range_with_len}
use Rattle.celt_base.specs.declared.kind.Kind.{Kind}
use Rattle.celt_base.specs.declared.state.Allocation.{Allocation}
use Rattle.band_energy.specs.declared.energy.Energy.{Energy}

-- The standard's alpha (Q15): how much of the energy before in time is kept. It is 0 in an intra frame.
abbrev pub alpha_of : ℕ → Bool → ℕ
alpha_of lm true = 0
alpha_of zero false = 29440
alpha_of (suc zero) false = 26112
alpha_of (suc (suc zero)) false = 21248
alpha_of (suc (suc (suc n))) false = 16384

-- The standard's beta (Q15): how much of each coarse value the bands above lose again.
abbrev pub beta_of : ℕ → Bool → ℕ
beta_of lm true = 4915
beta_of zero false = 30147
beta_of (suc zero) false = 22282
beta_of (suc (suc zero)) false = 12124
beta_of (suc (suc (suc n))) false = 6554

-- What the coarse values of the bands below leave to a band (units of 2^-17).
abbrev pub carried : ℕ → List ℤ → ℕ → ℤ
carried beta values zero = pos 0
carried beta values (suc band) = carried beta values band +ℤ pos (2 ^ 17 - 4 * beta) *ℤ get_or values band (pos 0)

-- What is kept of the energy before in time (units of 2^-17), which counts from -9216 on (section 4.3.2.1).
unfoldable pub kept_of : ℕ → ℤ → ℤ
kept_of alpha old = int_shr (pos alpha *ℤ int_max (neg_ℤ (pos 9216)) old +ℤ pos 128) 8

-- The energy of a sum in units of 2^-17, which is -28 steps at least (section 4.3.2.1).
unfoldable pub energy_from : ℤ → ℤ
energy_from sum = int_shr (int_max sum (neg_ℤ (pos (28 * 2 ^ 17))) +ℤ pos 64) 7

-- The coarse energy: what is kept of the energy before in time, what is carried from the bands below, and the own value.
abbrev pub coarse_of : ℕ → ℤ → ℤ → ℤ → ℤ
coarse_of alpha old carry value = energy_from (kept_of alpha old +ℤ carry +ℤ value *ℤ pos (2 ^ 17))

-- What a fine energy of so many bits adds: the middle of its part of a step, less half a step (section 4.3.2.2).
unfoldable pub fine_of : ℕ → ℕ → ℤ
fine_of bits fine = int_shr (pos (fine * 1024 + 512)) bits -ℤ pos 512

-- What a last bit adds: half a step of the fine energy up or down (section 4.3.2.2).
unfoldable pub last_of : ℕ → Option ℕ → ℤ
last_of bits None = pos 0
last_of bits (Some bit) = int_shr (pos (bit * 1024) -ℤ pos 512) (bits + 1)

-- The energy of a channel's band, by the energies of the channel before.
unfoldable pub energy_by : ℕ → ℕ → List ℕ → Energy → ℕ → List ℤ → ℕ → ℤ
energy_by alpha beta bits e channel row band =
    coarse_of alpha (get_or row band (pos 0)) (carried beta (get_or e.coarse channel []) band) (get_or (get_or e.coarse channel []) band (pos 0))
    +ℤ fine_of (slice_index bits band) (get_or (get_or e.fine channel []) band 0)
    +ℤ last_of (slice_index bits band) (get_or (get_or e.last channel []) band None)

-- Bands and channels that the kind does not have keep theirs.
unfoldable pub energy_at : Kind → Bool → Allocation → Energy → List (List ℤ) → ℕ → ℕ → ℤ
energy_at kind intra a e energies channel band =
    if nat_lt channel kind.channels && nat_lt band kind.end
    then energy_by (alpha_of kind.lm intra) (beta_of kind.lm intra) a.fine e channel (get_or energies channel []) band
    else get_or (get_or energies channel []) band (pos 0)

-- The energies of both channels.
unfoldable pub energies_of : Kind → Bool → Allocation → Energy → List (List ℤ) → List (List ℤ)
energies_of kind intra a e energies =
    map (λ channel. map (energy_at kind intra a e energies channel) (range_with_len 0 21)) (range_with_len 0 2)
