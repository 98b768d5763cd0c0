-- The entries of the tables by their places (RFC 6716, section 4.3).
use Rattle.std.specs.Prelude.{ℕ, ◌+◌, ◌-◌, ◌*◌, ◌/◌, ◌^◌, Bool, if◌then◌else◌, [], get_or, slice_index, ℤ, pos}
use Rattle.celt_base.specs.declared.kind.Kind.{Kind}
use Rattle.celt_tables.specs.declared.bands.TheConstants.{EDGES}
use Rattle.celt_tables.specs.declared.bits.TheConstants.{CAPS, ALLOCATION}
use Rattle.celt_tables.specs.declared.energies.TheConstants.{ENERGY_MODELS}
use Rattle.celt_tables.specs.declared.resolution.TheConstants.{CHANGES}
use Rattle.celt_tables.specs.declared.window.TheConstants.{WINDOW}

abbrev pub edge_of : ℕ → ℕ
edge_of i = slice_index EDGES i

abbrev pub width_of : ℕ → ℕ
width_of i = edge_of (i + 1) - edge_of i

-- The coefficients of a band in one channel, and in all.
abbrev pub size_of : Kind → ℕ → ℕ
size_of kind i = width_of i * 2 ^ kind.lm

abbrev pub coefficients_of : Kind → ℕ → ℕ
coefficients_of kind i = kind.channels * size_of kind i

abbrev pub caps_entry : ℕ → ℕ → ℕ
caps_entry row i = slice_index (get_or CAPS row []) i

-- In eighths of a bit; the table counts 1/64 of a bit for each coefficient of each channel, less 64.
abbrev pub cap_of : ℕ → ℕ → ℕ → ℕ
cap_of lm channels i = (caps_entry (2 * lm + channels - 1) i + 64) * (channels * (width_of i * 2 ^ lm)) / 4

abbrev pub allocation_entry : ℕ → ℕ → ℕ
allocation_entry row i = slice_index (get_or ALLOCATION row []) i

abbrev pub model_entry : ℕ → ℕ → ℕ → ℕ
model_entry lm intra place = slice_index (get_or (get_or ENERGY_MODELS lm []) intra []) place

-- The length of the energy 0 of a band, of 32768, and how the lengths of the others fall (Q14).
abbrev pub fs_of : ℕ → Bool → ℕ → ℕ
fs_of lm intra band = model_entry lm (if intra then 1 else 0) (2 * band) * 2 ^ 7

abbrev pub decay_of : ℕ → Bool → ℕ → ℕ
decay_of lm intra band = model_entry lm (if intra then 1 else 0) (2 * band + 1) * 2 ^ 6

abbrev pub change_of : ℕ → Bool → Bool → Bool → ℤ
change_of lm transient select flag =
    get_or (get_or CHANGES lm []) ((if transient then 4 else 0) + (if select then 2 else 0) + (if flag then 1 else 0)) (pos 0)

abbrev pub window_entry : ℕ → ℕ
window_entry k = slice_index WINDOW k
