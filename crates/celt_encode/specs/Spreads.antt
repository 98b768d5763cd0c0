-- The spreading that is wanted (RFC 6716, 4.3.4.3): the less, the more of the coefficients are small.
use Rattle.std.specs.Prelude.{ℕ, zero, suc, ◌+◌, ◌*◌, nat_eq, nat_le, nat_lt, Bool, if◌then◌else◌, ℤ, List, length, count_by}
use Rattle.celt_base.specs.declared.kind.Kind.{Kind}
use Rattle.celt_tables.specs.Tables.{size_of}
use Rattle.fixed_math.specs.Unit.{energy, square}
use Rattle.celt_analysis.specs.Analyses.{Analysis}
use Rattle.celt_encode.specs.Units.{band_of}

-- The square of a coefficient is below a sixteenth of the mean square of its band.
abbrev pub is_small : List ℤ → ℤ → Bool
is_small band x = nat_lt (16 * length band * square x) (energy band)

abbrev pub small_in : List ℤ → ℕ
small_in band = count_by (is_small band) band

-- a count of each of the first so many bands that has eight coefficients or more, added up
unfoldable pub over_bands : (List ℤ → ℕ) → Kind → List ℤ → ℕ → ℕ
over_bands count kind spectrum zero = 0
over_bands count kind spectrum (suc b) = over_bands count kind spectrum b + (if nat_le 8 (size_of kind b) then count (band_of kind spectrum b) else 0)

-- over all channels; a spectrum that the frame does not have is empty
abbrev pub over_channels : (List ℤ → ℕ) → Kind → Analysis → ℕ
over_channels count kind a = over_bands count kind a.left kind.end + over_bands count kind a.right kind.end

-- by the number of the coefficients, and how many of them are small
unfoldable pub spread_by : ℕ → ℕ → ℕ
spread_by all small =
    if nat_eq all 0
    then 2
    else (if nat_lt (4 * small) all then 3 else (if nat_lt (2 * small) all then 2 else (if nat_lt (4 * small) (3 * all) then 1 else 0)))

unfoldable pub spread_for : Kind → Analysis → ℕ
spread_for kind a = spread_by (over_channels length kind a) (over_channels small_in kind a)
