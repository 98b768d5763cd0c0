-- The energies of bands that an encoder aims at (RFC 6716, 4.3.2), log2 in units of 2^-10.
use Rattle.std.specs.Prelude.{ℕ, zero, suc, ◌*◌, nat_lt, nat_eq, Bool, true, ◌&&◌, if◌then◌else◌, ℤ, pos, neg_ℤ, ◌-ℤ◌, unsigned_abs, List, [], ◌∷◌, replicate, slice_index}
use Rattle.std.specs.Int.{int_max}
use Rattle.celt_tables.specs.Tables.{edge_of, width_of}
use Rattle.celt_tables.specs.declared.energies.TheConstants.{MEANS}
use Rattle.fixed_math.specs.Items.{item, listed}
use Rattle.fixed_math.specs.Powers.{logarithm}
use Rattle.fixed_math.specs.Root.{root}
use Rattle.celt_analysis.specs.Sums.{energy}

-- the least energy
abbrev pub floor : ℤ
floor = neg_ℤ (pos 28672)

-- the energy of band b in a spectrum of 120 * m items, and its root
abbrev pub band_energy : ℕ → List ℤ → ℕ → ℕ
band_energy m xs b = energy (item xs) (m * edge_of b) (m * width_of b)

abbrev pub band_amplitude : ℕ → List ℤ → ℕ → ℕ
band_amplitude m xs b = root (band_energy m xs b)

-- the target of band b with such an amplitude: its logarithm over the band's mean
unfoldable pub target_of : ℕ → ℕ → ℤ
target_of b zero = floor
target_of b (suc a) = int_max floor (pos (logarithm (suc a)) -ℤ pos 12288 -ℤ pos (64 * slice_index MEANS b))

-- the target of each band of a spectrum; the least energy from end on
unfoldable pub row_target : ℕ → ℕ → List ℤ → ℕ → ℤ
row_target end m xs b = if nat_lt b end then target_of b (band_amplitude m xs b) else floor

unfoldable pub row_of : ℕ → ℕ → List ℤ → List ℤ
row_of end m xs = listed 21 (row_target end m xs)

-- the targets by channels and bands; the least energy in a channel that is not there
unfoldable pub targets_of : Bool → ℕ → ℕ → List ℤ → List ℤ → List (List ℤ)
targets_of stereo end m left right = row_of end m left ∷ (if stereo then row_of end m right else replicate 21 floor) ∷ []

-- the heights: the greater of a band's targets
unfoldable pub height_of : List ℤ → List ℤ → ℕ → ℤ
height_of xs ys b = int_max (item xs b) (item ys b)

unfoldable pub heights_of : Bool → ℕ → ℕ → List ℤ → List ℤ → List ℤ
heights_of stereo end m left right = if stereo then listed 21 (height_of (row_of end m left) (row_of end m right)) else row_of end m left

-- the first n items are 0
unfoldable pub are_zero : ℕ → List ℤ → Bool
are_zero zero xs = true
are_zero (suc n) xs = are_zero n xs && nat_eq (unsigned_abs (item xs n)) 0

-- all items of the bands below end are 0
unfoldable pub is_silent : Bool → ℕ → List ℤ → List ℤ → Bool
is_silent stereo n left right = if stereo then are_zero n left && are_zero n right else are_zero n left
