-- The vectors of unit length of a frame (RFC 6716, 4.3.4), and the choice of dual stereo by them.
use Rattle.std.specs.Prelude.{ℕ, zero, suc, ◌+◌, ◌-◌, ◌*◌, ◌/◌, ◌^◌, nat_eq, nat_lt, Bool, ◌&&◌, ℤ, pos, ◌+ℤ◌, ◌-ℤ◌, unsigned_abs, List, [], ◌∷◌, ◌++◌, length, replicate, take, drop, slice_index_or}
use Rattle.celt_base.specs.declared.kind.Kind.{Kind}
use Rattle.celt_tables.specs.Tables.{edge_of, size_of}
use Rattle.fixed_math.specs.Items.{item}
use Rattle.fixed_math.specs.Unit.{unit_of}
use Rattle.celt_analysis.specs.Analyses.{Analysis}
use Rattle.celt_analysis.specs.Sums.{sum_from}

-- where band b begins in a spectrum, and its coefficients
abbrev pub start_of : Kind → ℕ → ℕ
start_of kind b = edge_of b * 2 ^ kind.lm

abbrev pub band_of : Kind → List ℤ → ℕ → List ℤ
band_of kind spectrum b = take (size_of kind b) (drop (start_of kind b) spectrum)

-- the vectors of the first so many bands, one behind the other
unfoldable pub units_below : Kind → List ℤ → ℕ → List ℤ
units_below kind spectrum zero = []
units_below kind spectrum (suc b) = units_below kind spectrum b ++ unit_of (pos 32768) (band_of kind spectrum b)

-- 800 items, 0 behind the last of these
abbrev pub filled_up : List ℤ → List ℤ
filled_up units = units ++ replicate (800 - length units) (pos 0)

-- the vectors of a channel with this spectrum, which is empty where the frame has no such channel
unfoldable pub unit_row : Kind → List ℤ → List ℤ
unit_row kind spectrum = filled_up (units_below kind spectrum kind.end)

unfoldable pub units_for : Kind → Analysis → List (List ℤ)
units_for kind a = unit_row kind a.left ∷ unit_row kind a.right ∷ []

-- ---- dual stereo

-- the sizes of two items, and those of their sum and their difference
abbrev pub sizes_apart : ℤ → ℤ → ℕ
sizes_apart l r = unsigned_abs l + unsigned_abs r

abbrev pub sizes_mixed : ℤ → ℤ → ℕ
sizes_mixed l r = unsigned_abs (l +ℤ r) + unsigned_abs (l -ℤ r)

-- added up over two rows' bands below 13
abbrev pub over_pairs : (ℤ → ℤ → ℕ) → List ℤ → List ℤ → ℕ → ℕ
over_pairs f l r n = sum_from (λ p. f (item l p) (item r p)) 0 n

-- Two channels are coded apart where that is smaller than their sum and difference over the root of 2.
unfoldable pub is_dual : Kind → List ℤ → List ℤ → Bool
is_dual kind l r = nat_lt (over_pairs sizes_apart l r (start_of kind 13)) (23170 * over_pairs sizes_mixed l r (start_of kind 13) / 2 ^ 15)

-- by the vectors of both; one channel alone is not asked
unfoldable pub dual_for : Kind → List (List ℤ) → Bool
dual_for kind units = nat_eq kind.channels 2 && is_dual kind (slice_index_or units 0 []) (slice_index_or units 1 [])
