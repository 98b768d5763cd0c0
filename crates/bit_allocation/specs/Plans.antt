-- What is laid aside for three choices, and the bits of the bands before any of them is skipped (RFC 6716, section
-- 4.3.3).
use Rattle.std.specs.Prelude.{ℕ, zero, suc, ◌-◌, ◌&&◌, if◌then◌else◌, nat_eq, nat_lt, nat_le, map, slice_index, List}
use Rattle.std.specs.List.{range_with_len}
use Rattle.bit_allocation.specs.declared.plan.Plan.{Plan}
use Rattle.bit_allocation.specs.declared.plan.Reserves.{Reserves}
use Rattle.bit_allocation.specs.declared.request.Request.{Request}
use Rattle.bit_allocation.specs.Amounts.{raised, boost_of}
use Rattle.bit_allocation.specs.Counts.{count_of, quality_of, stepped_of, step_of}
use Rattle.celt_base.specs.declared.kind.Kind.{Kind}
use Rattle.celt_tables.specs.declared.bands.TheConstants.{BAND_CHOICE_BITS}

-- what the choice of one of so many bands, or none, may take
abbrev pub intensity_bits : ℕ → ℕ
intensity_bits bands = slice_index BAND_CHOICE_BITS bands

-- One bit for the end of skipping; the choice of the first intensity band; one bit for dual stereo. Each is laid aside
-- where it fits what is left.
abbrev pub skip_reserve : ℕ → ℕ
skip_reserve total = if nat_le 8 total then 8 else 0

abbrev pub intensity_reserve : Kind → ℕ → ℕ
intensity_reserve kind left =
    if nat_eq kind.channels 2 && nat_le (intensity_bits kind.end) left then intensity_bits kind.end else 0

abbrev pub dual_reserve : ℕ → ℕ → ℕ
dual_reserve intensity left = if nat_lt 0 intensity && nat_le 8 left then 8 else 0

unfoldable pub reserves_of : Kind → ℕ → Reserves
reserves_of kind total =
    let skip = skip_reserve total in
    let intensity = intensity_reserve kind (total - skip) in
    let dual = dual_reserve intensity (total - skip - intensity) in
    record { skip = skip; intensity = intensity; dual = dual; rest = total - skip - intensity - dual }

-- the highest band with a boost, or 0
unfoldable pub boosted_top : Request → ℕ → ℕ
boosted_top r zero = 0
boosted_top r (suc band) = if nat_lt 0 (boost_of r band) then band else boosted_top r band

-- the list of the bands below `end` by their places, and zeros up to 21
abbrev pub bands_to : ℕ → (ℕ → ℕ) → List ℕ
bands_to end amounts = map (λ band. if nat_lt band end then amounts band else 0) (range_with_len 0 21)

abbrev pub bits_of : Request → ℕ → List ℕ
bits_of r rest =
    let quality = quality_of r rest in
    bands_to r.kind.end (count_of r.kind (stepped_of r quality (step_of r quality rest)))

unfoldable pub plan_of : Request → Plan
plan_of r =
    let reserves = reserves_of r.kind (raised r.total) in
    record { kind = r.kind; reserves = reserves; start = boosted_top r r.kind.end; bits = bits_of r reserves.rest }
