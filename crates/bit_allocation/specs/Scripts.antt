-- The questions of the allocation: which bands are skipped, from the top down, where intensity begins, and dual stereo
-- (RFC 6716, section 4.3.3).
use Rattle.std.specs.Prelude.{ℕ, zero, suc, ◌+◌, ◌-◌, ◌*◌, max, Bool, false, ◌||◌, if◌then◌else◌, nat_eq, nat_le, List, slice_index, slice_set, ℤ, pos}
use Rattle.bit_allocation.specs.declared.plan.Plan.{Plan}
use Rattle.bit_allocation.specs.declared.turns.Skipped.{Skipped}
use Rattle.bit_allocation.specs.declared.turns.Turn.{Turn}
use Rattle.bit_allocation.specs.declared.turns.Turn.TheVariants.{Stays, Goes}
use Rattle.bit_allocation.specs.declared.stereo.Stereo.{Stereo}
use Rattle.bit_allocation.specs.Amounts.{raised, bit_each, threshold_of}
use Rattle.bit_allocation.specs.Counts.{sum_below, few}
use Rattle.bit_allocation.specs.Plans.{intensity_bits, plan_of}
use Rattle.bit_allocation.specs.Shares.{even_of, beyond_of, allocation_of}
use Rattle.celt_base.specs.declared.coder.Place.TheVariants.{Skip, Intensity, Dual}
use Rattle.celt_base.specs.declared.kind.Kind.{Kind}
use Rattle.celt_base.specs.declared.question.Question.TheVariants.{Uniform}
use Rattle.celt_base.specs.declared.state.Allocation.{Allocation}
use Rattle.celt_base.specs.WalkScripts.{Script, Done, and_then, asks_at, asks_bit}
use Rattle.celt_tables.specs.Tables.{width_of}

-- what is laid aside for the choice of one of so many coded bands
abbrev pub intensity_now : Plan → ℕ → ℕ
intensity_now p coded = if nat_eq p.reserves.intensity 0 then 0 else intensity_bits coded

-- What is left once all bands have their bits, intensity its reserve and each bit asked so far its eight.
unfoldable pub left_of : Plan → ℕ → ℕ → List ℕ → ℕ
left_of p coded asked bits =
    (p.reserves.rest + p.reserves.intensity) - (sum_below (slice_index bits) p.kind.end + intensity_now p coded + 8 * asked)

-- What the highest coded band would have: its bits, its share of what is left, and what the even shares leave over.
unfoldable pub offer_of : Plan → ℕ → ℕ → List ℕ → ℕ
offer_of p band asked bits =
    let left = left_of p (band + 1) asked bits in
    slice_index bits band + even_of left (band + 1) * width_of band + beyond_of left (band + 1) band

-- The band stays, or goes with what it keeps: one bit in each channel or nothing. It is asked where it has enough.
unfoldable pub turn_script : Kind → ℕ → ℕ → Script Turn
turn_script kind band offer =
    if nat_le (max (threshold_of kind band) (bit_each kind + 8)) offer
    then and_then (asks_bit (Skip band (pos offer)) 1) (λ stays. Done (if stays then Stays else Goes 1 (few kind (offer - 8))))
    else Done (Goes 0 (few kind offer))

-- the bands that are coded, what is left for them, and the bits of all bands
abbrev pub skipped : Plan → ℕ → ℕ → List ℕ → ℕ → Skipped
skipped p coded asked bits back = record { coded = coded; left = left_of p coded asked bits + back; bits = bits }

-- what follows a turn
abbrev pub after_turn : {A : Type 0} → Script A → (ℕ → ℕ → Script A) → Turn → Script A
after_turn stays goes Stays = stays
after_turn stays goes (Goes asked share) = goes asked share

-- From the top down a band goes, until one stays, or one is reached that may not go. In that case what was laid aside
-- for the end of skipping comes back.
unfoldable pub skip_script : Plan → ℕ → ℕ → List ℕ → Script Skipped
skip_script p zero asked bits = Done (skipped p 0 asked bits p.reserves.skip)
skip_script p (suc band) asked bits =
    if nat_le band p.start
    then Done (skipped p (suc band) asked bits p.reserves.skip)
    else and_then (turn_script p.kind band (offer_of p band asked bits))
    (after_turn (Done (skipped p (suc band) asked bits 0)) (λ more share. skip_script p band (asked + more) (slice_set bits band share)))

-- the first intensity band
unfoldable pub intensity_script : Plan → ℕ → Script ℕ
intensity_script p coded =
    if nat_eq p.reserves.intensity 0 then Done 0 else and_then (asks_at (Intensity coded) (Uniform (coded + 1))) (λ answer. Done (raised answer))

-- whether the bands below it are in dual stereo
unfoldable pub dual_script : Plan → ℕ → Script Bool
dual_script p intensity =
    if nat_eq intensity 0 || nat_eq p.reserves.dual 0 then Done false else asks_bit Dual 1

unfoldable pub stereo_script : Plan → ℕ → Script Stereo
stereo_script p coded =
    and_then (intensity_script p coded) (λ intensity.
    and_then (dual_script p intensity) (λ dual. Done (record { intensity = intensity; dual = dual })))

unfoldable pub plan_script : Plan → Script Allocation
plan_script p =
    and_then (skip_script p p.kind.end 0 p.bits) (λ s.
    and_then (stereo_script p s.coded) (λ t. Done (allocation_of p s t)))

-- The allocation for this total, these boosts and this trim.
unfoldable pub allocation_script : Kind → ℤ → List ℤ → ℤ → Script Allocation
allocation_script kind total boosts trim =
    plan_script (plan_of (record { kind = kind; total = total; boosts = boosts; trim = trim }))
