-- How the bits of each coded band fall to its pulses and its fine energy (RFC 6716, section 4.3.3).
use Rattle.std.specs.Prelude.{ℕ, zero, suc, ◌+◌, ◌-◌, ◌*◌, ◌/◌, min, true, not, ◌&&◌, if◌then◌else◌, nat_eq, nat_lt, nat_le, List, map, slice_index, pos}
use Rattle.std.specs.List.{range_with_len}
use Rattle.bit_allocation.specs.declared.plan.Plan.{Plan}
use Rattle.bit_allocation.specs.declared.turns.Skipped.{Skipped}
use Rattle.bit_allocation.specs.declared.stereo.Stereo.{Stereo}
use Rattle.bit_allocation.specs.declared.splitting.Split.{Split}
use Rattle.bit_allocation.specs.Amounts.{bit_each, most_of}
use Rattle.celt_base.specs.declared.kind.Kind.{Kind}
use Rattle.celt_base.specs.declared.state.Allocation.{Allocation}
use Rattle.celt_tables.specs.declared.bands.TheConstants.{WIDTH_LOGARITHMS}
use Rattle.celt_tables.specs.Tables.{edge_of, width_of, size_of, coefficients_of}

-- What is left falls evenly to the coefficients of the coded bands; what that leaves over, fewer than there are
-- coefficients, falls to the lowest bands: what is beyond the coefficients below a band.
abbrev pub even_of : ℕ → ℕ → ℕ
even_of left coded = left / edge_of coded

abbrev pub beyond_of : ℕ → ℕ → ℕ → ℕ
beyond_of left coded band = left - even_of left coded * edge_of coded - edge_of band

-- a coded band's bits with its share of what is left
unfoldable pub share_of : ℕ → ℕ → ℕ → ℕ → ℕ
share_of bits left coded band = bits + even_of left coded * width_of band + min (beyond_of left coded band) (width_of band)

-- How many numbers a band's bits are for (the standard's den): its coefficients, and one more for a stereo band whose two channels are split
-- by an angle.
abbrev pub numbers_of : Kind → Stereo → ℕ → ℕ
numbers_of kind t band =
    coefficients_of kind band
    + (if nat_eq kind.channels 2 && nat_lt 2 (size_of kind band) && not t.dual && nat_lt band t.intensity then 1 else 0)

-- By how many eighths of a bit the fine bits stay below the bits of a number (the standard's FINE_OFFSET).
abbrev pub fine_offset : ℕ
fine_offset = 21

-- A band's bits, and more for bands that have many coefficients, or few bits for each number: `lift` is the standard's NClogN.
abbrev pub logarithm_of : Kind → ℕ → ℕ
logarithm_of kind band = slice_index WIDTH_LOGARITHMS band + 8 * kind.lm

abbrev pub raised_once : ℕ → ℕ → ℕ → ℕ → ℕ
raised_once size numbers lift b = b + lift / 2 + (if nat_eq size 2 then 2 * numbers else 0)

abbrev pub raised_twice : ℕ → ℕ → ℕ → ℕ
raised_twice numbers lift b =
    if nat_lt b ((fine_offset + 16) * numbers) then b + lift / 4 else (if nat_lt b ((fine_offset + 24) * numbers) then b + lift / 8 else b)

unfoldable pub raised_bits : Kind → ℕ → ℕ → ℕ → ℕ
raised_bits kind numbers band b =
    let lift = numbers * logarithm_of kind band in raised_twice numbers lift (raised_once (size_of kind band) numbers lift b)

-- The bits of fine energy in each channel: about one for each number's eight, at most 8, and no more than there are.
unfoldable pub fine_of : ℕ → ℕ → ℕ → ℕ → ℕ
fine_of channels numbers raised b =
    let fine = (raised - (fine_offset - 4) * numbers) / (8 * numbers) in
    min (if nat_lt (b / 8) (channels * fine) then b / channels / 8 else fine) 8

-- A band of more than one coefficient: what exceeds its greatest amount is left over.
unfoldable pub wide_split : Kind → Stereo → ℕ → ℕ → Split
wide_split kind t band bit =
    let b = min bit (most_of kind band) in
    let numbers = numbers_of kind t band in
    let raised = raised_bits kind numbers band b in
    let fine = fine_of kind.channels numbers raised b in
    record {
      pulses = b - bit_each kind * fine;
      fine = fine;
      priority = nat_le raised (8 * numbers * fine + fine_offset * numbers);
      balance = bit - most_of kind band;
    }

-- One coefficient: a sign in each channel.
unfoldable pub single_split : Kind → ℕ → Split
single_split kind bit =
    record { pulses = min bit (bit_each kind); fine = 0; priority = true; balance = bit - bit_each kind }

-- What is left over becomes more fine energy, up to 8 bits; what it cannot take is the balance for the bands above.
unfoldable pub topped : Kind → ℕ → Split → Split
topped kind before s =
    if nat_eq s.balance 0 then s else
    let more = min (s.balance / bit_each kind) (8 - s.fine) in
    record {
      pulses = s.pulses;
      fine = s.fine + more;
      priority = nat_le s.balance (bit_each kind * more + before);
      balance = s.balance - bit_each kind * more;
    }

-- The split of a band that has so many bits beside the balance before it.
unfoldable pub split_of : Kind → Stereo → ℕ → ℕ → ℕ → Split
split_of kind t band bits before =
    topped kind before
    (if nat_eq (size_of kind band) 1 then single_split kind (bits + before) else wide_split kind t band (bits + before))

-- What is left for the coded bands: the bit for dual stereo comes back where there is no intensity.
abbrev pub left_after : Plan → Skipped → Stereo → ℕ
left_after p s t = s.left + (if nat_eq t.intensity 0 then p.reserves.dual else 0)

-- A band that is not coded has what it kept for fine energy, and no pulses; the balance goes past it.
unfoldable pub skipped_split : Kind → ℕ → ℕ → Split
skipped_split kind bits before =
    let fine = bits / bit_each kind in record { pulses = 0; fine = fine; priority = nat_lt fine 1; balance = before }

-- The split of a band, with the balance before it.
unfoldable pub band_split : Plan → Skipped → Stereo → ℕ → ℕ → Split
band_split p s t band before =
    if nat_lt band s.coded
    then split_of p.kind t band (share_of (slice_index s.bits band) (left_after p s t) s.coded band) before
    else skipped_split p.kind (slice_index s.bits band) before

-- The balance before a band: what the bands below it had and did not take.
unfoldable pub balance_of : Plan → Skipped → Stereo → ℕ → ℕ
balance_of p s t zero = 0
balance_of p s t (suc band) = (band_split p s t band (balance_of p s t band)).balance

unfoldable pub split_at : Plan → Skipped → Stereo → ℕ → Split
split_at p s t band = band_split p s t band (balance_of p s t band)

abbrev pub by_bands : {A : Type 0} → (ℕ → A) → List A
by_bands f = map f (range_with_len 0 21)

unfoldable pub allocation_of : Plan → Skipped → Stereo → Allocation
allocation_of p s t = record {
  coded = s.coded;
  intensity = t.intensity;
  dual = t.dual;
  balance = pos (balance_of p s t 21);
  pulses = by_bands (λ band. pos (split_at p s t band).pulses);
  fine = by_bands (λ band. (split_at p s t band).fine);
  priority = by_bands (λ band. (split_at p s t band).priority);
}
