-- What a band needs, may have and usually has (RFC 6716, section 4.3.3). Amounts are in eighths of a bit. `/` rounds
-- down, and where a difference would be below 0 it is 0.
use Rattle.std.specs.Prelude.{ℕ, zero, suc, ◌+◌, ◌-◌, ◌*◌, ◌/◌, ◌^◌, max, ℤ, pos, negsuc, ◌+ℤ◌, ◌-ℤ◌, ◌*ℤ◌, slice_index_or, if◌then◌else◌, nat_eq, nat_le}
use Rattle.std.specs.Int.{int_shr}
use Rattle.bit_allocation.specs.declared.request.Request.{Request}
use Rattle.celt_base.specs.declared.kind.Kind.{Kind}
use Rattle.celt_tables.specs.Tables.{size_of, coefficients_of, cap_of, allocation_entry}

-- a number, or 0 where it is below
abbrev pub raised : ℤ → ℕ
raised (pos n) = n
raised (negsuc n) = 0

-- one bit in each channel
abbrev pub bit_each : Kind → ℕ
bit_each kind = 8 * kind.channels

-- the least amount with which a band has pulses
abbrev pub threshold_of : Kind → ℕ → ℕ
threshold_of kind band = max (bit_each kind) (3 * size_of kind band * 8 / 16)

-- the greatest amount
abbrev pub most_of : Kind → ℕ → ℕ
most_of kind band = cap_of kind.lm kind.channels band

-- what was asked for a band by its boosts
abbrev pub boost_of : Request → ℕ → ℕ
boost_of r band = raised (slice_index_or r.boosts band (pos 0))

-- How the trim tilts the amounts: the bands below by more than those above, up or down; and a band of one coefficient
-- has less.
abbrev pub tilt_of : Kind → ℕ → ℕ
tilt_of kind band = 8 * coefficients_of kind band * (kind.end - band - 1)

abbrev pub less_of : Kind → ℕ → ℕ
less_of kind band = if nat_eq (size_of kind band) 1 then bit_each kind else 0

unfoldable pub offset_of : Kind → ℤ → ℕ → ℤ
offset_of kind trim band =
    int_shr (pos (tilt_of kind band) *ℤ (trim -ℤ pos (5 + kind.lm))) 6 -ℤ pos (less_of kind band)

-- an amount tilted, where there is one
unfoldable pub tilted : ℤ → ℕ → ℕ
tilted offset zero = 0
tilted offset (suc n) = raised (pos (suc n) +ℤ offset)

-- A band's amount at a quality from 0 to 10; behind the last quality stands the greatest amount.
abbrev pub usual_of : Kind → ℕ → ℕ → ℕ
usual_of kind quality band =
    if nat_le quality 10 then coefficients_of kind band * allocation_entry quality band / 4 else most_of kind band

unfoldable pub value_of : Request → ℕ → ℕ → ℕ
value_of r quality band = tilted (offset_of r.kind r.trim band) (usual_of r.kind quality band)
