-- What an allocation gives in all, in eighths of a bit: the pulses of all bands, the bits of their fine energy in each
-- channel, and the balance.
use Rattle.std.specs.Prelude.{◌≡◌, ℕ, ◌+◌, ◌*◌, pos, slice_index, slice_index_or, get_or, true}
use Rattle.bit_allocation.specs.declared.plan.Plan.{Plan}
use Rattle.bit_allocation.specs.declared.stereo.Stereo.{Stereo}
use Rattle.bit_allocation.specs.declared.turns.Skipped.{Skipped}
use Rattle.bit_allocation.specs.Amounts.{raised, bit_each}
use Rattle.bit_allocation.specs.Counts.{sum_below}
use Rattle.bit_allocation.specs.Shares.{share_of, left_after, split_at}
use Rattle.celt_base.specs.declared.kind.Kind.{Kind}
use Rattle.celt_base.specs.declared.state.Allocation.{Allocation}

abbrev pub given_of : Kind → Allocation → ℕ
given_of kind a =
    sum_below (λ band. raised (slice_index_or a.pulses band (pos 0)) + bit_each kind * slice_index a.fine band) 21 + raised a.balance

-- a coded band's bits with its share of what is left, and what its split gives to pulses and fine energy
abbrev pub shared_of : Plan → Skipped → Stereo → ℕ → ℕ
shared_of p s t band = share_of (slice_index s.bits band) (left_after p s t) s.coded band

abbrev pub taken_of : Plan → Skipped → Stereo → ℕ → ℕ
taken_of p s t band = (split_at p s t band).pulses + bit_each p.kind * (split_at p s t band).fine

-- A band that has nothing.
pub record IsBlank (a : Allocation) (band : ℕ) : Type 0 where
  pub pulses : slice_index_or a.pulses band (pos 0) ≡ pos 0
  pub fine : slice_index a.fine band ≡ 0
  pub priority : get_or a.priority band true ≡ true
