-- What a request of an allocation may ask.
use Rattle.std.specs.Prelude.{ℕ, ◌+◌, ◌*◌, ◌^◌, ◌<◌, min, max, ℤ, pos, List, slice_index_or, ◌≤ℤ◌, ◌<ℤ◌}
use Rattle.bit_allocation.specs.declared.request.Request.{Request}
use Rattle.celt_base.specs.declared.kind.Kind.{Kind}
use Rattle.celt_tables.specs.Tables.{width_of, cap_of}

-- By how much one boost raises a band (RFC 6716, section 4.3.3).
abbrev pub quantum_of : ℕ → ℕ
quantum_of coefficients = min (8 * coefficients) (max 48 coefficients)

-- Boosts end once they have reached the greatest amount.
pub record IsBoost (kind : Kind) (band : ℕ) (boost : ℤ) : Type 0 where
  pub least : pos 0 ≤ℤ boost
  pub most : boost <ℤ pos (cap_of kind.lm kind.channels band + quantum_of (kind.channels * (width_of band * 2 ^ kind.lm)))

abbrev pub AreBoosts : Kind → List ℤ → Type 0
AreBoosts kind boosts = (band : ℕ) → band < kind.end → IsBoost kind band (slice_index_or boosts band (pos 0))

pub record IsTrim (trim : ℤ) : Type 0 where
  pub least : pos 0 ≤ℤ trim
  pub most : trim ≤ℤ pos 10

pub record IsRequest (r : Request) : Type 0 where
  pub total : r.total ≤ℤ pos 81600
  pub boosts : AreBoosts r.kind r.boosts
  pub trim : IsTrim r.trim
