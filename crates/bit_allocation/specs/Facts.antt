-- What holds of a plan, of a turn and of what stands after skipping.
use Rattle.std.specs.Prelude.{◌≡◌, ℕ, ◌+◌, ◌*◌, ◌<◌, ◌≤◌, slice_index, length, ⊤, false}
use Rattle.bit_allocation.specs.declared.plan.Plan.{Plan}
use Rattle.bit_allocation.specs.declared.plan.Reserves.{Reserves}
use Rattle.bit_allocation.specs.declared.turns.Skipped.{Skipped}
use Rattle.bit_allocation.specs.declared.turns.Turn.{Turn}
use Rattle.bit_allocation.specs.declared.turns.Turn.TheVariants.{Stays, Goes}
use Rattle.bit_allocation.specs.declared.stereo.Stereo.{Stereo}
use Rattle.bit_allocation.specs.Counts.{sum_below}
use Rattle.bit_allocation.specs.Scripts.{intensity_now}

abbrev pub whole_of : Reserves → ℕ
whole_of r = r.skip + r.intensity + r.dual + r.rest

pub record IsPlan (p : Plan) : Type 0 where
  pub start : p.start < p.kind.end
  pub intensity : p.reserves.intensity ≡ intensity_now p p.kind.end
  pub mono : p.kind.channels ≡ 1 → p.reserves.intensity ≡ 0
  pub dual : p.reserves.intensity ≡ 0 → p.reserves.dual ≡ 0
  pub whole : whole_of p.reserves ≤ 81600
  pub length_is : length p.bits ≡ 21
  pub fits : sum_below (slice_index p.bits) p.kind.end ≤ p.reserves.rest
  pub beyond : (band : ℕ) → p.kind.end ≤ band → slice_index p.bits band ≡ 0

-- A turn gives and takes no more than was offered.
abbrev pub IsTurn : ℕ → Turn → Type 0
IsTurn offer Stays = ⊤
IsTurn offer (Goes asked share) = (asked ≤ 1) × (share ≤ 16) × (share + 8 * asked ≤ offer)

pub record IsSkipped (p : Plan) (s : Skipped) : Type 0 where
  pub some : 1 ≤ s.coded
  pub most : s.coded ≤ p.kind.end
  pub length_is : length s.bits ≡ 21
  pub fits : sum_below (slice_index s.bits) p.kind.end + s.left + p.reserves.dual ≤ whole_of p.reserves
  pub beyond : (band : ℕ) → p.kind.end ≤ band → slice_index s.bits band ≡ 0
  pub few : (band : ℕ) → s.coded ≤ band → slice_index s.bits band ≤ 16

pub record IsStereo (p : Plan) (coded : ℕ) (t : Stereo) : Type 0 where
  pub within : t.intensity ≤ coded
  pub mono : p.kind.channels ≡ 1 → t.intensity ≡ 0
  pub mono_dual : p.kind.channels ≡ 1 → t.dual ≡ false
