-- What the fields of a frame's symbols hold: all that its questions came to, and what the energies, the shapes and the signal
-- of the frame rest on.
use Rattle.std.specs.Prelude.{◌≡◌, true, false, pos, Option, None, Some}
use Rattle.band_energy.specs.EnergyRows.{AreCoarse, FitsFineBits, AreBits}
use Rattle.band_plan.specs.Plans.{Holds}
use Rattle.band_plan.specs.Shapes.{HasTrees}
use Rattle.bit_allocation.specs.Amounts.{most_of}
use Rattle.celt_base.specs.declared.kind.Kind.{Kind}
use Rattle.celt_base.specs.States.{IsAllocation}
use Rattle.celt_base.specs.WalkTables.{HoldsRows}
use Rattle.frame_symbols.specs.declared.fields.Fields.{Fields}
use Rattle.frame_symbols.specs.Blanks.{IsBlank}
use Rattle.frame_symbols.specs.Frames.{Sound}

-- The fields are within what a frame of this kind may have.
pub record SuitsKind (kind : Kind) (f : Fields) : Type 0 where
  pub coarse : AreCoarse f.energy.coarse
  pub fine : FitsFineBits f.allocation.fine f.energy.fine
  pub last : AreBits f.energy.last
  pub allocation : IsAllocation (λ band. pos (most_of kind band)) kind f.allocation
  pub transient : f.bands.settings.transient ≡ f.opening.transient
  pub trees : HasTrees kind f.bands

-- The fields hold what the questions of a frame that is not silent came to.
pub record HoldsSound (kind : Kind) (f : Fields) (s : Sound) : Type 0 where
  pub sounds : f.silent ≡ false
  pub opening : f.opening ≡ s.opening
  pub coarse : HoldsRows (pos 0) f.energy.coarse s.coarse
  pub fine : HoldsRows 0 f.energy.fine s.fine
  pub last : HoldsRows None f.energy.last s.last
  pub allocation : f.allocation ≡ s.amounts.allocation
  pub bands : Holds f.bands s.shaping.settings s.amounts.allocation s.plans
  pub collapse : f.collapse ≡ s.collapse
  pub suits : SuitsKind kind f

pub record HoldsSilence (f : Fields) : Type 0 where
  pub silent : f.silent ≡ true
  pub blank : IsBlank f

abbrev pub HoldsFrame : Kind → Fields → Option Sound → Type 0
HoldsFrame kind f None = HoldsSilence f
HoldsFrame kind f (Some s) = HoldsSound kind f s
