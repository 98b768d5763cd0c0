-- Walks of the parts of a frame that left what they came to in the fields.
use Rattle.std.specs.Prelude.{◌≡◌, ℕ, false, List, ℤ, Option, None}
use Rattle.band_energy.specs.EnergyRows.{FitsFineBits, AreBits}
use Rattle.band_plan.specs.Plans.{Holds}
use Rattle.band_plan.specs.Shapes.{HasTrees}
use Rattle.celt_base.specs.declared.kind.Kind.{Kind}
use Rattle.celt_base.specs.WalkCalls.{CoderCalls, ChooserCalls}
use Rattle.celt_base.specs.WalkTables.{HoldsRows}
use Rattle.celt_base.specs.Walks.{Walked}
use Rattle.frame_symbols.specs.declared.fields.Amounts.{Amounts}
use Rattle.frame_symbols.specs.declared.fields.Fields.{Fields}
use Rattle.frame_symbols.specs.declared.fields.Opening.{Opening}
use Rattle.frame_symbols.specs.declared.fields.Shaping.{Shaping}
use Rattle.frame_symbols.specs.Frames.{Sound, sound_script, ending_script, frame_script}
use Rattle.frame_symbols.specs.Held.{HoldsSound, HoldsFrame}

-- The fields hold what follows the allocation, and the coarse energies as they were.
pub record HoldsEnding (kind : Kind) (f : Fields) (o : Opening) (s : Shaping) (m : Amounts) (coarse : List (List ℤ)) (sound : Sound) : Type 0 where
  pub opening : f.opening ≡ o
  pub coarse_kept : f.energy.coarse ≡ coarse
  pub fine : HoldsRows 0 f.energy.fine sound.fine
  pub fine_fits : FitsFineBits f.allocation.fine f.energy.fine
  pub last : HoldsRows None f.energy.last sound.last
  pub last_bits : AreBits f.energy.last
  pub allocation : f.allocation ≡ m.allocation
  pub bands : Holds f.bands s.settings m.allocation sound.plans
  pub trees : HasTrees kind f.bands
  pub collapse : f.collapse ≡ sound.collapse
  pub shaping_is : sound.shaping ≡ s
  pub amounts_is : sound.amounts ≡ m
  pub opening_is : sound.opening ≡ o

-- Whatever rows the coarse energies have.
pub record WalkedEnding {C H : Type 0} (coder : CoderCalls C) (chooser : ChooserCalls H) (kind : Kind) (len : ℕ) (o : Opening) (s : Shaping) (m : Amounts)
    (coarse : List (List ℤ)) (f : Fields) (c : C) (h : H) (d : C) (k : H) : Type 0 where
  pub sound : List (List ℤ) → Sound
  pub walked : (rows : List (List ℤ)) → Walked coder chooser (ending_script kind len o rows s m) (sound rows) c h d k
  pub holds : (rows : List (List ℤ)) → HoldsEnding kind f o s m coarse (sound rows)
  pub rows_are : (rows : List (List ℤ)) → (sound rows).coarse ≡ rows

-- A walk of a frame that is not silent.
pub record WalkedSound {C H : Type 0} (coder : CoderCalls C) (chooser : ChooserCalls H) (kind : Kind) (len : ℕ) (f : Fields)
    (c : C) (h : H) (d : C) (k : H) : Type 0 where
  pub sound : Sound
  pub walked : Walked coder chooser (sound_script kind len) sound c h d k
  pub holds : f.silent ≡ false → HoldsSound kind f sound

-- A walk of a whole frame.
pub record WalkedFrame {C H : Type 0} (coder : CoderCalls C) (chooser : ChooserCalls H) (kind : Kind) (len : ℕ) (f : Fields)
    (c : C) (h : H) (d : C) (k : H) : Type 0 where
  pub value : Option Sound
  pub walked : Walked coder chooser (frame_script kind len) value c h d k
  pub holds : HoldsFrame kind f value
