-- What is known of a frame before its first question.
use Rattle.std.specs.Prelude.{ℕ, Bool, ℤ, List}
use Rattle.celt_base.specs.declared.kind.Kind.{Kind}
use Rattle.celt_base.specs.declared.state.Setting.{Setting}
use Rattle.celt_encode.specs.declared.frame.Frame.{Frame}

-- The kind and the number of bytes; whether no frame was made before; what the analysis of the frame says, and what is wanted
-- by it alone; the energies after the frame before, the wanted ones, and for each channel the spectrum, each band of unit
-- length.
pub record Outset : Type 0 where
  pub kind : Kind
  pub len : ℕ
  pub first : Bool
  pub silent : Bool
  pub transient : Bool
  pub setting : Setting
  pub spread : ℕ
  pub dual : Bool
  pub boosts : List Bool
  pub trim : ℤ
  pub energies : List (List ℤ)
  pub targets : List (List ℤ)
  pub units : List (List ℤ)

abbrev pub outset_of : Frame → Outset
outset_of f = record {
  kind = f.kind;
  len = f.len;
  first = f.first;
  silent = f.silent;
  transient = f.transient;
  setting = f.setting;
  spread = f.spread;
  dual = f.dual;
  boosts = f.boosts;
  trim = f.trim;
  energies = f.energies;
  targets = f.targets;
  units = f.units;
}
