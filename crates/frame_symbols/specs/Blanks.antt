-- The fields of a new value and of a silent frame: zeros, false, None and empty lists, and the post-filter is off.
use Rattle.std.specs.Prelude.{◌≡◌, false, replicate, pos, None, []}
use Rattle.band_energy.specs.declared.energy.Energy.{Energy}
use Rattle.band_plan.specs.declared.symbols.BandSettings.{BandSettings}
use Rattle.band_plan.specs.declared.symbols.BandSymbols.{BandSymbols}
use Rattle.celt_base.specs.declared.state.Allocation.{Allocation}
use Rattle.frame_symbols.specs.declared.fields.Fields.{Fields}
use Rattle.frame_symbols.specs.Openings.{off}

abbrev pub no_energy : Energy
no_energy = record {
  coarse = replicate 2 (replicate 21 (pos 0));
  fine = replicate 2 (replicate 21 0);
  last = replicate 2 (replicate 21 None);
}

abbrev pub no_allocation : Allocation
no_allocation = record {
  coded = 0;
  intensity = 0;
  dual = false;
  balance = pos 0;
  pulses = replicate 21 (pos 0);
  fine = replicate 21 0;
  priority = replicate 21 false;
}

abbrev pub no_settings : BandSettings
no_settings = record { transient = false; spread = 0; tf = replicate 21 (pos 0) }

pub record AreNoBands (s : BandSymbols) : Type 0 where
  pub settings : s.settings ≡ no_settings
  pub coded : s.coded ≡ 0
  pub intensity : s.intensity ≡ 0
  pub dual : s.dual ≡ false
  pub amounts : s.amounts ≡ replicate 21 (pos 0)
  pub nodes : s.nodes.items ≡ []

pub record IsBlank (f : Fields) : Type 0 where
  pub post_filter : f.opening.post_filter ≡ off
  pub transient : f.opening.transient ≡ false
  pub intra : f.opening.intra ≡ false
  pub energy : f.energy ≡ no_energy
  pub allocation : f.allocation ≡ no_allocation
  pub bands : AreNoBands f.bands
  pub collapse : f.collapse ≡ false
