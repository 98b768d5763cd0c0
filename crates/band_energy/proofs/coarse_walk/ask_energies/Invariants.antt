use Rattle.std.proofs.Common.{◌+◌, ◌*◌, ◌≤◌, pos}
use Rattle.celt_base.proofs.WalkTables.{AtBand, AtEntry}
use Rattle.band_energy.specs.EnergyRows.{AreCoarse}
use Rattle.band_energy.specs.EnergyScripts.{coarse_at}
use Rattle.band_energy.proofs.coarse_walk.ask_energies.Given as goal

abbrev pub invariant-loop-band : goal.invariant-loop-band
invariant-loop-band g l = record {
  at :
      AtBand g.C.Coder.calls g.H.Chooser.calls (coarse_at l.terms.kind.lm l.terms.intra l.terms.budget) l.terms.kind.channels l.terms.kind.end
      (pos 0) l.values l.fn.coder l.fn.chooser l.coder l.chooser l.band;
  sizes : AreCoarse l.values;
  count : g.C.Coder.calls.count l.coder ≤ g.C.Coder.calls.count l.fn.coder + 2 * l.band;
}

abbrev pub invariant-loop-channel : goal.invariant-loop-channel
invariant-loop-channel g l = record {
  at :
      AtEntry g.C.Coder.calls g.H.Chooser.calls (coarse_at l.terms.kind.lm l.terms.intra l.terms.budget) l.terms.kind.channels l.terms.kind.end
      (pos 0) l.values l.fn.coder l.fn.chooser l.coder l.chooser l.band l.channel;
  sizes : AreCoarse l.values;
  count : g.C.Coder.calls.count l.coder ≤ g.C.Coder.calls.count l.fn.coder + 2 * l.band + l.channel;
}
