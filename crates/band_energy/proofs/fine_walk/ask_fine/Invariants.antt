use Rattle.std.proofs.Common.{◌+◌, ◌*◌, ◌≤◌}
use Rattle.celt_base.proofs.WalkTables.{AtBand, AtEntry}
use Rattle.band_energy.specs.EnergyRows.{FitsFineBits}
use Rattle.band_energy.specs.EnergyScripts.{fine_at}
use Rattle.band_energy.proofs.fine_walk.ask_fine.Given as goal

abbrev pub invariant-loop-band : goal.invariant-loop-band
invariant-loop-band g l = record {
  at :
      AtBand g.C.Coder.calls g.H.Chooser.calls (fine_at l.bits) l.kind.channels l.kind.end 0 l.values l.fn.coder l.fn.chooser
      l.coder l.chooser l.band;
  sizes : FitsFineBits l.bits l.values;
  count : g.C.Coder.calls.count l.coder ≤ g.C.Coder.calls.count l.fn.coder + 2 * l.band;
}

abbrev pub invariant-loop-channel : goal.invariant-loop-channel
invariant-loop-channel g l = record {
  at :
      AtEntry g.C.Coder.calls g.H.Chooser.calls (fine_at l.bits) l.kind.channels l.kind.end 0 l.values l.fn.coder l.fn.chooser
      l.coder l.chooser l.band l.channel;
  sizes : FitsFineBits l.bits l.values;
  count : g.C.Coder.calls.count l.coder ≤ g.C.Coder.calls.count l.fn.coder + 2 * l.band + l.channel;
}
