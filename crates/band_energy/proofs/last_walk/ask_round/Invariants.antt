use Rattle.std.proofs.Common.{◌≡◌, ◌+◌, ◌-◌, ◌*◌, ◌≤◌, if◌then◌else◌, None}
use Rattle.celt_base.proofs.WalkTables.{AtBand, AtEntry}
use Rattle.band_energy.specs.EnergyRows.{AreBits}
use Rattle.band_energy.specs.EnergyScripts.{last_at, bands_in}
use Rattle.band_energy.proofs.last_walk.ask_round.Given as goal

abbrev pub invariant-loop-band : goal.invariant-loop-band
invariant-loop-band g l = record {
  at :
      AtBand g.C.Coder.calls g.H.Chooser.calls (last_at l.kind.channels l.a l.second l.fn.left) l.kind.channels l.kind.end None
      l.bits l.fn.coder l.fn.chooser l.coder l.chooser l.band;
  sizes : AreBits l.bits;
  rest : l.rest ≡ l.fn.left - l.kind.channels * bands_in l.a l.second l.band;
  count : g.C.Coder.calls.count l.coder ≤ g.C.Coder.calls.count l.fn.coder + 2 * bands_in l.a l.second l.band;
}

abbrev pub invariant-loop-channel : goal.invariant-loop-channel
invariant-loop-channel g l = record {
  at :
      AtEntry g.C.Coder.calls g.H.Chooser.calls (last_at l.kind.channels l.a l.second l.fn.left) l.kind.channels l.kind.end None
      l.bits l.fn.coder l.fn.chooser l.coder l.chooser l.band l.channel;
  sizes : AreBits l.bits;
  count : g.C.Coder.calls.count l.coder ≤ g.C.Coder.calls.count l.fn.coder + 2 * bands_in l.a l.second l.band + (if l.reached then l.channel else 0);
}
