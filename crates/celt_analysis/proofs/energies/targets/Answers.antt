use Rattle.std.proofs.Common.{arith}
use Rattle.std.specs.Prelude.{ℤ, FitsSigned}
use Rattle.std.specs.Int.{w64}
use Rattle.std.proofs.lemmas.Int.{to_z-of_z}
use Rattle.celt_analysis.proofs.EnergyLemmas.{row_next, row_whole, row_sizes}
use Rattle.celt_analysis.proofs.energies.targets.Goals as goal

pub loop-band-preserved : goal.loop-band-preserved
loop-band-preserved c =
    let r : ℤ = c.band_target.result in
    let fr : FitsSigned w64 r = record { sfits = c.band_target.type_inv } in
    simp to_z-of_z (row_next c.args.end c.args.blocks c.args.spectrum.now c.loop-band.row c.loop-band.band r c.loop-band-test.true c.requires.end c.band_target.ensures.value c.band_target.ensures.size c.loop-band.invariant)

pub returns-clause-value : goal.returns-clause-value
returns-clause-value c =
    row_whole c.args.end c.args.blocks c.args.spectrum.now c.loop-band.row c.loop-band.band (omega (arith, c.loop-band-test.false)) c.loop-band.invariant

pub returns-clause-sizes : goal.returns-clause-sizes
returns-clause-sizes c = row_sizes c.args.end c.args.blocks c.args.spectrum.now c.loop-band.row c.loop-band.band c.loop-band.invariant
