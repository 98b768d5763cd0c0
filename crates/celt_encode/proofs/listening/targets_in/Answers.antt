use Rattle.std.proofs.Common.{arith}
use Rattle.std.specs.Prelude.{ℤ, FitsSigned}
use Rattle.std.specs.Int.{w64}
use Rattle.std.proofs.lemmas.Int.{to_z-of_z}
use Rattle.celt_analysis.specs.Analyses.{target_in}
use Rattle.celt_encode.proofs.ListeningLemmas.{row_next, row_whole, row_small}
use Rattle.celt_encode.proofs.listening.targets_in.Goals as goal

pub loop-band-preserved : goal.loop-band-preserved
loop-band-preserved c =
    let v : ℤ = c.target.result in
    let fv : FitsSigned w64 v = record { sfits = c.target.type_inv } in
    simp to_z-of_z (row_next (target_in c.args.a.now c.args.channel) c.loop-band.row c.loop-band.band v c.loop-band-test.true c.target.ensures.value c.target.ensures.size c.loop-band.invariant)

pub returns-clause-value : goal.returns-clause-value
returns-clause-value c = row_whole (target_in c.args.a.now c.args.channel) c.loop-band.row c.loop-band.band (omega (arith, c.loop-band-test.false)) c.loop-band.invariant

pub returns-clause-sizes : goal.returns-clause-sizes
returns-clause-sizes c = row_small (target_in c.args.a.now c.args.channel) c.loop-band.row c.loop-band.band (omega (arith, c.loop-band-test.false)) c.loop-band.invariant
