use Rattle.std.proofs.Common.{◌≡◌, ◌<◌, w64, to_z, FitsSigned, ℤ, List, length, get_or, pos, ◌+ℤ◌, arith}
use Rattle.std.proofs.lemmas.Int.{to_z-of_z}
use Rattle.std.proofs.lemmas.List.Elements.{All-get_or}
use Rattle.celt_base.specs.Energies.{IsEnergy}
use Rattle.band_energy.specs.EnergyValues.{coarse_of, fine_of, last_of}
use Rattle.band_energy.proofs.ValueRows.{row_begun, row_more}
use Rattle.band_energy.proofs.ValueSteps.{energy_type}
use Rattle.band_energy.proofs.values.change_row.Goals as goal

pub loop-band-init : goal.loop-band-init
loop-band-init c = row_begun c.args.terms.alpha c.args.terms.beta c.args.a.now.fine c.args.e.now c.args.channel c.args.row.now c.told-row c.requires.row

pub loop-band-preserved : goal.loop-band-preserved
loop-band-preserved c =
    let inv = c.loop-band.invariant in
    let terms = c.args.terms in
    let answers = c.answers_of-answers.result in
    let band = c.loop-band.band in
    let row : List ℤ = c.loop-band.row in
    let carry : ℤ = to_z w64 c.loop-band.carried-bits in
    let below : band < 21 = let e = terms.ended in let t = c.loop-band-test.true in let f = c.from-band-end.ensures in omega (arith, e, t, f) in
    let energy = All-get_or IsEnergy row band (pos 0) (let room = inv.room in omega (arith, room, below)) inv.energies in
    let o : FitsSigned w64 (get_or row band (pos 0)) = energy_type (get_or row band (pos 0)) energy in
    let v : FitsSigned w64 c.energy_after.result = record { sfits = c.energy_after.type_inv } in
    let n : FitsSigned w64 c.carry_more-carried.result = record { sfits = c.carry_more-carried.type_inv } in
    let value_is : c.energy_after.result ≡ coarse_of terms.alpha (get_or row band (pos 0)) carry answers.coarse +ℤ fine_of answers.bits answers.fine +ℤ last_of answers.bits answers.last =
    simp to_z-of_z at c.energy_after.ensures.value in
    simp to_z-of_z
    (row_more terms.alpha terms.beta c.args.a.now.fine c.args.e.now c.args.channel c.args.row.now row carry c.carry_more-carried.result c.energy_after.result answers.coarse
    band answers.bits answers.fine answers.last inv below
    c.answers_of-answers.ensures.bits c.answers_of-answers.ensures.coarse c.answers_of-answers.ensures.fine c.answers_of-answers.ensures.last
    value_is c.energy_after.ensures.energy c.carry_more-carried.ensures.value c.carry_more-carried.ensures.size)

pub energy_after-requires-clause-old : goal.energy_after-requires-clause-old
energy_after-requires-clause-old c =
    let inv = c.loop-band.invariant in
    let band = c.loop-band.band in
    let row : List ℤ = c.loop-band.row in
    let inside : band < length row =
    let room = inv.room in let e = c.args.terms.ended in let t = c.loop-band-test.true in let f = c.from-band-end.ensures in omega (arith, room, e, t, f) in
    let energy = All-get_or IsEnergy row band (pos 0) inside inv.energies in
    let o : FitsSigned w64 (get_or row band (pos 0)) = energy_type (get_or row band (pos 0)) energy in
    simp to_z-of_z energy

pub energy_after-requires-clause-carried : goal.energy_after-requires-clause-carried
energy_after-requires-clause-carried c =
    let s = c.loop-band.invariant.size in
    let e = c.args.terms.ended in
    let t = c.loop-band-test.true in
    let f = c.from-band-end.ensures in
    omega (arith, s, e, t, f)
