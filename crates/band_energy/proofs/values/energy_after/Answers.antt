use Rattle.std.proofs.Common.{◌≡◌, w32, w64, FitsSigned, ◌+ℤ◌, ap, arith, ◌∙◌}
use Rattle.std.proofs.lemmas.Int.{to_z-of_z, ints, fits_signed_from_abs}
use Rattle.band_energy.specs.EnergyValues.{coarse_of, fine_of}
use Rattle.band_energy.proofs.values.energy_after.Goals as goal

pub returns-clause-value : goal.returns-clause-value
returns-clause-value c =
    let answers = c.args.answers in
    let o = c.ranges.old in
    let r = c.ranges.carried in
    let a : FitsSigned w64 c.coarse_energy.result = record { sfits = c.coarse_energy.type_inv } in
    let f : FitsSigned w64 c.fine_part.result = record { sfits = c.fine_part.type_inv } in
    let l : FitsSigned w64 c.last_part.result = record { sfits = c.last_part.type_inv } in
    let v : FitsSigned w32 answers.coarse = fits_signed_from_abs w32 answers.coarse (let s = answers.small in omega (arith, s)) in
    let a_low = c.coarse_energy.ensures.least in
    let a_high = c.coarse_energy.ensures.most in
    let f_low = c.fine_part.ensures.least in
    let f_high = c.fine_part.ensures.most in
    let l_low = c.last_part.ensures.least in
    let l_high = c.last_part.ensures.most in
    let is_coarse : c.coarse_energy.result ≡ coarse_of c.args.alpha c.args.old c.args.carried answers.coarse = simp to_z-of_z at c.coarse_energy.ensures.value in
    let first : FitsSigned w64 (c.coarse_energy.result +ℤ c.fine_part.result) =
    fits_signed_from_abs w64 (c.coarse_energy.result +ℤ c.fine_part.result) (omega (arith, ints, a_low, a_high, f_low, f_high)) in
    let second : FitsSigned w64 (c.coarse_energy.result +ℤ c.fine_part.result +ℤ c.last_part.result) =
    fits_signed_from_abs w64 (c.coarse_energy.result +ℤ c.fine_part.result +ℤ c.last_part.result) (omega (arith, ints, a_low, a_high, f_low, f_high, l_low, l_high)) in
    simp to_z-of_z
    (ap (λ x. x +ℤ c.fine_part.result +ℤ c.last_part.result) is_coarse
    ∙ ap (λ x. coarse_of c.args.alpha c.args.old c.args.carried answers.coarse +ℤ x +ℤ c.last_part.result) c.fine_part.ensures.value
    ∙ ap (λ x. coarse_of c.args.alpha c.args.old c.args.carried answers.coarse +ℤ fine_of answers.bits answers.fine +ℤ x) c.last_part.ensures.value)
