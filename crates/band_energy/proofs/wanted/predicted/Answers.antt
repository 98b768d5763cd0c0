use Rattle.std.proofs.Common.{◌≡◌, w64, FitsSigned, ℤ, [], get_or, pos, ◌+ℤ◌, ap, arith, ◌∙◌}
use Rattle.std.proofs.lemmas.Int.{to_z-of_z, ints, fits_signed_from_abs}
use Rattle.band_energy.specs.EnergyValues.{alpha_of, beta_of, carried, kept_of}
use Rattle.band_energy.specs.WantedEnergies.{predicted}
use Rattle.band_energy.proofs.wanted.predicted.Goals as goal

pub returns-clause-value : goal.returns-clause-value
unfolding predicted
returns-clause-value c =
    let at = c.args.at in
    let kept = c.kept_from-kept.result.value in
    let carry = c.carried_to-carried.result.value in
    let low = c.kept_from-kept.ensures.least in
    let high = c.kept_from-kept.ensures.most in
    let size = c.carried_to-carried.ensures.size in
    let k : FitsSigned w64 kept = fits_signed_from_abs w64 kept (omega (arith, ints, low, high)) in
    let r : FitsSigned w64 carry = fits_signed_from_abs w64 carry (omega (arith, size)) in
    let s : FitsSigned w64 (kept +ℤ carry) = fits_signed_from_abs w64 (kept +ℤ carry) (omega (arith, ints, low, high, size)) in
    let before : ℤ = get_or (get_or c.args.old.now at.channel []) at.band (pos 0) in
    let kept_is : kept ≡ kept_of (alpha_of at.kind.lm at.intra) before =
    c.kept_from-kept.ensures.value
    ∙ ap (λ x. kept_of x c.energy_before-before.result.value) c.alpha.ensures.value
    ∙ ap (kept_of (alpha_of at.kind.lm at.intra)) c.energy_before-before.ensures.value in
    let carry_is : carry ≡ carried (beta_of at.kind.lm at.intra) (get_or c.args.coarse.now at.channel []) at.band =
    c.carried_to-carried.ensures.value
    ∙ ap (λ x. carried x (get_or c.args.coarse.now c.from.result []) c.from-2.result) c.beta.ensures.value
    ∙ ap (λ x. carried (beta_of at.kind.lm at.intra) (get_or c.args.coarse.now x []) c.from-2.result) c.from.ensures
    ∙ ap (carried (beta_of at.kind.lm at.intra) (get_or c.args.coarse.now at.channel [])) c.from-2.ensures in
    simp to_z-of_z (ap (λ x. x +ℤ carry) kept_is ∙ ap (λ x. kept_of (alpha_of at.kind.lm at.intra) before +ℤ x) carry_is)
