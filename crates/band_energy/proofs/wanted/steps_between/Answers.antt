use Rattle.std.proofs.Common.{refl}
use Rattle.std.proofs.lemmas.Int.{to_z-of_z}
use Rattle.band_energy.proofs.WantedSteps.{steps_fit}
use Rattle.band_energy.proofs.wanted.steps_between.Goals as goal

pub returns : goal.returns
returns c =
    let fits = steps_fit c.args.target.value c.args.predicted.value c.requires.target c.requires.least c.requires.most in
    let t = fits.target_fits in
    let p = fits.predicted_fits in
    let m = fits.product in
    let b = fits.between in
    let s = fits.sum in
    let r = fits.steps in
    simp to_z-of_z refl
