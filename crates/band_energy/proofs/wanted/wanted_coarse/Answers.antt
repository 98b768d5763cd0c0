use Rattle.std.proofs.Common.{◌^◌, pos, ◌+ℤ◌, ◌-ℤ◌, ◌*ℤ◌, ap, ◌∙◌}
use Rattle.std.specs.Int.{int_shr}
use Rattle.band_energy.specs.WantedEnergies.{wanted_coarse}
use Rattle.band_energy.proofs.wanted.wanted_coarse.Goals as goal

pub returns : goal.returns
unfolding wanted_coarse
returns c =
    c.steps_between.ensures
    ∙ ap (λ p. int_shr (c.args.target.value *ℤ pos 128 -ℤ p +ℤ pos (2 ^ 16)) 17) c.predicted.ensures.value
