use Rattle.std.proofs.Common.{◌≡◌, ◌^◌, [], get_or, pos, ◌+ℤ◌, ◌*ℤ◌, ap, ◌∙◌}
use Rattle.band_energy.specs.EnergyValues.{energy_from}
use Rattle.band_energy.specs.WantedEnergies.{predicted, energy_by_coarse}
use Rattle.band_energy.proofs.wanted.energy_by_coarse.Goals as goal

pub returns-clause-value : goal.returns-clause-value
unfolding energy_by_coarse
returns-clause-value c =
    let at = c.args.at in
    let steps = c.steps_of-steps.result.value in
    let steps_is : steps ≡ get_or (get_or c.args.coarse.now at.channel []) at.band (pos 0) =
    c.steps_of-steps.ensures
    ∙ ap (λ x. get_or (get_or c.args.coarse.now x []) c.from-2.result (pos 0)) c.from.ensures
    ∙ ap (λ x. get_or (get_or c.args.coarse.now at.channel []) x (pos 0)) c.from-2.ensures in
    c.energy_with.ensures.value
    ∙ ap (λ p. energy_from (p +ℤ steps *ℤ pos (2 ^ 17))) c.predicted.ensures.value
    ∙ ap (λ q. energy_from (predicted at.kind at.intra c.args.old.now c.args.coarse.now at.channel at.band +ℤ q *ℤ pos (2 ^ 17))) steps_is
