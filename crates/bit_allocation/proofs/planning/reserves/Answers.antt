use Rattle.std.proofs.Common.{◌∙◌, ◌-◌, ap}
use Rattle.bit_allocation.specs.Plans.{reserves_of, intensity_reserve, dual_reserve}
use Rattle.bit_allocation.proofs.PlanLemmas.{reserves_with}
use Rattle.bit_allocation.proofs.planning.reserves.Goals as goal

pub returns : goal.returns
unfolding reserves_of
returns c =
    let t = c.args.total in
    let k = c.args.kind in
    let s = c.skip_reserve-skip.result in
    let h = c.intensity_reserve-intensity.result in
    ap (reserves_with t s h) c.dual_reserve-dual.ensures.value
    ∙ ap (λ x. reserves_with t s x (dual_reserve x (t - s - x))) c.intensity_reserve-intensity.ensures.value
    ∙ ap (λ x. reserves_with t x (intensity_reserve k (t - x)) (dual_reserve (intensity_reserve k (t - x)) (t - x - intensity_reserve k (t - x)))) c.skip_reserve-skip.ensures.value
