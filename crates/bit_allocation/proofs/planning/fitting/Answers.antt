use Rattle.std.proofs.Common.{◌≡◌, ◌<◌, ℕ, ap, sym, ◌∙◌}
use Rattle.std.specs.Prelude.{slice_index}
use Rattle.bit_allocation.specs.Counts.{count_of, stepped_of, step_of, sum_below}
use Rattle.bit_allocation.specs.Plans.{bands_to}
use Rattle.bit_allocation.proofs.AmountLemmas.{band_inside}
use Rattle.bit_allocation.proofs.CountLemmas.{count_same}
use Rattle.bit_allocation.proofs.PlanLemmas.{bands_same, counts_read}
use Rattle.bit_allocation.proofs.SearchLemmas.{stepped_at}
use Rattle.bit_allocation.proofs.planning.fitting.Goals as goal

pub returns-clause-bits : goal.returns-clause-bits
returns-clause-bits c =
    let r = c.args.bands.now.request in
    let rest = c.args.rest in
    let q = c.quality-quality.result in
    let amounts : (b : ℕ) → b < r.kind.end → slice_index c.stepped.result b ≡ stepped_of r q c.step.result b =
    λ b below. stepped_at r q c.step.result c.between-rise.result.firsts c.between-rise.result.seconds c.stepped.result b
    (c.between-rise.ensures.firsts b below) (c.between-rise.ensures.seconds b below) (c.stepped.ensures b (band_inside r.kind b below)) in
    c.count.ensures.bits
    ∙ bands_same r.kind.end (count_of r.kind (slice_index c.stepped.result)) (count_of r.kind (stepped_of r q c.step.result))
    (λ b below. count_same r.kind (slice_index c.stepped.result) (stepped_of r q c.step.result) b below amounts)
    ∙ ap (λ s. bands_to r.kind.end (count_of r.kind (stepped_of r q s))) c.step.ensures.value
    ∙ ap (λ x. bands_to r.kind.end (count_of r.kind (stepped_of r x (step_of r x rest)))) c.quality-quality.ensures.value

pub returns-clause-sum : goal.returns-clause-sum
returns-clause-sum c =
    let r = c.args.bands.now.request in
    c.count.ensures.sum
    ∙ counts_read r.kind (slice_index c.stepped.result)
    ∙ ap (λ bits. sum_below (slice_index bits) r.kind.end) (sym c.count.ensures.bits)
