use Rattle.std.proofs.Common.{ℕ, ◌≤◌, ◌∙◌, ap, subst, arith}
use Rattle.std.proofs.lemmas.Bool.{leb-true}
use Rattle.pulse_vectors.specs.Costs.{pulses_at, last_of}
use Rattle.pulse_vectors.proofs.CostSteps.{index-fits}
use Rattle.pulse_vectors.proofs.RankSteps.{count-rises}
use Rattle.celt_encode.proofs.leaves.can_have.Goals as goal

pub returns-then-k-ge1-clause-fits : goal.returns-then-k-ge1-clause-fits
returns-then-k-ge1-clause-fits c is =
    let n : ℕ = c.args.n in
    let k : ℕ = c.args.k in
    let within : k ≤ pulses_at (last_of n) =
    subst (λ most. k ≤ most) (c.pulses_of.ensures.exact ∙ ap pulses_at c.last_index.ensures.exact) (leb-true k c.pulses_of.result is) in
    let fits = index-fits n (last_of n) (omega arith) (omega arith) in
    let rises = count-rises n k (pulses_at (last_of n)) (omega arith) within in
    omega (arith, fits, rises)
