use Rattle.std.proofs.Common.{ap, sym, subst, ◌∙◌}
use Rattle.bit_allocation.specs.Plans.{plan_of, bits_of, boosted_top, reserves_of}
use Rattle.bit_allocation.specs.declared.plan.Reserves.{Reserves}
use Rattle.bit_allocation.specs.Facts.{IsPlan}
use Rattle.bit_allocation.proofs.PlanLemmas.{plan_with, plan_is}
use Rattle.bit_allocation.proofs.planning.plan_for.Goals as goal

pub returns-clause-value : goal.returns-clause-value
unfolding plan_of
returns-clause-value c =
    let r = c.args.bands.now.request in
    let k = r.kind in
    let v = c.reserves-reserves.result in
    ap (plan_with k v c.boosted_top.result) c.fitting-counted.ensures.bits
    ∙ ap (λ s. plan_with k v s (bits_of r v.rest)) c.boosted_top.ensures
    ∙ ap (λ (x : Reserves). plan_with k x (boosted_top r k.end) (bits_of r x.rest)) (c.reserves-reserves.ensures ∙ ap (reserves_of k) c.total_of.ensures)

pub returns-clause-is : goal.returns-clause-is
returns-clause-is c = subst IsPlan (sym (returns-clause-value c)) (plan_is c.args.bands.now.request c.args.bands.now.request_is)
