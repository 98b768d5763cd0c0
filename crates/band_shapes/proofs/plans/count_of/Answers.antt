use Rattle.std.proofs.Common.{◌≤◌, subst, sym}
use Rattle.band_shapes.proofs.PlanLemmas.{count_is, count_most}
use Rattle.band_shapes.proofs.plans.count_of.Goals as goal

pub returns-clause-value : goal.returns-clause-value
returns-clause-value c = count_is c.args.kind c.args.i c.width.result c.width.ensures.value c.width.ensures.most

pub returns-clause-most : goal.returns-clause-most
returns-clause-most c =
    subst (λ z. z ≤ 176) (sym (count_is c.args.kind c.args.i c.width.result c.width.ensures.value c.width.ensures.most))
    (count_most c.args.kind c.args.i c.width.result c.width.ensures.value c.width.ensures.most)
