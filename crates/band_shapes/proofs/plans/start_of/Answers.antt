use Rattle.std.proofs.Common.{◌≤◌, subst, sym}
use Rattle.band_shapes.proofs.PlanLemmas.{start_is, start_most}
use Rattle.band_shapes.proofs.plans.start_of.Goals as goal

pub returns-clause-value : goal.returns-clause-value
returns-clause-value c = start_is c.args.kind c.args.i c.edge.result c.edge.ensures c.requires

pub returns-clause-most : goal.returns-clause-most
returns-clause-most c = subst (λ z. z ≤ 800) (sym (start_is c.args.kind c.args.i c.edge.result c.edge.ensures c.requires)) (start_most c.args.kind c.args.i c.requires)
