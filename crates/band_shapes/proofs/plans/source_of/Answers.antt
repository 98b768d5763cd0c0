use Rattle.std.proofs.Common.{ap, ◌∙◌, take}
use Rattle.band_shapes.proofs.PlanLemmas.{source_some, source_empty}
use Rattle.band_shapes.proofs.plans.source_of.Goals as goal

pub returns-then-span : goal.returns-then-span
returns-then-span c = c.split_at-then-span.ensures.front ∙ (ap (take c.args.span.count) c.split_at.ensures.back ∙ source_some c.args.span c.args.norm.now c.if-span.true)

pub returns : goal.returns
returns c = c.split_at-2.ensures.front ∙ source_empty c.args.span c.args.norm.now c.if-span.false
