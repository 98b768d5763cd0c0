use Rattle.std.proofs.Common.{◌-◌, sym, ◌∙◌, arith}
use Rattle.band_shapes.specs.Frames.{starts_by}
use Rattle.band_shapes.proofs.PlanLemmas.{last_no, last_yes, last_end, by_true, by_false}
use Rattle.band_shapes.proofs.plans.last_by.Goals as goal

pub loop-k-preserved : goal.loop-k-preserved
loop-k-preserved c = c.loop-k.invariant ∙ last_no (starts_by c.args.kind c.args.place) c.loop-k.k (c.loop-k.k - 1) (omega arith) (by_false c.args.kind c.args.place (c.loop-k.k - 1) c.start_of.result c.start_of.ensures.value c.if-start_of-place.false)

pub returns-then-start_of-place-clause-value : goal.returns-then-start_of-place-clause-value
returns-then-start_of-place-clause-value c = sym (c.loop-k.invariant ∙ last_yes (starts_by c.args.kind c.args.place) c.loop-k.k (c.loop-k.k - 1) (omega arith) (by_true c.args.kind c.args.place (c.loop-k.k - 1) c.start_of.result c.start_of.ensures.value c.if-start_of-place.true))

pub returns-clause-value : goal.returns-clause-value
returns-clause-value c = sym (c.loop-k.invariant ∙ last_end (starts_by c.args.kind c.args.place) c.loop-k.k c.loop-k-test.false)
