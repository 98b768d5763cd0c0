use Rattle.std.proofs.Common.{sym, ◌∙◌, arith}
use Rattle.band_shapes.specs.Frames.{starts_from}
use Rattle.band_shapes.proofs.PlanLemmas.{first_no, first_yes, first_end, from_true, from_false}
use Rattle.band_shapes.proofs.plans.first_from.Goals as goal

pub loop-k-preserved : goal.loop-k-preserved
loop-k-preserved c = c.loop-k.invariant ∙ first_no (starts_from c.args.kind c.args.place) c.loop-k.k c.loop-k-test.true (from_false c.args.kind c.args.place c.loop-k.k c.start_of.result c.start_of.ensures.value c.if-start_of-place.false)

pub returns-then-start_of-place-clause-value : goal.returns-then-start_of-place-clause-value
returns-then-start_of-place-clause-value c = sym (c.loop-k.invariant ∙ first_yes (starts_from c.args.kind c.args.place) c.loop-k.k c.loop-k-test.true (from_true c.args.kind c.args.place c.loop-k.k c.start_of.result c.start_of.ensures.value c.if-start_of-place.true))

pub returns-clause-value : goal.returns-clause-value
returns-clause-value c = sym (c.loop-k.invariant ∙ first_end (starts_from c.args.kind c.args.place) c.loop-k.k (omega (arith, c.loop-k-test.false, c.loop-k.auto.k-end c.requires)))
