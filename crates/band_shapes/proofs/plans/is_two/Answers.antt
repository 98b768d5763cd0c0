use Rattle.std.proofs.Common.{sym, ◌∙◌}
use Rattle.band_shapes.proofs.PlanLemmas.{two_own, two_mono, two_one}
use Rattle.band_shapes.specs.Frames.{symbols_of}
use Rattle.band_shapes.proofs.plans.is_two.Goals as goal

pub returns-then-is_own : goal.returns-then-is_own
returns-then-is_own c = two_own c.args.kind (symbols_of c.args.s.now) c.args.i (sym c.is_own.ensures ∙ c.if-is_own.true)

pub returns-then-kind-ne2 : goal.returns-then-kind-ne2
returns-then-kind-ne2 c = two_mono c.args.kind (symbols_of c.args.s.now) c.args.i (sym c.is_own.ensures ∙ c.if-is_own.false) c.if-kind-ne2.true

pub returns : goal.returns
returns c = two_one c.args.kind (symbols_of c.args.s.now) c.args.i c.count_of.result (sym c.is_own.ensures ∙ c.if-is_own.false) c.if-kind-ne2.false c.count_of.ensures.value
