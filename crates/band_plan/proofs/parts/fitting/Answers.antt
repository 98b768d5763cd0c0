use Rattle.std.proofs.Common.{◌≤◌, ◌-◌, arith}
use Rattle.std.specs.Prelude.{pos, ◌≤ℤ◌, ◌<ℤ◌}
use Rattle.std.proofs.lemmas.Int.{ints}
use Rattle.band_plan.proofs.LeafSteps.{fitting_here, fitting_next, fitting_none}
use Rattle.band_plan.proofs.parts.fitting.Goals as goal

pub returns-then-cost-share-clause-value : goal.returns-then-cost-share-clause-value
returns-then-cost-share-clause-value c =
    let low : pos c.cost.result ≤ℤ c.args.share.left = grind (arith, ints, c.if-cost-share.true, c.cost.ensures.most, c.requires.left) in
    fitting_here c.args.n c.loop-q.q c.cost.result c.args.index c.args.share.left c.loop-q-test.true c.cost.ensures.exact low c.loop-q.invariant.0

pub loop-q-preserved : goal.loop-q-preserved
loop-q-preserved c =
    let high : c.args.share.left <ℤ pos c.cost.result = grind (arith, ints, c.if-cost-share.false, c.cost.ensures.most, c.requires.left) in
    let l : c.loop-q.q - 1 ≤ c.args.index = let b = c.loop-q.invariant.1 in omega (arith, b) in
    (fitting_next c.args.n c.loop-q.q c.cost.result c.args.index c.args.share.left c.loop-q-test.true c.cost.ensures.exact high c.loop-q.invariant.0, l)

pub returns-clause-value : goal.returns-clause-value
returns-clause-value c =
    let t = c.loop-q-test.false in
    fitting_none c.args.n c.loop-q.q c.args.index c.args.share.left (omega (arith, t)) c.loop-q.invariant.0
