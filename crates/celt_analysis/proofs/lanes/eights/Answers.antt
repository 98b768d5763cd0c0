use Rattle.std.proofs.Common.{◌≡◌, ◌*◌, ap, arith, ◌∙◌}
use Rattle.std.specs.Int.{w32, int_wrap}
use Rattle.fixed_math.specs.Items.{item}
use Rattle.celt_analysis.specs.Sums.{correlation}
use Rattle.celt_analysis.proofs.LaneLemmas.{lanes-none, lanes-more, lanes-all}
use Rattle.celt_analysis.proofs.lanes.eights.Goals as goal

pub loop-k-init : goal.loop-k-init
loop-k-init c = lanes-none (item c.args.s.now) c.args.i c.args.j

pub loop-k-preserved : goal.loop-k-preserved
loop-k-preserved c = rw c.loop-k.invariant (rw c.pairs-sum.ensures (lanes-more (item c.args.s.now) c.args.i c.args.j c.loop-k.k))

pub returns : goal.returns
returns c =
    let e : c.loop-k.k ≡ c.args.count = omega (arith, c.loop-k.auto) in
    rw c.loop-k.invariant (lanes-all (item c.args.s.now) c.args.i c.args.j c.loop-k.k ∙ ap (λ n. int_wrap w32 (correlation (item c.args.s.now) (item c.args.s.now) c.args.i c.args.j (8 * n))) e)
