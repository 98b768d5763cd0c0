use Rattle.std.proofs.Common.{◌≡◌, ◌≤◌, ◌<◌, ◌+◌, ◌*◌, ◌/◌, ◌^◌, arith, subst, sym}
use Rattle.std.specs.Prelude.{unsigned_abs, All}
use Rattle.tf_change.specs.Haar.{haar_of}
use Rattle.tf_change.proofs.HaarLemmas.{pairs_start, pairs_more, pairs_within, pairs_end, haar_growth, runs_changed}
use Rattle.fixed_math.proofs.ItemLemmas.{item_below}
use Rattle.tf_change.proofs.haar_step.haar.Goals as goal

pub loop-j-init : goal.loop-j-init
loop-j-init c = pairs_start c.args.stride c.args.x.now

pub loop-j-preserved : goal.loop-j-preserved
loop-j-preserved c =
    let r = c.change_runs.ensures in
    pairs_more c.args.stride c.loop-j.j c.args.x.now c.loop-j.x c.change_runs.new.x c.loop-j.invariant
    (runs_changed c.args.stride (2 * c.args.stride * c.loop-j.j) c.loop-j.x c.change_runs.new.x r.sums r.differences r.before r.behind)

pub change_runs-requires-clause-within : goal.change_runs-requires-clause-within
change_runs-requires-clause-within c = omega (arith, pairs_within c.args.n c.loop-j.j c.args.stride (omega arith))

pub change_runs-requires-clause-items : goal.change_runs-requires-clause-items
change_runs-requires-clause-items c = λ p h.
    subst (λ v. unsigned_abs v < 2 ^ 40) (sym (c.loop-j.invariant.above p h)) (item_below c.args.x.now (2 ^ 40) p (omega arith) c.requires.items)

pub returns-clause-value : goal.returns-clause-value
returns-clause-value c =
    pairs_end c.args.n c.args.stride c.loop-j.j c.args.x.now c.loop-j.x c.requires.pairs c.requires.runs (omega arith) (omega arith) c.loop-j.invariant

pub returns-clause-growth : goal.returns-clause-growth
returns-clause-growth c = λ m h.
    let e : c.loop-j.x ≡ haar_of c.args.stride c.args.x.now = pairs_end c.args.n c.args.stride c.loop-j.j c.args.x.now c.loop-j.x c.requires.pairs c.requires.runs (omega arith) (omega arith) c.loop-j.invariant in
    subst (λ ys. All (λ v. unsigned_abs v ≤ m + m / 2 + 1) ys) (sym e) (haar_growth c.args.x.now c.args.stride m h)
