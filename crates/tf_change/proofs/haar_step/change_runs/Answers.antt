use Rattle.std.proofs.Common.{◌≡◌, ◌<◌, ◌+◌, ◌^◌, arith, subst, sym, ℕ}
use Rattle.std.specs.Prelude.{unsigned_abs}
use Rattle.fixed_math.specs.Items.{item}
use Rattle.tf_change.proofs.HaarLemmas.{runs_start, runs_more}
use Rattle.tf_change.proofs.haar_step.change_runs.Goals as goal

pub loop-k-init : goal.loop-k-init
loop-k-init c = runs_start c.args.stride c.args.base c.args.x.now

pub loop-k-preserved : goal.loop-k-preserved
loop-k-preserved c =
    let r = c.change_pair.ensures in
    runs_more c.args.stride c.args.base c.loop-k.k c.args.x.now c.loop-k.x c.change_pair.new.x (omega arith) c.loop-k.invariant r.sum r.difference r.others

pub change_pair-requires-clause-low_size : goal.change_pair-requires-clause-low_size
change_pair-requires-clause-low_size c =
    let p : ℕ = c.args.base + c.loop-k.k in
    let e : item c.loop-k.x p ≡ item c.args.x.now p = c.loop-k.invariant.between p (omega arith) (omega arith) in
    subst (λ v. unsigned_abs v < 2 ^ 40) (sym e) (c.requires.items p (omega arith))

pub change_pair-requires-clause-high_size : goal.change_pair-requires-clause-high_size
change_pair-requires-clause-high_size c =
    let p : ℕ = c.args.base + c.args.stride + c.loop-k.k in
    let e : item c.loop-k.x p ≡ item c.args.x.now p = c.loop-k.invariant.behind p (omega arith) in
    subst (λ v. unsigned_abs v < 2 ^ 40) (sym e) (c.requires.items p (omega arith))

pub returns-clause-sums : goal.returns-clause-sums
returns-clause-sums c = λ i h. c.loop-k.invariant.sums i (omega arith)

pub returns-clause-differences : goal.returns-clause-differences
returns-clause-differences c = λ i h. c.loop-k.invariant.differences i (omega arith)

pub returns-clause-before : goal.returns-clause-before
returns-clause-before c = c.loop-k.invariant.before

pub returns-clause-behind : goal.returns-clause-behind
returns-clause-behind c = λ p h. c.loop-k.invariant.behind p (omega arith)
