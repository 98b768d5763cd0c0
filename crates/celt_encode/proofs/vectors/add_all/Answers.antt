use Rattle.std.proofs.Common.{◌^◌, arith, ◌+ℤ◌}
use Rattle.celt_encode.specs.Vectors.{sum_of}
use Rattle.celt_encode.proofs.MixSteps.{mixing_none, mixing_more, mixed_all, sum_small, mixed_small, wrapped_sum}
use Rattle.fixed_math.specs.Items.{item}
use Rattle.fixed_math.proofs.ItemLemmas.{item_within}
use Rattle.celt_encode.proofs.vectors.add_all.Goals as goal

pub loop-i-init : goal.loop-i-init
loop-i-init c = mixing_none (λ a b. a +ℤ b) c.args.l.now c.args.r.now c.args.out.now c.requires.room

pub loop-i-preserved : goal.loop-i-preserved
loop-i-preserved c =
    let i = c.loop-i.i in
    mixing_more (λ a b. a +ℤ b) c.args.l.now c.args.r.now c.loop-i.out i _ (let e = c.loop-i.auto.out in let t = c.loop-i-test.true in omega (arith, e, t))
    (wrapped_sum (item c.args.l.now i) (item c.args.r.now i) (item_within c.args.l.now (2 ^ 14) i c.requires.ls) (item_within c.args.r.now (2 ^ 14) i c.requires.rs))
    c.loop-i.invariant

pub returns-clause-value : goal.returns-clause-value
unfolding sum_of
returns-clause-value c = mixed_all (λ a b. a +ℤ b) c.args.l.now c.args.r.now c.loop-i.out c.loop-i.i (omega arith) c.loop-i.invariant

pub returns-clause-small : goal.returns-clause-small
returns-clause-small c =
    mixed_small (λ a b. a +ℤ b) c.args.l.now c.args.r.now c.loop-i.out c.loop-i.i sum_small (omega arith) c.requires.ls c.requires.rs c.loop-i.invariant
