use Rattle.std.proofs.Common.{◌≡◌, ◌-◌, suc, subst, arith}
use Rattle.band_shapes.specs.Channels.{mask_folded}
use Rattle.band_shapes.proofs.ChangeLemmas.{fold_next, most_before, blocks_most}
use Rattle.band_shapes.proofs.change.mask_folded.Goals as goal

pub doubled-requires-clause-n : goal.doubled-requires-clause-n
doubled-requires-clause-n c = blocks_most c.args.blocks c.args.steps c.requires.most

pub overflow_shr-all : goal.overflow_shr-all
overflow_shr-all c = omega (arith, c.doubled.ensures, most_before c.args.blocks (c.loop-k.k - 1) c.args.steps (omega (arith, c.loop-k.auto.k, c.loop-k-test.true)) c.requires.most)

pub loop-k-preserved : goal.loop-k-preserved
loop-k-preserved c =
    let e : c.loop-k.k ≡ suc (c.loop-k.k - 1) = omega arith in
    let before = subst (λ z. mask_folded c.args.blocks z c.loop-k.all ≡ mask_folded c.args.blocks c.args.steps c.args.mask) e c.loop-k.invariant.0 in
    fold_next c.args.blocks (c.loop-k.k - 1) c.loop-k.all c.doubled.result _ c.doubled.ensures c.loop-k.invariant.1 before
