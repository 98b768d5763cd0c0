use Rattle.std.proofs.Common.{◌≡◌, ◌<◌, arith, subst}
use Rattle.celt_analysis.proofs.SpectrumLemmas.{AreBlocks, blocks_none, blocks_next, blocks_whole, blocks_sizes}
use Rattle.celt_analysis.proofs.transforms.transform_blocks.Goals as goal

pub loop-b-init : goal.loop-b-init
loop-b-init c = blocks_none c.args.values.now c.args.blocks c.args.out.now c.requires.out

pub loop-b-preserved : goal.loop-b-preserved
loop-b-preserved c =
    blocks_next c.args.values.now c.args.blocks c.loop-b.b c.transform_block.new.out c.loop-b.out c.spread.new.out c.loop-b-test.true c.transform_block.ensures.value c.transform_block.ensures.sizes c.spread.ensures c.loop-b.invariant

pub returns-clause-value : goal.returns-clause-value
returns-clause-value c =
    let e : c.loop-b.b ≡ c.args.blocks = omega (arith, c.loop-b-test.false, c.loop-b.auto.b-end) in
    let some : 0 < c.args.blocks = c.requires.some in
    blocks_whole c.args.values.now c.args.blocks c.loop-b.out some (subst (λ n. AreBlocks c.args.values.now c.args.blocks n c.loop-b.out) e c.loop-b.invariant)

pub returns-clause-sizes : goal.returns-clause-sizes
returns-clause-sizes c =
    let e : c.loop-b.b ≡ c.args.blocks = omega (arith, c.loop-b-test.false, c.loop-b.auto.b-end) in
    let some : 0 < c.args.blocks = c.requires.some in
    blocks_sizes c.args.values.now c.args.blocks c.loop-b.out some (subst (λ n. AreBlocks c.args.values.now c.args.blocks n c.loop-b.out) e c.loop-b.invariant)
