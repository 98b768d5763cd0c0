use Rattle.celt_analysis.proofs.SpectrumLemmas.{AreBlocks}
use Rattle.celt_analysis.proofs.transforms.transform_blocks.Given as goal

abbrev pub invariant-loop-b : goal.invariant-loop-b
invariant-loop-b l = AreBlocks l.values l.blocks l.b l.out
