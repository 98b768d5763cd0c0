use Rattle.std.proofs.Common.{◌∙◌, ap}
use Rattle.mdct_fixed.specs.Mdct.{forward_of}
use Rattle.celt_analysis.proofs.transforms.transform_block.Goals as goal

pub returns-clause-value : goal.returns-clause-value
returns-clause-value c = c.forward_with.ensures.value ∙ ap (λ k. forward_of k c.block_of-block.result.now) c.requires.out ∙ ap (forward_of 120) c.block_of-block.ensures.value
