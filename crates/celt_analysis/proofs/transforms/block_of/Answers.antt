use Rattle.std.proofs.Common.{◌∙◌, ap}
use Rattle.std.specs.Prelude.{take}
use Rattle.celt_analysis.proofs.SpectrumLemmas.{block_is}
use Rattle.celt_analysis.proofs.transforms.block_of.Goals as goal

pub returns-clause-value : goal.returns-clause-value
returns-clause-value c = c.split_at-2.ensures.front ∙ ap (take 240) c.split_at.ensures.back ∙ block_is c.args.values.now c.args.b c.requires.values
