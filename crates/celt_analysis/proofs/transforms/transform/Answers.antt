use Rattle.celt_analysis.proofs.SpectrumLemmas.{frame_spectrum}
use Rattle.celt_analysis.proofs.transforms.transform.Goals as goal

pub returns-clause-value : goal.returns-clause-value
returns-clause-value c = frame_spectrum c.args.values.now c.transform_frame.new.out c.args.blocks.count _ c.args.blocks.transient c.requires.out c.if-blocks.false c.transform_frame.ensures.value
