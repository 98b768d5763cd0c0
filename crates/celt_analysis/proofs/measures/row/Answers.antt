use Rattle.celt_analysis.proofs.MeasureLemmas.{row_is}
use Rattle.celt_analysis.proofs.measures.row.Goals as goal

pub returns-clause-value : goal.returns-clause-value
returns-clause-value c = row_is _ c.args.kind.end _ _ c.args.spectrum.now c.targets.result c.from.ensures c.blocks-2.ensures.value c.targets.ensures.value
