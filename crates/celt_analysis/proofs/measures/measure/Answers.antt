use Rattle.celt_analysis.specs.Signals.{blocks_of, is_stereo}
use Rattle.celt_analysis.proofs.MeasureLemmas.{targets_are, heights_are}
use Rattle.celt_analysis.proofs.measures.measure.Goals as goal

pub returns-clause-targets : goal.returns-clause-targets
returns-clause-targets c =
    targets_are (is_stereo c.args.kind) c.args.kind.end (blocks_of c.args.kind) c.args.left.now c.args.right.now c.row-left.result c.right_row-right.result c.row-left.ensures.value c.right_row-right.ensures.value

pub returns-clause-heights : goal.returns-clause-heights
returns-clause-heights c =
    heights_are (is_stereo c.args.kind) c.args.kind.end (blocks_of c.args.kind) c.args.left.now c.args.right.now c.row-left.result c.right_row-right.result c.heights.result c.row-left.ensures.value c.right_row-right.ensures.value c.heights.ensures.value
