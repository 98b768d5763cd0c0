use Rattle.pulse_vectors.proofs.RowSteps.{row-empty}
use Rattle.pulse_vectors.proofs.row.empty_counts.Goals as goal

pub returns : goal.returns
returns c = row-empty 4096
