use Rattle.band_plan.proofs.NodeLaws.{band_nodes}
use Rattle.band_plan.proofs.laws.law_nodes.Goals as goal

pub returns : goal.returns
returns c = band_nodes
