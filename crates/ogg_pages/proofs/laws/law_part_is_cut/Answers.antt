use Rattle.ogg_pages.proofs.Spelled.{prefix_need}
use Rattle.ogg_pages.proofs.laws.law_part_is_cut.Goals as goal

pub returns : goal.returns
returns c = prefix_need
