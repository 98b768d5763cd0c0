use Rattle.rate_change.proofs.OutputLemmas.{whole_kept}
use Rattle.rate_change.proofs.laws.law_whole.Goals as goal

pub returns : goal.returns
returns c = whole_kept
