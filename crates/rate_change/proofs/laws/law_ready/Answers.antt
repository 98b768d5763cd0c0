use Rattle.rate_change.proofs.OutputLemmas.{ready_kept}
use Rattle.rate_change.proofs.laws.law_ready.Goals as goal

pub returns : goal.returns
returns c = ready_kept
