use Rattle.tf_change.proofs.HaarLemmas.{haar_growth}
use Rattle.tf_change.proofs.laws.law_haar_growth.Goals as goal

pub returns : goal.returns
returns c = haar_growth
