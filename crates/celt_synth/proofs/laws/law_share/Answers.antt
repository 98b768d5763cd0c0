use Rattle.celt_synth.proofs.SharingLemmas.{begins, shares}
use Rattle.celt_synth.proofs.laws.law_share.Goals as goal

pub returns-clause-start : goal.returns-clause-start
returns-clause-start c = begins

pub returns-clause-same : goal.returns-clause-same
returns-clause-same c = shares
