use Rattle.celt_synth.proofs.FrameLemmas.{inverted_state, inverted_samples}
use Rattle.celt_synth.proofs.laws.law_inversion.Goals as goal

pub returns-clause-state : goal.returns-clause-state
returns-clause-state c = inverted_state

pub returns-clause-samples : goal.returns-clause-samples
returns-clause-samples c = inverted_samples
