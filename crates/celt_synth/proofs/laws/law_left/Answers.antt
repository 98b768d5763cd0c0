use Rattle.celt_synth.proofs.LeftLemmas.{step_state, step_samples, conceal_state, conceal_samples}
use Rattle.celt_synth.proofs.laws.law_left.Goals as goal

pub returns-clause-state : goal.returns-clause-state
returns-clause-state c = step_state

pub returns-clause-samples : goal.returns-clause-samples
returns-clause-samples c = step_samples

pub returns-clause-concealed_state : goal.returns-clause-concealed_state
returns-clause-concealed_state c = conceal_state

pub returns-clause-concealed_samples : goal.returns-clause-concealed_samples
returns-clause-concealed_samples c = conceal_samples
