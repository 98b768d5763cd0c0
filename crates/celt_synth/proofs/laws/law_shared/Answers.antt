use Rattle.std.proofs.Common.{refl}
use Rattle.celt_synth.specs.Shared.{share_concealed}
use Rattle.celt_synth.specs.Steps.{conceal, state_after, made_concealed}
use Rattle.celt_synth.proofs.StepLemmas.{step_shared}
use Rattle.celt_synth.proofs.laws.law_shared.Goals as goal

pub returns-clause-read : goal.returns-clause-read
returns-clause-read c = step_shared

pub returns-clause-concealed : goal.returns-clause-concealed
unfolding share_concealed conceal state_after made_concealed
returns-clause-concealed c = λ stream kind gain s. refl
