use Rattle.std.proofs.Common.{ap, ◌∙◌}
use Rattle.wav_edge.proofs.LawLemmas.{is_decided, outcome_stays}
use Rattle.wav_edge.proofs.laws.law_stays.Goals as goal

pub returns-clause-fault : goal.returns-clause-fault
returns-clause-fault c = λ bytes more fault e. outcome_stays bytes more (ap is_decided e) ∙ e

pub returns-clause-samples : goal.returns-clause-samples
returns-clause-samples c = λ bytes more channels rate size place e. outcome_stays bytes more (ap is_decided e) ∙ e
