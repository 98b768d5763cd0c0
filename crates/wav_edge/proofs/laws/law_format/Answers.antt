use Rattle.std.proofs.Common.{length, subst}
use Rattle.wav_edge.specs.Reading.Outcome.{Started}
use Rattle.wav_edge.proofs.LawLemmas.{IsSound, outcome_sound}
use Rattle.wav_edge.proofs.ReaderLemmas.{readable_bounds, readable_cases}
use Rattle.wav_edge.proofs.laws.law_format.Goals as goal

pub returns-clause-fault : goal.returns-clause-fault
returns-clause-fault c = λ bytes fault e. subst (IsSound (length bytes)) e (outcome_sound bytes)

pub returns-clause-samples : goal.returns-clause-samples
returns-clause-samples c = λ bytes channels rate size place e.
    let sound : IsSound (length bytes) (Started channels rate size place) = subst (IsSound (length bytes)) e (outcome_sound bytes) in
    (readable_cases channels rate sound.0, (readable_bounds channels rate sound.0).2, sound.1)
