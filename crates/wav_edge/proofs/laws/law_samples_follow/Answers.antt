use Rattle.std.proofs.Common.{◌≤◌, ◌++◌, ℕ, List, length, ap, subst, ◌∙◌}
use Rattle.std.proofs.lemmas.List.{drop-append-le}
use Rattle.wav_edge.specs.Reading.{Outcome, samples, sample_bytes, within_size}
use Rattle.wav_edge.specs.Reading.Outcome.{Started}
use Rattle.wav_edge.specs.Samples.{samples_of}
use Rattle.wav_edge.proofs.LawLemmas.{is_decided, outcome_stays, IsSound, outcome_sound}
use Rattle.wav_edge.proofs.laws.law_samples_follow.Goals as goal

pub returns : goal.returns
unfolding samples
returns c = λ bytes more channels rate size place e.
    let sound : IsSound (length bytes) (Started channels rate size place) = subst (IsSound (length bytes)) e (outcome_sound bytes) in
    let there : place ≤ length bytes = sound.1 in
    ap (λ (o : Outcome). samples_of (sample_bytes o (bytes ++ more))) (outcome_stays bytes more (ap is_decided e) ∙ e)
    ∙ ap (λ (rest : List ℕ). samples_of (within_size size rest)) (drop-append-le place bytes more there)
