use Rattle.wav_edge.proofs.SpellingLemmas.{early_read, second_read, half_read, ended_read}
use Rattle.wav_edge.proofs.laws.law_broken.Goals as goal

pub returns-clause-early : goal.returns-clause-early
returns-clause-early c = early_read

pub returns-clause-second : goal.returns-clause-second
returns-clause-second c = second_read

pub returns-clause-half : goal.returns-clause-half
returns-clause-half c = half_read

pub returns-clause-ended : goal.returns-clause-ended
returns-clause-ended c = ended_read
