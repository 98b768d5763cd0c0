use Rattle.wav_edge.proofs.SpellingLemmas.{spelling_read}
use Rattle.wav_edge.proofs.laws.law_spelling.Goals as goal

pub returns : goal.returns
returns c = spelling_read
