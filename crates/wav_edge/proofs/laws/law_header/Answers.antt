use Rattle.wav_edge.proofs.SpellingLemmas.{header_read}
use Rattle.wav_edge.proofs.laws.law_header.Goals as goal

pub returns : goal.returns
returns c = λ channels more few. header_read channels few more
