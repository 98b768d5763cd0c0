use Rattle.wav_edge.proofs.SampleLemmas.{samples_of-bytes_of, bytes_of-samples_of}
use Rattle.wav_edge.proofs.laws.law_inverse.Goals as goal

pub returns-clause-samples : goal.returns-clause-samples
returns-clause-samples c = samples_of-bytes_of

pub returns-clause-bytes : goal.returns-clause-bytes
returns-clause-bytes c = bytes_of-samples_of
