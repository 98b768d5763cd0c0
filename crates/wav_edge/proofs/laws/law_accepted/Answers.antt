use Rattle.wav_edge.proofs.FileLaws.{accepted}
use Rattle.wav_edge.proofs.laws.law_accepted.Goals as goal

pub returns : goal.returns
returns c = accepted
