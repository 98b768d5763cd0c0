use Rattle.wav_edge.proofs.FileLaws.{refused}
use Rattle.wav_edge.proofs.laws.law_refused.Goals as goal

pub returns : goal.returns
returns c = refused
