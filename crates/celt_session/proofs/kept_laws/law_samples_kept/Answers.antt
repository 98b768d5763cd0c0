use Rattle.celt_session.proofs.KeepingFrames.{encoding_kept}
use Rattle.celt_session.proofs.kept_laws.law_samples_kept.Goals as goal

pub returns : goal.returns
returns c = encoding_kept
