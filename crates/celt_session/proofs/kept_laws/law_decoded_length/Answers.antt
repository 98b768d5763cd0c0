use Rattle.celt_session.proofs.KeepingSamples.{decoded_len}
use Rattle.celt_session.proofs.kept_laws.law_decoded_length.Goals as goal

pub returns : goal.returns
returns c = decoded_len
