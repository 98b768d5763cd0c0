use Rattle.opus_stream.proofs.Flagging.{first_flag}
use Rattle.opus_stream.proofs.laws.law_first_page.Goals as goal

pub returns : goal.returns
returns c = first_flag
