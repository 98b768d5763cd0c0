use Rattle.celt_session.proofs.EncodingLemmas.{before_end, at_end}
use Rattle.celt_session.proofs.encoding_laws.law_stream_goes_on.Goals as goal

pub returns-clause-before : goal.returns-clause-before
returns-clause-before c = before_end

pub returns-clause-at_end : goal.returns-clause-at_end
returns-clause-at_end c = at_end
