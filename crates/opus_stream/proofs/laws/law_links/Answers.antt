use Rattle.std.proofs.Common.{sym, ◌∙◌, ap}
use Rattle.opus_stream.specs.Tests.{is_ended}
use Rattle.opus_stream.proofs.Linking.{link_given, link_only}
use Rattle.opus_stream.proofs.Reading.{given_is}
use Rattle.opus_stream.proofs.laws.law_links.Goals as goal

pub returns-clause-given : goal.returns-clause-given
returns-clause-given c = link_given

pub returns-clause-reader : goal.returns-clause-reader
returns-clause-reader c = λ reader bytes given s ended. link_given bytes given (ap is_ended (given_is reader bytes given s) ∙ sym s.holds.progress.placed.ended ∙ ended)

pub returns-clause-ended : goal.returns-clause-ended
returns-clause-ended c = λ bytes len l. (link_only bytes len l).0

pub returns-clause-size : goal.returns-clause-size
returns-clause-size c = λ bytes len l. (link_only bytes len l).1
