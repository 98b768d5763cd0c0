use Rattle.celt_session.proofs.GivenCounts.{given_last}
use Rattle.celt_session.specs.Frames.{duration}
use Rattle.celt_session.specs.AudioPages.{kind_in}
use Rattle.celt_session.proofs.given_laws.law_given_packets.Goals as goal

pub returns : goal.returns
returns c = λ coded n p some more within. given_last coded.group (duration (kind_in coded)) n p some more within
