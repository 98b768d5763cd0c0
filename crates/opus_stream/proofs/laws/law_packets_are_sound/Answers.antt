use Rattle.opus_stream.proofs.Telling.{told, told_given}
use Rattle.opus_stream.proofs.laws.law_packets_are_sound.Goals as goal

pub returns-clause-all : goal.returns-clause-all
returns-clause-all c = λ bytes. (told bytes).sound

pub returns-clause-given : goal.returns-clause-given
returns-clause-given c = λ bytes given. (told_given bytes given).last
