use Rattle.std.proofs.Common.{refl}
use Rattle.celt_session.specs.Frames.{kind_of}
use Rattle.celt_session.proofs.KindFacts.{kinds_same}
use Rattle.celt_cli.specs.Makers.{gen_kind}
use Rattle.celt_cli.proofs.hearing.kind.Goals as goal

pub returns : goal.returns
unfolding kind_of
returns c = kinds_same _ gen_kind refl refl refl
