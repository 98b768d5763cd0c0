use Rattle.std.proofs.Common.{refl}
use Rattle.celt_base.specs.Questions.{interval_of}
use Rattle.range_coder.proofs.reader.Reader.new.Goals as goal

pub returns-clause-stands : goal.returns-clause-stands
unfolding interval_of
returns-clause-stands c = record { frame_is = refl; shows = c.new.ensures.shows; count = refl }
