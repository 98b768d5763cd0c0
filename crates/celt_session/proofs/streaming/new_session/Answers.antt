use Rattle.std.proofs.Common.{[], false, refl}
use Rattle.celt_session.proofs.FeedingSamples.{before_nothing}
use Rattle.celt_session.proofs.streaming.new_session.Goals as goal

pub returns-in-Ok-new_packer-clause-stands : goal.returns-in-Ok-new_packer-clause-stands
returns-in-Ok-new_packer-clause-stands c = record { reads = (c.new-in-Ok-new_packer.ensures.stands []).1 refl; between = false; unfinished = before_nothing [] refl; shows = c.in-Ok.ensures.shows }

pub returns-in-Ok-new_packer-clause-only : goal.returns-in-Ok-new_packer-clause-only
returns-in-Ok-new_packer-clause-only c = λ bytes h. (c.new-in-Ok-new_packer.ensures.stands bytes).0 h.reads
