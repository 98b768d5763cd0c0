use Rattle.std.proofs.Common.{◌∙◌}
use Rattle.band_shapes.proofs.frame.keep.Goals as goal

pub returns-clause-value : goal.returns-clause-value
returns-clause-value c = c.hold.ensures.value ∙ (c.split_at.ensures.front ∙ c.pad.ensures)
