use Rattle.std.proofs.Common.{◌∙◌}
use Rattle.band_shapes.proofs.PairLemmas.{inverted_yes, inverted_no}
use Rattle.band_shapes.proofs.pairs.invert.Goals as goal

pub returns-then-turned : goal.returns-then-turned
returns-then-turned c = c.negate.ensures ∙ inverted_yes c.args.turned c.args.z.now c.if-turned.true

pub returns-else-turned : goal.returns-else-turned
returns-else-turned c = inverted_no c.args.turned c.args.z.now c.if-turned.false
