use Rattle.std.proofs.Common.{◌∙◌}
use Rattle.spread_fold.proofs.MaskLemmas.{mask_one, mask_more}
use Rattle.spread_fold.proofs.masks.mask_of.Goals as goal

pub returns-then-blocks-eq1-clause-value : goal.returns-then-blocks-eq1-clause-value
returns-then-blocks-eq1-clause-value c = mask_one c.args.blocks c.args.y.now c.if-blocks-eq1.true

pub returns-clause-value : goal.returns-clause-value
returns-clause-value c = c.bits_of.ensures.value ∙ mask_more c.args.blocks c.args.y.now c.if-blocks-eq1.false
