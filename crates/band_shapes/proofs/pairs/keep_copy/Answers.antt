use Rattle.std.proofs.Common.{◌∙◌}
use Rattle.band_shapes.proofs.PairLemmas.{front_is}
use Rattle.band_shapes.proofs.pairs.keep_copy.Goals as goal

pub returns : goal.returns
returns c =
    front_is c.args.n c.copy_from_slice.new.self _ (c.copy_from_slice.ensures.len ∙ c.split_at_mut-here.ensures.front_len) ∙ (c.copy_from_slice.ensures.after ∙ c.split_at.ensures.front)
