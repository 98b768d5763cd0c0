use Rattle.std.proofs.Common.{◌∙◌}
use Rattle.band_shapes.proofs.BandLemmas.{put_made}
use Rattle.band_shapes.proofs.bands.put.Goals as goal

pub returns : goal.returns
returns c =
    put_made c.args.span.start c.args.span.count c.args.line.now c.split_at_mut-behind.result.0.now c.copy_from_slice.new.self _ _ c.split_at_mut-behind.ensures.front c.split_at_mut-behind.ensures.front_len
    (c.copy_from_slice.ensures.len ∙ c.split_at_mut-here.ensures.front_len) (c.copy_from_slice.ensures.after ∙ c.split_at.ensures.front)
