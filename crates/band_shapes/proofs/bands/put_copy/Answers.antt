use Rattle.std.proofs.Common.{◌≤◌, ◌<◌, ◌^◌, ◌∙◌, ap, sym, subst}
use Rattle.std.specs.Prelude.{All, unsigned_abs}
use Rattle.band_shapes.specs.Channels.{copied}
use Rattle.band_shapes.proofs.BandLemmas.{put_made}
use Rattle.band_shapes.proofs.bands.put_copy.Goals as goal

pub copy_shape-requires-clause-items : goal.copy_shape-requires-clause-items
copy_shape-requires-clause-items c = subst (All (λ v. unsigned_abs v < 2 ^ 19)) (sym c.split_at.ensures.front) c.requires.size

pub returns-clause-value : goal.returns-clause-value
returns-clause-value c =
    put_made c.args.span.start c.args.span.count c.args.norm.now c.split_at_mut-behind.result.0.now c.copy_shape.new.out _ _ c.split_at_mut-behind.ensures.front c.split_at_mut-behind.ensures.front_len
    (c.copy_shape.auto.out ∙ c.split_at_mut-here.ensures.front_len) (c.copy_shape.ensures.value ∙ ap copied c.split_at.ensures.front)

pub returns-clause-size : goal.returns-clause-size
returns-clause-size c = subst (All (λ v. unsigned_abs v ≤ 2 ^ 19)) (c.copy_shape.ensures.value ∙ ap copied c.split_at.ensures.front) c.copy_shape.ensures.size
