use Rattle.std.proofs.Common.{◌<◌, ◌^◌, ◌∙◌, ap, sym, subst}
use Rattle.std.specs.Prelude.{All, unsigned_abs}
use Rattle.band_shapes.specs.Bands.{inverted}
use Rattle.band_shapes.proofs.PairLemmas.{front_is, wide_below}
use Rattle.band_shapes.proofs.pairs.invert_in.Goals as goal

pub invert-requires : goal.invert-requires
invert-requires c = wide_below c.split_at_mut-here.result.0.now (subst (All (λ v. unsigned_abs v < 2 ^ 20)) (sym c.split_at_mut-here.ensures.front) c.requires.size)

pub returns : goal.returns
returns c =
    front_is c.args.n c.invert.new.z _ (c.invert.auto.z ∙ c.split_at_mut-here.ensures.front_len) ∙ (c.invert.ensures ∙ ap (inverted c.args.turned) c.split_at_mut-here.ensures.front)
