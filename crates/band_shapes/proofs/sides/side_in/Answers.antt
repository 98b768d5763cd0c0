use Rattle.std.proofs.Common.{◌∙◌, sym, subst, drop}
use Rattle.band_shapes.specs.Bands.{side_at, side_shape}
use Rattle.band_shapes.specs.Channels.{IsChannel}
use Rattle.band_shapes.proofs.PairLemmas.{front_is}
use Rattle.band_shapes.proofs.sides.side_in.Goals as goal

pub returns-clause-made : goal.returns-clause-made
returns-clause-made c =
    let e = c.args.tools.now.layout in
    subst (λ xs. IsChannel c.args.wish.blocks (side_shape e (side_at e (drop c.args.place.at c.args.tools.now.nodes.now)).side c.args.source.now c.args.wish c.args.place.seed) xs c.side.result.mask c.side.result.seed)
    (sym (front_is e.count c.side.new.x _ (c.side.auto.x ∙ c.split_at_mut-here.ensures.front_len))) c.side.ensures.made
