use Rattle.std.proofs.Common.{refl, drop, List}
use Rattle.band_plan.specs.declared.symbols.Node.{Node}
use Rattle.band_shapes.specs.Bands.{whole_wish}
use Rattle.band_shapes.proofs.PairLemmas.{whole_can, side_same, single_made}
use Rattle.band_shapes.proofs.pairs.single.Goals as goal

pub side_in-made-requires-clause-can : goal.side_in-made-requires-clause-can
side_in-made-requires-clause-can c = whole_can c.args.tools.now.layout c.args.source.now c.args.fill c.whole_wish.result c.whole_wish.ensures c.requires.can

pub returns-clause-made : goal.returns-clause-made
unfolding whole_wish
returns-clause-made c =
    let e = c.args.tools.now.layout in
    let ns : List Node = drop c.args.place.at c.args.tools.now.nodes.now in
    let p = side_same e ns ns c.args.source.now _ c.whole_wish.result (whole_wish e c.args.fill) c.args.place.seed c.side_in-made.result.mask c.side_in-made.result.seed refl c.whole_wish.ensures c.side_in-made.ensures.made in
    single_made e _ _ _ _ c.side_in-made.result.mask _ p refl refl c.clear.ensures c.keep_copy.ensures
