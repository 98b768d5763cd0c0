use Rattle.std.proofs.Common.{ap, sym, subst, ◌∙◌, refl, drop, List}
use Rattle.band_plan.specs.declared.symbols.Node.{Node}
use Rattle.band_shapes.specs.Bands.{whole_wish, side_at}
use Rattle.band_shapes.specs.Forms.{IsSide}
use Rattle.band_shapes.proofs.PairLemmas.{whole_can, side_same, apart_nodes}
use Rattle.band_shapes.proofs.pairs.apart.Goals as goal

pub side_in-one-requires-clause-can : goal.side_in-one-requires-clause-can
side_in-one-requires-clause-can c = whole_can c.args.tools.now.layout c.args.xs.now c.args.fills.left c.whole_wish.result c.whole_wish.ensures c.requires.first

pub side_in-two-requires-clause-can : goal.side_in-two-requires-clause-can
side_in-two-requires-clause-can c = whole_can c.args.tools.now.layout c.args.ys.now c.args.fills.right c.whole_wish-2.result c.whole_wish-2.ensures c.requires.second

pub side_in-two-requires-clause-side : goal.side_in-two-requires-clause-side
side_in-two-requires-clause-side c = subst (λ z. IsSide c.args.tools.now.layout.count (side_at c.args.tools.now.layout z).side) (sym c.side_in-one.ensures.rest) c.requires.right

pub returns-clause-made : goal.returns-clause-made
unfolding whole_wish
returns-clause-made c =
    let e = c.args.tools.now.layout in
    let ns : List Node = drop c.args.place.at c.args.tools.now.nodes.now in
    let us : List Node = drop c.side_in-one.result.at c.args.tools.now.nodes.now in
    let p = side_same e ns ns c.args.xs.now _ c.whole_wish.result (whole_wish e c.args.fills.left) c.args.place.seed c.side_in-one.result.mask c.side_in-one.result.seed refl c.whole_wish.ensures c.side_in-one.ensures.made in
    let q = side_same e us us c.args.ys.now _ c.whole_wish-2.result (whole_wish e c.args.fills.right) c.side_in-one.result.seed c.side_in-two.result.mask c.side_in-two.result.seed refl c.whole_wish-2.ensures c.side_in-two.ensures.made in
    apart_nodes e ns us c.args.xs.now c.args.ys.now _ _ _ c.args.fills c.args.place.seed c.side_in-one.result.seed _ c.side_in-one.ensures.rest p q c.keep_copy.ensures

pub returns-clause-rest : goal.returns-clause-rest
returns-clause-rest c = c.side_in-two.ensures.rest ∙ ap (λ z. (side_at c.args.tools.now.layout z).rest) c.side_in-one.ensures.rest
