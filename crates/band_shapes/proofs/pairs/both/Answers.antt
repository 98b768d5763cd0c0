use Rattle.std.proofs.Common.{ap, sym, subst, ◌∙◌, refl, arith, drop, List, []}
use Rattle.band_plan.specs.declared.symbols.Node.{Node}
use Rattle.band_shapes.specs.Bands.{mid_wish, side_wish, side_at}
use Rattle.band_shapes.specs.Forms.{IsSide}
use Rattle.band_shapes.proofs.PairLemmas.{mid_can, side_can, side_same, side_first, mid_first}
use Rattle.band_shapes.proofs.pairs.both.Goals as goal

pub mid_wish-middle-requires-clause-blocks : goal.mid_wish-middle-requires-clause-blocks
mid_wish-middle-requires-clause-blocks c = let b = c.requires.can.change.least in omega (arith, b)

pub mid_wish-middle-requires-clause-fill : goal.mid_wish-middle-requires-clause-fill
mid_wish-middle-requires-clause-fill c = c.requires.can.fill_size

pub side_wish-other-requires-clause-blocks : goal.side_wish-other-requires-clause-blocks
side_wish-other-requires-clause-blocks c = let b = c.requires.can.change.least in omega (arith, b)

pub side_wish-other-requires-clause-fill : goal.side_wish-other-requires-clause-fill
side_wish-other-requires-clause-fill c = c.requires.can.fill_size

pub side_in-one-requires-clause-can : goal.side_in-one-requires-clause-can
side_in-one-requires-clause-can c = side_can c.args.tools.now.layout c.args.source.now c.args.fill c.args.cut.theta c.side_wish-other.result c.side_wish-other.ensures.value c.side_wish-other.ensures.size c.side_wish-other.ensures.low c.side_wish-other.ensures.high c.requires.can

pub side_in-two-requires-clause-can : goal.side_in-two-requires-clause-can
side_in-two-requires-clause-can c = mid_can c.args.tools.now.layout c.args.source.now c.args.fill c.args.cut.theta c.mid_wish-middle.result c.mid_wish-middle.ensures.value c.mid_wish-middle.ensures.size c.requires.can

pub side_in-two-requires-clause-side : goal.side_in-two-requires-clause-side
side_in-two-requires-clause-side c = subst (λ z. IsSide c.args.tools.now.layout.count (side_at c.args.tools.now.layout z).side) (sym c.side_in-one.ensures.rest) c.requires.two

pub side_in-one-requires-2-clause-can : goal.side_in-one-requires-2-clause-can
side_in-one-requires-2-clause-can c = mid_can c.args.tools.now.layout c.args.source.now c.args.fill c.args.cut.theta c.mid_wish-middle.result c.mid_wish-middle.ensures.value c.mid_wish-middle.ensures.size c.requires.can

pub side_in-two-requires-2-clause-can : goal.side_in-two-requires-2-clause-can
side_in-two-requires-2-clause-can c = side_can c.args.tools.now.layout c.args.source.now c.args.fill c.args.cut.theta c.side_wish-other.result c.side_wish-other.ensures.value c.side_wish-other.ensures.size c.side_wish-other.ensures.low c.side_wish-other.ensures.high c.requires.can

pub side_in-two-requires-2-clause-side : goal.side_in-two-requires-2-clause-side
side_in-two-requires-2-clause-side c = subst (λ z. IsSide c.args.tools.now.layout.count (side_at c.args.tools.now.layout z).side) (sym c.side_in-one-2.ensures.rest) c.requires.two

pub returns-then-cut-clause-made : goal.returns-then-cut-clause-made
unfolding mid_wish side_wish
returns-then-cut-clause-made c =
    let e = c.args.tools.now.layout in
    let ns : List Node = drop c.args.place.at c.args.tools.now.nodes.now in
    let us : List Node = drop c.side_in-one.result.at c.args.tools.now.nodes.now in
    let p = side_same e ns ns [] _ c.side_wish-other.result (side_wish e c.args.fill c.args.cut.theta) c.args.place.seed c.side_in-one.result.mask c.side_in-one.result.seed refl c.side_wish-other.ensures.value c.side_in-one.ensures.made in
    let q = side_same e us us c.args.source.now _ c.mid_wish-middle.result (mid_wish e c.args.fill c.args.cut.theta) c.side_in-one.result.seed c.side_in-two.result.mask c.side_in-two.result.seed refl c.mid_wish-middle.ensures.value c.side_in-two.ensures.made in
    side_first e c.args.cut ns us c.args.source.now _ _ c.args.fill c.args.place.seed c.side_in-one.result.seed c.side_in-two.result.seed c.side_in-two.result.mask c.side_in-one.result.mask c.if-cut.true c.side_in-one.ensures.rest p q

pub returns-then-cut-clause-rest : goal.returns-then-cut-clause-rest
returns-then-cut-clause-rest c = c.side_in-two.ensures.rest ∙ ap (λ z. (side_at c.args.tools.now.layout z).rest) c.side_in-one.ensures.rest

pub returns-clause-made : goal.returns-clause-made
unfolding mid_wish side_wish
returns-clause-made c =
    let e = c.args.tools.now.layout in
    let ns : List Node = drop c.args.place.at c.args.tools.now.nodes.now in
    let us : List Node = drop c.side_in-one-2.result.at c.args.tools.now.nodes.now in
    let p = side_same e ns ns c.args.source.now _ c.mid_wish-middle.result (mid_wish e c.args.fill c.args.cut.theta) c.args.place.seed c.side_in-one-2.result.mask c.side_in-one-2.result.seed refl c.mid_wish-middle.ensures.value c.side_in-one-2.ensures.made in
    let q = side_same e us us [] _ c.side_wish-other.result (side_wish e c.args.fill c.args.cut.theta) c.side_in-one-2.result.seed c.side_in-two-2.result.mask c.side_in-two-2.result.seed refl c.side_wish-other.ensures.value c.side_in-two-2.ensures.made in
    mid_first e c.args.cut ns us c.args.source.now _ _ c.args.fill c.args.place.seed c.side_in-one-2.result.seed c.side_in-two-2.result.seed c.side_in-one-2.result.mask c.side_in-two-2.result.mask c.if-cut.false c.side_in-one-2.ensures.rest p q

pub returns-clause-rest : goal.returns-clause-rest
returns-clause-rest c = c.side_in-two-2.ensures.rest ∙ ap (λ z. (side_at c.args.tools.now.layout z).rest) c.side_in-one-2.ensures.rest
