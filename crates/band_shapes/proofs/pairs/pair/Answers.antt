use Rattle.std.proofs.Common.{◌∙◌, drop}
use Rattle.band_shapes.proofs.KindLemmas.{joined_can, two_sides, two_shape, two_rest, single_side, single_shape, single_rest, duo_side, duo_shape, duo_rest, turned_sides, turned_shape, turned_rest}
use Rattle.band_shapes.proofs.pairs.pair.Goals as goal

pub apart-requires-clause-left : goal.apart-requires-clause-left
apart-requires-clause-left c = (two_sides c.args.tools.now.layout (drop c.args.place.at c.args.tools.now.nodes.now) c.if-layout.true c.requires.form).0

pub apart-requires-clause-right : goal.apart-requires-clause-right
apart-requires-clause-right c = (two_sides c.args.tools.now.layout (drop c.args.place.at c.args.tools.now.nodes.now) c.if-layout.true c.requires.form).1

pub returns-then-layout-clause-made : goal.returns-then-layout-clause-made
returns-then-layout-clause-made c = two_shape c.args.tools.now.layout c.args.tools.now.invert (drop c.args.place.at c.args.tools.now.nodes.now) c.args.xs.now c.args.ys.now _ _ _ c.args.fills c.args.place.seed _ c.if-layout.true c.apart.ensures.made

pub returns-then-layout-clause-rest : goal.returns-then-layout-clause-rest
returns-then-layout-clause-rest c = c.apart.ensures.rest ∙ two_rest c.args.tools.now.layout (drop c.args.place.at c.args.tools.now.nodes.now) c.if-layout.true

pub single-requires-clause-can : goal.single-requires-clause-can
single-requires-clause-can c = joined_can c.args.tools.now.layout c.args.xs.now c.args.ys.now c.args.fills.left c.args.fills.right c.requires.first c.requires.second

pub single-requires-clause-side : goal.single-requires-clause-side
single-requires-clause-side c = single_side c.args.tools.now.layout (drop c.args.place.at c.args.tools.now.nodes.now) c.if-layout.false c.if-layout-ne2.true c.requires.form

pub returns-then-layout-ne2-clause-made : goal.returns-then-layout-ne2-clause-made
returns-then-layout-ne2-clause-made c = single_shape c.args.tools.now.layout c.args.tools.now.invert (drop c.args.place.at c.args.tools.now.nodes.now) c.args.xs.now c.args.ys.now _ _ _ c.args.fills c.args.place.seed _ c.if-layout.false c.if-layout-ne2.true c.single.ensures.made

pub returns-then-layout-ne2-clause-rest : goal.returns-then-layout-ne2-clause-rest
returns-then-layout-ne2-clause-rest c = c.single.ensures.rest ∙ single_rest c.args.tools.now.layout (drop c.args.place.at c.args.tools.now.nodes.now) c.if-layout.false c.if-layout-ne2.true

pub duo-requires-clause-can : goal.duo-requires-clause-can
duo-requires-clause-can c = joined_can c.args.tools.now.layout c.args.xs.now c.args.ys.now c.args.fills.left c.args.fills.right c.requires.first c.requires.second

pub duo-requires-clause-angle : goal.duo-requires-clause-angle
duo-requires-clause-angle c = (duo_side c.args.tools.now.layout (drop c.args.place.at c.args.tools.now.nodes.now) c.if-layout.false c.if-layout-ne2.false c.if-layout-eq2.true c.requires.form).0

pub duo-requires-clause-side : goal.duo-requires-clause-side
duo-requires-clause-side c = (duo_side c.args.tools.now.layout (drop c.args.place.at c.args.tools.now.nodes.now) c.if-layout.false c.if-layout-ne2.false c.if-layout-eq2.true c.requires.form).1

pub returns-then-layout-eq2-clause-made : goal.returns-then-layout-eq2-clause-made
returns-then-layout-eq2-clause-made c = duo_shape c.args.tools.now.layout c.args.tools.now.invert (drop c.args.place.at c.args.tools.now.nodes.now) c.args.xs.now c.args.ys.now _ _ _ c.args.fills c.args.place.seed _ c.if-layout.false c.if-layout-ne2.false c.if-layout-eq2.true c.duo.ensures.made

pub returns-then-layout-eq2-clause-rest : goal.returns-then-layout-eq2-clause-rest
returns-then-layout-eq2-clause-rest c = c.duo.ensures.rest ∙ duo_rest c.args.tools.now.layout (drop c.args.place.at c.args.tools.now.nodes.now) c.if-layout.false c.if-layout-ne2.false c.if-layout-eq2.true

pub mid_side-requires-clause-can : goal.mid_side-requires-clause-can
mid_side-requires-clause-can c = joined_can c.args.tools.now.layout c.args.xs.now c.args.ys.now c.args.fills.left c.args.fills.right c.requires.first c.requires.second

pub mid_side-requires-clause-angle : goal.mid_side-requires-clause-angle
mid_side-requires-clause-angle c = (turned_sides c.args.tools.now.layout (drop c.args.place.at c.args.tools.now.nodes.now) c.if-layout.false c.if-layout-ne2.false c.if-layout-eq2.false c.requires.form).0

pub mid_side-requires-clause-one : goal.mid_side-requires-clause-one
mid_side-requires-clause-one c = (turned_sides c.args.tools.now.layout (drop c.args.place.at c.args.tools.now.nodes.now) c.if-layout.false c.if-layout-ne2.false c.if-layout-eq2.false c.requires.form).1

pub mid_side-requires-clause-two : goal.mid_side-requires-clause-two
mid_side-requires-clause-two c = (turned_sides c.args.tools.now.layout (drop c.args.place.at c.args.tools.now.nodes.now) c.if-layout.false c.if-layout-ne2.false c.if-layout-eq2.false c.requires.form).2

pub returns-clause-made : goal.returns-clause-made
returns-clause-made c = turned_shape c.args.tools.now.layout c.args.tools.now.invert (drop c.args.place.at c.args.tools.now.nodes.now) c.args.xs.now c.args.ys.now _ _ _ c.args.fills c.args.place.seed _ c.if-layout.false c.if-layout-ne2.false c.if-layout-eq2.false c.mid_side.ensures.made

pub returns-clause-rest : goal.returns-clause-rest
returns-clause-rest c = c.mid_side.ensures.rest ∙ turned_rest c.args.tools.now.layout (drop c.args.place.at c.args.tools.now.nodes.now) c.if-layout.false c.if-layout-ne2.false c.if-layout-eq2.false
