use Rattle.std.proofs.Common.{ap, sym, subst, ◌∙◌, refl}
use Rattle.std.specs.Prelude.{◌&&◌}
use Rattle.band_shapes.specs.declared.node.Cut.{Cut}
use Rattle.band_shapes.specs.Bands.{side_at}
use Rattle.band_shapes.specs.Forms.{IsSide, cut_in, turned_in}
use Rattle.band_shapes.specs.Tree.{IsAngle}
use Rattle.band_shapes.proofs.PairLemmas.{merged_here, merged_below, take_least}
use Rattle.band_shapes.proofs.pairs.mid_side.Goals as goal

pub both-made-requires-clause-angle : goal.both-made-requires-clause-angle
both-made-requires-clause-angle c = subst (λ (z : Cut). IsAngle z.theta) (sym (c.cut_in-cut.ensures ∙ ap cut_in c.node_at-node.ensures)) c.requires.angle

pub both-made-requires-clause-one : goal.both-made-requires-clause-one
both-made-requires-clause-one c = subst (λ z. IsSide c.args.tools.now.layout.count (side_at c.args.tools.now.layout z).side) (sym c.next_place.ensures.rest) c.requires.one

pub both-made-requires-clause-two : goal.both-made-requires-clause-two
both-made-requires-clause-two c = subst (λ z. IsSide c.args.tools.now.layout.count (side_at c.args.tools.now.layout (side_at c.args.tools.now.layout z).rest).side) (sym c.next_place.ensures.rest) c.requires.two

pub merge_in-requires-clause-angle : goal.merge_in-requires-clause-angle
merge_in-requires-clause-angle c = subst (λ (z : Cut). IsAngle z.theta) (sym (c.cut_in-cut.ensures ∙ ap cut_in c.node_at-node.ensures)) c.requires.angle

pub merge_in-requires-clause-middle : goal.merge_in-requires-clause-middle
merge_in-requires-clause-middle c = c.both-made.ensures.made.mid_size

pub merge_in-requires-clause-side : goal.merge_in-requires-clause-side
merge_in-requires-clause-side c = c.both-made.ensures.made.side_size

pub invert_in-requires-clause-size : goal.invert_in-requires-clause-size
invert_in-requires-clause-size c =
    merged_below _ _ _ _ c.merge_in.ensures.low c.merge_in.ensures.high (take_least _ _ c.requires.can.count) c.both-made.ensures.made.mid_size c.both-made.ensures.made.side_size c.merge_in.ensures.right

pub returns-clause-made : goal.returns-clause-made
returns-clause-made c =
    let e = c.args.tools.now.layout in
    let cut = c.cut_in-cut.ensures ∙ ap cut_in c.node_at-node.ensures in
    let turned = ap (λ z. z && c.args.tools.now.invert) (c.turned_in.ensures ∙ ap turned_in c.node_at-node.ensures) in
    merged_here e c.cut_in-cut.result _ _ _ _ _ c.args.source.now c.args.fill c.args.place.seed c.both-made.result.mask _ _ _ _ _ _ _ _ cut turned c.next_place.ensures.rest c.both-made.ensures.made
    refl c.merge_in.ensures.low c.merge_in.ensures.high (take_least _ _ c.requires.can.count) refl refl c.keep_copy.ensures c.merge_in.ensures.left c.merge_in.ensures.right c.invert_in.ensures

pub returns-clause-rest : goal.returns-clause-rest
returns-clause-rest c = c.both-made.ensures.rest ∙ ap (λ z. (side_at c.args.tools.now.layout (side_at c.args.tools.now.layout z).rest).rest) c.next_place.ensures.rest
