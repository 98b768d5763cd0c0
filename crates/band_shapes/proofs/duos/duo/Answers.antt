use Rattle.std.proofs.Common.{◌^◌, ap, sym, subst, ◌∙◌, refl, arith, drop}
use Rattle.std.specs.Prelude.{◌&&◌}
use Rattle.band_shapes.specs.declared.node.Cut.{Cut}
use Rattle.band_shapes.specs.Bands.{side_at, whole_wish, inverted}
use Rattle.band_shapes.specs.Forms.{IsSide, cut_in, sign_in, turned_in}
use Rattle.band_shapes.specs.Tree.{IsAngle, front}
use Rattle.band_shapes.proofs.DuoLemmas.{duo_here, two_below, two_size}
use Rattle.band_shapes.proofs.PairLemmas.{whole_can, side_same}
use Rattle.band_shapes.proofs.duos.duo.Goals as goal

pub side_in-made-requires-clause-can : goal.side_in-made-requires-clause-can
side_in-made-requires-clause-can c = whole_can c.args.tools.now.layout c.args.source.now c.args.fill c.whole_wish.result c.whole_wish.ensures c.requires.can

pub side_in-made-requires-clause-side : goal.side_in-made-requires-clause-side
side_in-made-requires-clause-side c = subst (λ z. IsSide c.args.tools.now.layout.count (side_at c.args.tools.now.layout z).side) (sym (c.next_place.ensures.rest ∙ ap (drop 1) c.next_place-sign_place.ensures.rest)) c.requires.side

pub mid_duo-middle-requires-clause-angle : goal.mid_duo-middle-requires-clause-angle
mid_duo-middle-requires-clause-angle c = subst (λ (z : Cut). IsAngle z.theta) (sym (c.cut_in-cut.ensures ∙ ap cut_in c.node_at-node.ensures)) c.requires.angle

pub mid_duo-middle-requires-clause-size : goal.mid_duo-middle-requires-clause-size
mid_duo-middle-requires-clause-size c = two_below (2 ^ 19) _ _ _ c.requires.count (omega (arith, c.side_in-made.auto.x)) c.two_in-coded.ensures c.side_in-made.ensures.made.size

pub side_duo-other-requires-clause-angle : goal.side_duo-other-requires-clause-angle
side_duo-other-requires-clause-angle c = subst (λ (z : Cut). IsAngle z.theta) (sym (c.cut_in-cut.ensures ∙ ap cut_in c.node_at-node.ensures)) c.requires.angle

pub side_duo-other-requires-clause-size : goal.side_duo-other-requires-clause-size
side_duo-other-requires-clause-size c = two_below (2 ^ 19) _ _ _ c.requires.count (omega (arith, c.side_in-made.auto.x)) c.two_in-coded.ensures c.side_in-made.ensures.made.size

pub invert_in-requires-clause-size : goal.invert_in-requires-clause-size
invert_in-requires-clause-size c = two_size (2 ^ 20) _ _ c.put_two-2.ensures c.sum.ensures.size

pub returns-clause-made : goal.returns-clause-made
unfolding whole_wish
returns-clause-made c =
    let e = c.args.tools.now.layout in
    let p = side_same e _ _ c.args.source.now _ c.whole_wish.result (whole_wish e c.args.fill) c.args.place.seed c.side_in-made.result.mask c.side_in-made.result.seed (c.next_place.ensures.rest ∙ ap (drop 1) c.next_place-sign_place.ensures.rest) c.whole_wish.ensures c.side_in-made.ensures.made in
    duo_here e c.cut_in-cut.result _ c.sign_in-negative.result _ _ _ _ _ _ _ _ _ _ _ _ _ _ _ (c.cut_in-cut.ensures ∙ ap cut_in c.node_at-node.ensures)
    (c.sign_in-negative.ensures ∙ ap sign_in (c.node_at.ensures ∙ ap front c.next_place-sign_place.ensures.rest))
    (ap (λ z. z && c.args.tools.now.invert) (c.turned_in.ensures ∙ ap turned_in c.node_at-node.ensures))
    c.requires.count c.requires.two p refl refl c.two_in-coded.ensures c.mid_duo-middle.ensures.value c.side_duo-other.ensures.value c.difference.ensures.value c.sum.ensures.value c.difference.ensures.size c.sum.ensures.size c.put_two.ensures (c.invert_in.ensures ∙ ap (inverted (c.turned_in.result && c.args.tools.now.invert)) c.put_two-2.ensures)

pub returns-clause-rest : goal.returns-clause-rest
returns-clause-rest c = c.side_in-made.ensures.rest ∙ ap (λ z. (side_at c.args.tools.now.layout z).rest) (c.next_place.ensures.rest ∙ ap (drop 1) c.next_place-sign_place.ensures.rest)
