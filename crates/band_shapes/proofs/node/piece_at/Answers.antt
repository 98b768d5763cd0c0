use Rattle.std.proofs.Common.{ap, sym, ◌∙◌}
use Rattle.band_shapes.specs.Tree.{piece_of}
use Rattle.band_shapes.proofs.Walk.{front_at, front_past, leaf_piece}
use Rattle.band_shapes.proofs.node.piece_at.Goals as goal

pub returns-then-at-nodes : goal.returns-then-at-nodes
returns-then-at-nodes c = c.piece_of.ensures ∙ ap (piece_of c.args.level) (sym (front_at c.args.nodes.now c.args.at _ c.if-at-nodes.true))

pub returns-else-at-nodes : goal.returns-else-at-nodes
returns-else-at-nodes c = sym (ap (piece_of c.args.level) (front_past c.args.nodes.now c.args.at c.if-at-nodes.false) ∙ leaf_piece c.args.level)
