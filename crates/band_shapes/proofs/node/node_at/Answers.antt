use Rattle.std.proofs.Common.{sym}
use Rattle.band_shapes.proofs.Walk.{front_at, front_past}
use Rattle.band_shapes.proofs.node.node_at.Goals as goal

pub returns-then-at-nodes : goal.returns-then-at-nodes
returns-then-at-nodes c = sym (front_at c.args.nodes.now c.args.at _ c.if-at-nodes.true)

pub returns-else-at-nodes : goal.returns-else-at-nodes
returns-else-at-nodes c = sym (front_past c.args.nodes.now c.args.at c.if-at-nodes.false)
