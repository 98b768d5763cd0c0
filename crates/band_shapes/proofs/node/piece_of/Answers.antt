use Rattle.std.proofs.Common.{ap, sym, ◌∙◌, rules}
use Rattle.std.specs.Prelude.{FitsSigned}
use Rattle.std.specs.Int.{w32}
use Rattle.std.proofs.lemmas.Int.{to_z-of_z}
use Rattle.band_shapes.specs.declared.node.Piece.TheVariants as pieces
use Rattle.band_shapes.specs.Tree.{piece_of}
use Rattle.band_shapes.proofs.Walk.{theta_none, theta_split, leaf_any, sign_any}
use Rattle.band_shapes.proofs.node.piece_of.Goals as goal

pub returns-then-level-eq0 : goal.returns-then-level-eq0
returns-then-level-eq0 c = sym (ap (piece_of c.args.level) c.in-Theta.is ∙ theta_none c.args.level _ _ _ c.if-level-eq0.true)

pub returns-else-level-eq0 : goal.returns-else-level-eq0
returns-else-level-eq0 c =
    let f : FitsSigned w32 c.in-Theta.theta = search rules in
    ap (λ t. pieces.Split (record { theta = t; second_first = c.in-Theta.second_first })) (to_z-of_z w32 c.in-Theta.theta f) ∙ sym (ap (piece_of c.args.level) c.in-Theta.is ∙ theta_split c.args.level _ _ _ c.if-level-eq0.false)

pub returns-in-Leaf : goal.returns-in-Leaf
returns-in-Leaf c = sym (ap (piece_of c.args.level) c.in-Leaf.is ∙ leaf_any c.args.level _ _)

pub returns-in-Sign : goal.returns-in-Sign
returns-in-Sign c = sym (ap (piece_of c.args.level) c.in-Sign.is ∙ sign_any c.args.level _)
