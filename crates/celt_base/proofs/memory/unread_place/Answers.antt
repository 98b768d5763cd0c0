use Rattle.std.proofs.Common.{◌≤◌, length, sym, ◌∙◌, subst}
use Rattle.celt_base.proofs.Unread.{front_passed, piece_passed}
use Rattle.celt_base.proofs.memory.unread_place.Goals as goal

pub returns-else-start-len-clause-same : goal.returns-else-start-len-clause-same
returns-else-start-len-clause-same c = c.loop-piece.invariant.0

pub returns-after-loop-piece-clause-same : goal.returns-after-loop-piece-clause-same
returns-after-loop-piece-clause-same c = c.loop-piece.invariant.0

pub returns-else-start-len-clause-pieces : goal.returns-else-start-len-clause-pieces
returns-else-start-len-clause-pieces c = c.loop-piece.invariant.1

pub returns-after-loop-piece-clause-pieces : goal.returns-after-loop-piece-clause-pieces
returns-after-loop-piece-clause-pieces c = c.loop-piece.invariant.1

pub loop-piece-preserved : goal.loop-piece-preserved
loop-piece-preserved c =
    let pieces = c.args.pieces.now in
    let k = c.loop-piece.piece in
    let start = c.loop-piece.start in
    let piece = c.index-pieces-piece.result in
    let all : length piece.items ≤ start = subst (λ n. n ≤ start) (c.len.ensures ∙ piece.ok.0) c.if-start-len.true in (
      sym (front_passed pieces k start piece c.loop-piece-test.true c.index-pieces-piece.is all) ∙ c.loop-piece.invariant.0,
      sym (piece_passed pieces k start piece c.loop-piece-test.true c.index-pieces-piece.is all) ∙ c.loop-piece.invariant.1,
    )
