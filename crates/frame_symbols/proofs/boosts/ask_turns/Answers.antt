use Rattle.std.proofs.Common.{arith}
use Rattle.frame_symbols.proofs.BoostSteps.{turns_start, turns_next, turns_end, turns_last}
use Rattle.frame_symbols.proofs.boosts.ask_turns.Goals as goal

pub loop-turn-init : goal.loop-turn-init
loop-turn-init g c = turns_start c.args.band c.requires.band.some

pub returns-then-not-ask_turn-clause-walked : goal.returns-then-not-ask_turn-clause-walked
returns-then-not-ask_turn-clause-walked g c =
    turns_end c.ask_turn.result c.loop-turn.invariant c.loop-turn-test.true c.if-not-ask_turn.true c.ask_turn.ensures.walked

pub loop-turn-preserved : goal.loop-turn-preserved
loop-turn-preserved g c =
    turns_next c.ask_turn.result c.loop-turn.invariant c.loop-turn-test.true c.if-not-ask_turn.false c.ask_turn.ensures.walked
    (c.ask_turn.ensures.below c.if-not-ask_turn.false) c.ask_turn.ensures.count

pub returns-clause-walked : goal.returns-clause-walked
returns-clause-walked g c =
    turns_last c.loop-turn.invariant (let low = c.loop-turn-test.false in let high = c.loop-turn.auto.turn-end in omega (arith, low, high))
