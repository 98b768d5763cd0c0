use Rattle.std.proofs.Common.{◌+◌, ◌-◌, ◌*◌, ◌^◌, length, ap, ◌∙◌, arith, refl}
use Rattle.range_coder.specs.FrameBits.{number}
use Rattle.range_coder.specs.Senders.{sender_pace}
use Rattle.range_coder.proofs.Showing.{wide_paces}
use Rattle.range_coder.proofs.SentSteps.{wide_matches, more_matches, more_pace}
use Rattle.range_coder.proofs.sender.Sender.grow.Goals as goal
use Rattle.range_coder.proofs.sender.Sender.grow.Goals.{then-self-room, else-self-room}

pub returns-then-self-clause-matches : goal.returns-then-self-clause-matches
returns-then-self-clause-matches c = λ i. wide_matches c.args.room.now c.args.self i (omega arith)

pub returns-then-self-clause-pace : goal.returns-then-self-clause-pace
returns-then-self-clause-pace c = wide_paces (sender_pace c.args.self) (omega arith)

pub returns-clause-matches : goal.returns-clause-matches
returns-clause-matches c =
    λ i is.
    let s = c.args.self in
    let old = c.args.room.now in
    let unit = 2 ^ (8 * (length old - (s.sent + 1))) in
    more_matches old c.if-self-room.room s _ i c.if-self-room.auto.room (omega arith) refl refl refl refl
    (elim c.if-self-room.branch [
      | then-self-room w ↦ λ fits small. ap number w.room-is ∙ w.add.ensures.sum small
      | else-self-room w ↦ λ fits. let past = w.if-self-room.false in absurd (omega arith)
    ])
    is

pub returns-clause-pace : goal.returns-clause-pace
returns-clause-pace c = more_pace c.args.self _ _ (omega arith) refl (omega arith)
