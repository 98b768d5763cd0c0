use Rattle.std.proofs.Common.{sym, subst}
use Rattle.celt_base.specs.Intervals.{Part, InPart}
use Rattle.range_coder.specs.Senders.{Sends}
use Rattle.range_coder.proofs.sending.send_choice.Goals as goal

pub returns-clause-sends : goal.returns-clause-sends
returns-clause-sends c =
    let choice = c.args.choice in
    subst (λ n. Sends c.args.room.now c.args.sender (InPart (let part : Part = record { from = choice.from; to = choice.to; total = n } in part)) c.send_part-after.new.room c.choice_sent.result.sender)
    c.requires.total
    (subst (λ r. Sends c.args.room.now c.args.sender (InPart (let part : Part = record { from = choice.from; to = choice.to; total = c.args.shares.total } in part)) c.send_part-after.new.room r)
    (sym c.choice_sent.ensures.sender) c.send_part-after.ensures.sends)
