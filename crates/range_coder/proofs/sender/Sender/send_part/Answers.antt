use Rattle.celt_base.specs.Intervals.{Part}
use Rattle.range_coder.specs.Windows.{IsCut}
use Rattle.range_coder.proofs.SentParts.{sent_part}
use Rattle.range_coder.proofs.sender.Sender.send_part.Goals as goal

pub returns-clause-sends : goal.returns-clause-sends
returns-clause-sends c =
    let part : Part = record { from = c.args.from; to = c.args.to; total = c.args.shares.total } in
    let cut : IsCut c.args.self.width part c.depth_at-lower.result c.depth_at-upper.result =
    record { from = c.depth_at-lower.ensures.value; to = c.depth_at-upper.ensures.value } in
    sent_part c.args.room.now _ c.args.self c.narrow.result _ part
    (λ i. c.narrow.ensures.matches c.args.room.now i part cut)
    (c.narrow.ensures.pace part cut) c.grow_wide.ensures.matches c.grow_wide.ensures.pace
