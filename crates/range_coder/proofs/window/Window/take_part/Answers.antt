use Rattle.std.proofs.Common.{arith}
use Rattle.celt_base.specs.Intervals.{Part}
use Rattle.range_coder.specs.Windows.{IsCut}
use Rattle.range_coder.proofs.Cuts.{taken_part, unit_wide, part_wide, depth_within, depth_above}
use Rattle.range_coder.proofs.window.Window.take_part.Goals as goal

pub narrow-requires-clause-holds_upper : goal.narrow-requires-clause-holds_upper
narrow-requires-clause-holds_upper c =
    let unit = unit_wide c.args.self.width c.args.shares.total c.requires.wide (omega arith) c.requires.most in
    let within = depth_within c.args.self c.args.shares.total c.args.to (omega arith) c.requires.below c.requires.within in
    let upper = c.depth_at-upper.ensures.value in
    omega arith

pub narrow-requires-clause-holds_lower : goal.narrow-requires-clause-holds_lower
narrow-requires-clause-holds_lower c =
    let unit = unit_wide c.args.self.width c.args.shares.total c.requires.wide (omega arith) c.requires.most in
    let above = depth_above c.args.self c.args.shares.total c.args.from (omega arith) c.requires.above (omega arith) in
    let lower = c.depth_at-lower.ensures.value in
    omega arith

pub grow_wide-requires-clause-least : goal.grow_wide-requires-clause-least
grow_wide-requires-clause-least c =
    let unit = unit_wide c.args.self.width c.args.shares.total c.requires.wide (omega arith) c.requires.most in
    let above = c.requires.above in
    let below = c.requires.below in
    let part = part_wide c.args.self.width c.args.shares.total c.args.from c.args.to (omega arith) c.requires.within in
    let lower = c.depth_at-lower.ensures.value in
    let upper = c.depth_at-upper.ensures.value in
    let width = c.narrow.ensures.width in
    omega arith

pub returns-clause-takes : goal.returns-clause-takes
returns-clause-takes c =
    let part : Part = record { from = c.args.from; to = c.args.to; total = c.args.shares.total } in
    let cut : IsCut c.args.self.width part c.depth_at-lower.result c.depth_at-upper.result =
    record { from = c.depth_at-lower.ensures.value; to = c.depth_at-upper.ensures.value } in
    taken_part c.args.frame.now c.args.self c.narrow.result _ part
    (λ i. c.narrow.ensures.shows c.args.frame.now i part cut)
    (λ i. c.narrow.ensures.holds c.args.frame.now i part cut)
    (c.narrow.ensures.pace part cut) c.grow_wide.ensures.shows c.grow_wide.ensures.pace
