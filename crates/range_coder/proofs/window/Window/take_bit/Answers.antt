use Rattle.std.proofs.Common.{◌/◌, ◌^◌, arith}
use Rattle.std.proofs.Math.Nat.{mul-le-mul_left, div-mul-le_self}
use Rattle.celt_base.specs.Questions.{part_of, bit_row}
use Rattle.range_coder.proofs.Cuts.{taken_part, unit_wide}
use Rattle.range_coder.proofs.Parts.{one_is_cut, zero_is_cut, bit_total}
use Rattle.range_coder.proofs.window.Window.take_bit.Goals as goal

pub grow_wide-requires-clause-least : goal.grow_wide-requires-clause-least
grow_wide-requires-clause-least c =
    let total = bit_total c.args.p c.requires.some c.requires.most in
    let unit = unit_wide c.args.self.width (2 ^ c.args.p) c.requires.wide (omega arith) total.1 in
    let width = c.narrow.ensures.width in
    omega arith

pub grow_wide-requires-else-self-upper-clause-least : goal.grow_wide-requires-else-self-upper-clause-least
grow_wide-requires-else-self-upper-clause-least c =
    let total = bit_total c.args.p c.requires.some c.requires.most in
    let width = c.narrow-else-self-upper.ensures.width in
    let twice = mul-le-mul_left (c.args.self.width / 2 ^ c.args.p) total.0 in
    let whole = div-mul-le_self c.args.self.width (2 ^ c.args.p) in
    let wide = c.requires.wide in
    omega arith

pub returns-then-self-upper-clause-takes : goal.returns-then-self-upper-clause-takes
returns-then-self-upper-clause-takes c =
    let part = part_of (bit_row c.args.p) 1 in
    let cut = one_is_cut c.args.self.width c.args.p c.requires.some in
    taken_part c.args.frame.now c.args.self c.narrow.result _ part
    (λ i. c.narrow.ensures.shows c.args.frame.now i part cut)
    (λ i. c.narrow.ensures.holds c.args.frame.now i part cut)
    (c.narrow.ensures.pace part cut) c.grow_wide.ensures.shows c.grow_wide.ensures.pace

pub returns-else-self-upper-clause-takes : goal.returns-else-self-upper-clause-takes
returns-else-self-upper-clause-takes c =
    let part = part_of (bit_row c.args.p) 0 in
    let cut = zero_is_cut c.args.self.width c.args.p c.requires.some in
    taken_part c.args.frame.now c.args.self c.narrow-else-self-upper.result _ part
    (λ i. c.narrow-else-self-upper.ensures.shows c.args.frame.now i part cut)
    (λ i. c.narrow-else-self-upper.ensures.holds c.args.frame.now i part cut)
    (c.narrow-else-self-upper.ensures.pace part cut) c.grow_wide-else-self-upper.ensures.shows c.grow_wide-else-self-upper.ensures.pace
