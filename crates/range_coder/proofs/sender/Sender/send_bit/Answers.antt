use Rattle.std.proofs.Common.{◌/◌, ◌^◌, arith}
use Rattle.std.proofs.Math.Nat.{mul-le-mul_left, div-mul-le_self}
use Rattle.celt_base.specs.Questions.{part_of, bit_row}
use Rattle.range_coder.proofs.Parts.{one_is_cut, zero_is_cut, bit_total}
use Rattle.range_coder.proofs.SentParts.{sent_part, sent_at}
use Rattle.range_coder.proofs.sender.Sender.send_bit.Goals as goal

pub narrow-requires-else-bit-eq1-clause-some : goal.narrow-requires-else-bit-eq1-clause-some
narrow-requires-else-bit-eq1-clause-some c =
    let total = bit_total c.args.p c.requires.some c.requires.most in
    let twice = mul-le-mul_left (c.args.self.width / 2 ^ c.args.p) total.0 in
    let whole = div-mul-le_self c.args.self.width (2 ^ c.args.p) in
    let wide = c.requires.wide in
    omega arith

pub returns-then-bit-eq1-clause-sends : goal.returns-then-bit-eq1-clause-sends
returns-then-bit-eq1-clause-sends c =
    let part = part_of (bit_row c.args.p) 1 in
    let cut = one_is_cut c.args.self.width c.args.p c.requires.some in
    sent_at c.args.room.now _ c.args.self _ c.args.p c.args.bit 1 (omega arith)
    (sent_part c.args.room.now _ c.args.self c.narrow.result _ part
    (λ i. c.narrow.ensures.matches c.args.room.now i part cut)
    (c.narrow.ensures.pace part cut) c.grow_wide.ensures.matches c.grow_wide.ensures.pace)

pub returns-else-bit-eq1-clause-sends : goal.returns-else-bit-eq1-clause-sends
returns-else-bit-eq1-clause-sends c =
    let part = part_of (bit_row c.args.p) 0 in
    let cut = zero_is_cut c.args.self.width c.args.p c.requires.some in
    sent_at c.args.room.now _ c.args.self _ c.args.p c.args.bit 0 (omega arith)
    (sent_part c.args.room.now _ c.args.self c.narrow-else-bit-eq1.result _ part
    (λ i. c.narrow-else-bit-eq1.ensures.matches c.args.room.now i part cut)
    (c.narrow-else-bit-eq1.ensures.pace part cut) c.grow_wide-else-bit-eq1.ensures.matches c.grow_wide-else-bit-eq1.ensures.pace)
