use Rattle.std.proofs.Common.{◌+◌, ◌-◌, ◌*◌, ◌/◌, ◌%◌, ◌^◌, length, arith}
use Rattle.range_coder.proofs.Finishing.{room_left, few_bits, end_small, whole_added, whole_front, overrun}
use Rattle.range_coder.proofs.sender.Sender.finish.Goals as goal

pub returns-then-tell-room-clause-finished : goal.returns-then-tell-room-clause-finished
returns-then-tell-room-clause-finished c =
    λ i is. overrun c.args.room.now c.fill.new.self c.args.self i c.tell-tell.result c.fill.ensures.len
    (c.fill.ensures.after (λ y h. h)) c.tell-tell.ensures.value c.if-tell-room.true is

pub add-requires-clause-within : goal.add-requires-clause-within
add-requires-clause-within c =
    let left = room_left c.args.self c.ending-ending.result.bits c.tell-tell.result (length c.args.room.now) c.tell-tell.ensures.value c.if-tell-room.false c.ending-ending.ensures.few in
    omega arith

pub add-requires-clause-small : goal.add-requires-clause-small
add-requires-clause-small c =
    let few = few_bits c.args.self c.ending-ending.result.bits c.requires.wide c.ending-ending.ensures.few in
    let small = end_small c.ending-ending.result.first c.ending-ending.result.bits c.ending-ending.ensures.first few in
    omega arith

pub returns-then-ending-gt0-clause-finished : goal.returns-then-ending-gt0-clause-finished
returns-then-ending-gt0-clause-finished c =
    λ i is.
    let s = c.args.self in
    let bits = c.ending-ending.result.bits in
    let first = c.ending-ending.result.first in
    let few = few_bits s bits c.requires.wide c.ending-ending.ensures.few in
    let small = end_small first bits c.ending-ending.ensures.first few in
    let value = first * 2 ^ (8 * ((bits + 7) / 8) - bits) % 2 ^ 32 in
    let left = room_left s bits c.tell-tell.result (length c.args.room.now) c.tell-tell.ensures.value c.if-tell-room.false c.ending-ending.ensures.few in
    whole_added c.args.room.now c.add.new.room s i bits first c.tell-tell.result value c.add.ensures.len (λ k. omega (arith, c.type_inv.room k))
    c.tell-tell.ensures.value c.if-tell-room.false (record { left = left; few = few; ending = c.ending-ending.ensures.ending }) c.if-ending-gt0.true
    (omega arith) c.add.ensures.sum is

pub returns-else-ending-gt0-clause-finished : goal.returns-else-ending-gt0-clause-finished
returns-else-ending-gt0-clause-finished c =
    λ i is.
    let s = c.args.self in
    let bits = c.ending-ending.result.bits in
    let few = few_bits s bits c.requires.wide c.ending-ending.ensures.few in
    let left = room_left s bits c.tell-tell.result (length c.args.room.now) c.tell-tell.ensures.value c.if-tell-room.false c.ending-ending.ensures.few in
    whole_front c.args.room.now s i bits c.ending-ending.result.first c.tell-tell.result (λ k. omega (arith, c.type_inv.room k))
    c.tell-tell.ensures.value c.if-tell-room.false (record { left = left; few = few; ending = c.ending-ending.ensures.ending }) (omega arith) is
