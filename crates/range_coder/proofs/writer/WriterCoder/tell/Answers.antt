use Rattle.std.proofs.Common.{arith}
use Rattle.celt_base.specs.Paces.{tell_of}
use Rattle.range_coder.proofs.Digits.{length_is}
use Rattle.range_coder.proofs.writer.WriterCoder.tell.Goals as goal

pub returns-clause-least : goal.returns-clause-least
unfolding tell_of
returns-clause-least c =
    let value = c.tell.ensures.value in
    omega arith

pub returns-clause-most : goal.returns-clause-most
unfolding tell_of
returns-clause-most c =
    let writer = c.args.self.now in
    let narrow = writer.sender.narrow in
    let paced = writer.paced in
    let length = length_is writer.sender.width writer.wide (omega arith) in
    let least = length.least in
    let value = c.tell.ensures.value in
    omega arith
