use Rattle.std.proofs.Common.{◌-◌, arith, ap}
use Rattle.celt_base.specs.Paces.{tell_of}
use Rattle.range_coder.proofs.Digits.{length_is}
use Rattle.range_coder.proofs.reader.ReaderCoder.tell.Goals as goal

pub returns-clause-value : goal.returns-clause-value
unfolding tell_of
returns-clause-value c = ap (λ n. c.args.self.now.window.bits - n) c.bit_length.ensures

pub returns-clause-most : goal.returns-clause-most
returns-clause-most c =
    let reader = c.args.self.now in
    let narrow = reader.window.narrow in
    let paced = reader.paced in
    let length = length_is reader.window.width reader.wide (omega arith) in
    let least = length.least in
    omega arith
