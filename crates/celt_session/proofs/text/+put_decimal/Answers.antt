use Rattle.std.proofs.Common.{◌≡◌, ◌+◌, ◌≤◌, length, arith}
use Rattle.std.specs.Fmt.{decimal}
use Rattle.celt_session.proofs.Putting.{put_decimal_one, put_decimal_more, decimal_room, decimal_one_room}
use Rattle.celt_session.proofs.text.+put_decimal.Goals as goal

pub put_byte-requires : goal.put_byte-requires
put_byte-requires t c =
    let one = decimal_one_room c.args.number c.if-number-lt10.true in
    let room : c.args.at + length (decimal c.args.number) ≤ length c.args.out.now = c.requires in
    omega arith

pub returns-then-number-lt10 : goal.returns-then-number-lt10
returns-then-number-lt10 t c = put_decimal_one c.args.out.now c.put_byte.new.out c.args.at c.put_byte.result c.args.number c.if-number-lt10.true c.put_byte.ensures

pub put_decimal-end-requires : goal.put_decimal-end-requires
put_decimal-end-requires t c =
    let ten = c.if-number-lt10.false in
    let more = decimal_room c.args.number (omega arith) c.ranges.number.fits in
    let room : c.args.at + length (decimal c.args.number) ≤ length c.args.out.now = c.requires in
    let same : c.args.number ≡ t = c.decreases in
    (omega arith, omega arith)

pub put_byte-requires-2 : goal.put_byte-requires-2
put_byte-requires-2 t c =
    let ten = c.if-number-lt10.false in
    let more = decimal_room c.args.number (omega arith) c.ranges.number.fits in
    let room : c.args.at + length (decimal c.args.number) ≤ length c.args.out.now = c.requires in
    let len = c.put_decimal-end.ensures.len in
    let ends = c.put_decimal-end.ensures.ends in
    omega arith

pub returns : goal.returns
returns t c =
    let ten = c.if-number-lt10.false in
    put_decimal_more c.args.out.now c.put_decimal-end.new.out c.put_byte-2.new.out c.args.at c.put_decimal-end.result c.put_byte-2.result c.args.number (omega arith) c.ranges.number.fits
    c.put_decimal-end.ensures c.put_byte-2.ensures
