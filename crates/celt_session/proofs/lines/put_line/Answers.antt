use Rattle.std.proofs.Common.{◌≡◌, ◌+◌, length, arith}
use Rattle.celt_session.proofs.Putting.{decimal_short, decimal_four, hex_len, line_is}
use Rattle.celt_session.proofs.lines.put_line.Goals as goal

pub put_decimal-at-requires : goal.put_decimal-at-requires
put_decimal-at-requires c =
    let n = decimal_short c.args.number c.ranges.number.fits in
    let room : length c.args.out.now ≡ 64 = c.told-out in
    omega arith

pub put_byte-at-requires : goal.put_byte-at-requires
put_byte-at-requires c =
    let n = decimal_short c.args.number c.ranges.number.fits in
    let room : length c.args.out.now ≡ 64 = c.told-out in
    let a = c.put_decimal-at.ensures.len in
    let b = c.put_decimal-at.ensures.ends in
    omega arith

pub put_decimal-at-requires-2 : goal.put_decimal-at-requires-2
put_decimal-at-requires-2 c =
    let n = decimal_short c.args.number c.ranges.number.fits in
    let m = decimal_four c.args.len c.requires.short in
    let room : length c.args.out.now ≡ 64 = c.told-out in
    let a = c.put_decimal-at.ensures.len in
    let b = c.put_decimal-at.ensures.ends in
    let d = c.put_byte-at.ensures.len in
    let e : c.put_byte-at.result ≡ c.put_decimal-at.result + 1 = c.put_byte-at.ensures.ends in
    omega arith

pub put_byte-at-requires-2 : goal.put_byte-at-requires-2
put_byte-at-requires-2 c =
    let n = decimal_short c.args.number c.ranges.number.fits in
    let m = decimal_four c.args.len c.requires.short in
    let room : length c.args.out.now ≡ 64 = c.told-out in
    let a = c.put_decimal-at.ensures.len in
    let b = c.put_decimal-at.ensures.ends in
    let d = c.put_byte-at.ensures.len in
    let e : c.put_byte-at.result ≡ c.put_decimal-at.result + 1 = c.put_byte-at.ensures.ends in
    let f = c.put_decimal-at-2.ensures.len in
    let g = c.put_decimal-at-2.ensures.ends in
    omega arith

pub put_hex-at-requires : goal.put_hex-at-requires
put_hex-at-requires c =
    let n = decimal_short c.args.number c.ranges.number.fits in
    let m = decimal_four c.args.len c.requires.short in
    let room : length c.args.out.now ≡ 64 = c.told-out in
    let a = c.put_decimal-at.ensures.len in
    let b = c.put_decimal-at.ensures.ends in
    let d = c.put_byte-at.ensures.len in
    let e : c.put_byte-at.result ≡ c.put_decimal-at.result + 1 = c.put_byte-at.ensures.ends in
    let f = c.put_decimal-at-2.ensures.len in
    let g = c.put_decimal-at-2.ensures.ends in
    let h = c.put_byte-at-2.ensures.len in
    let i : c.put_byte-at-2.result ≡ c.put_decimal-at-2.result + 1 = c.put_byte-at-2.ensures.ends in
    omega arith

pub put_byte-requires : goal.put_byte-requires
put_byte-requires c =
    let n = decimal_short c.args.number c.ranges.number.fits in
    let m = decimal_four c.args.len c.requires.short in
    let room : length c.args.out.now ≡ 64 = c.told-out in
    let a = c.put_decimal-at.ensures.len in
    let b = c.put_decimal-at.ensures.ends in
    let d = c.put_byte-at.ensures.len in
    let e : c.put_byte-at.result ≡ c.put_decimal-at.result + 1 = c.put_byte-at.ensures.ends in
    let f = c.put_decimal-at-2.ensures.len in
    let g = c.put_decimal-at-2.ensures.ends in
    let h = c.put_byte-at-2.ensures.len in
    let i : c.put_byte-at-2.result ≡ c.put_decimal-at-2.result + 1 = c.put_byte-at-2.ensures.ends in
    let k = c.put_hex-at.ensures.len in
    let l = c.put_hex-at.ensures.ends in
    let x = hex_len 8 c.args.range in
    omega arith

pub returns-clause-line : goal.returns-clause-line
returns-clause-line c =
    line_is c.args.out.now c.put_decimal-at.new.out c.put_byte-at.new.out c.put_decimal-at-2.new.out c.put_byte-at-2.new.out c.put_hex-at.new.out c.put_byte.new.out
    c.put_decimal-at.result c.put_byte-at.result c.put_decimal-at-2.result c.put_byte-at-2.result c.put_hex-at.result c.put_byte.result c.args.number c.args.len c.args.range
    c.put_decimal-at.ensures c.put_byte-at.ensures c.put_decimal-at-2.ensures c.put_byte-at-2.ensures c.put_hex-at.ensures c.put_byte.ensures
