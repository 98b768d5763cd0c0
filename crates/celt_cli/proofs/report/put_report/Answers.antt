use Rattle.std.proofs.Common.{◌≡◌, ◌+◌, length, arith, rules}
use Rattle.celt_session.proofs.Putting.{decimal_short}
use Rattle.celt_cli.proofs.report.put_report.Goals as goal

pub put_decimal-at-requires : goal.put_decimal-at-requires
put_decimal-at-requires c =
    let room : length c.args.out.now ≡ 256 = c.told-out in
    let a = c.put_text-at.ensures.len in
    let b : c.put_text-at.result ≡ 0 + 7 = c.put_text-at.ensures.ends in
    let n = decimal_short c.from.result (search rules) in
    omega arith

pub put_labelled-at-requires : goal.put_labelled-at-requires
put_labelled-at-requires c =
    let room : length c.args.out.now ≡ 256 = c.told-out in
    let a = c.put_text-at.ensures.len in
    let b : c.put_text-at.result ≡ 0 + 7 = c.put_text-at.ensures.ends in
    let n = decimal_short c.from.result (search rules) in
    let d = c.put_decimal-at.ensures.len in
    let e = c.put_decimal-at.ensures.ends in
    omega arith

pub put_labelled-at-requires-2 : goal.put_labelled-at-requires-2
put_labelled-at-requires-2 c =
    let room : length c.args.out.now ≡ 256 = c.told-out in
    let a = c.put_text-at.ensures.len in
    let b : c.put_text-at.result ≡ 0 + 7 = c.put_text-at.ensures.ends in
    let n = decimal_short c.from.result (search rules) in
    let d = c.put_decimal-at.ensures.len in
    let e = c.put_decimal-at.ensures.ends in
    let f = c.put_labelled-at.ensures.put.len in
    let g = c.put_labelled-at.ensures.most in
    omega arith

pub put_hexed-at-requires : goal.put_hexed-at-requires
put_hexed-at-requires c =
    let room : length c.args.out.now ≡ 256 = c.told-out in
    let a = c.put_text-at.ensures.len in
    let b : c.put_text-at.result ≡ 0 + 7 = c.put_text-at.ensures.ends in
    let n = decimal_short c.from.result (search rules) in
    let d = c.put_decimal-at.ensures.len in
    let e = c.put_decimal-at.ensures.ends in
    let f = c.put_labelled-at.ensures.put.len in
    let g = c.put_labelled-at.ensures.most in
    let h = c.put_labelled-at-2.ensures.put.len in
    let i = c.put_labelled-at-2.ensures.most in
    omega arith

pub put_hexed-at-requires-2 : goal.put_hexed-at-requires-2
put_hexed-at-requires-2 c =
    let room : length c.args.out.now ≡ 256 = c.told-out in
    let a = c.put_text-at.ensures.len in
    let b : c.put_text-at.result ≡ 0 + 7 = c.put_text-at.ensures.ends in
    let n = decimal_short c.from.result (search rules) in
    let d = c.put_decimal-at.ensures.len in
    let e = c.put_decimal-at.ensures.ends in
    let f = c.put_labelled-at.ensures.put.len in
    let g = c.put_labelled-at.ensures.most in
    let h = c.put_labelled-at-2.ensures.put.len in
    let i = c.put_labelled-at-2.ensures.most in
    let j = c.put_hexed-at.ensures.put.len in
    let k = c.put_hexed-at.ensures.most in
    omega arith

pub put_byte-requires : goal.put_byte-requires
put_byte-requires c =
    let room : length c.args.out.now ≡ 256 = c.told-out in
    let a = c.put_text-at.ensures.len in
    let b : c.put_text-at.result ≡ 0 + 7 = c.put_text-at.ensures.ends in
    let n = decimal_short c.from.result (search rules) in
    let d = c.put_decimal-at.ensures.len in
    let e = c.put_decimal-at.ensures.ends in
    let f = c.put_labelled-at.ensures.put.len in
    let g = c.put_labelled-at.ensures.most in
    let h = c.put_labelled-at-2.ensures.put.len in
    let i = c.put_labelled-at-2.ensures.most in
    let j = c.put_hexed-at.ensures.put.len in
    let k = c.put_hexed-at.ensures.most in
    let l = c.put_hexed-at-2.ensures.put.len in
    let m = c.put_hexed-at-2.ensures.most in
    omega arith
