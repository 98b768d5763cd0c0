use Rattle.std.proofs.Common.{◌≡◌, ◌+◌, ◌≤◌, length, ap, arith, subst}
use Rattle.std.specs.Fmt.{decimal}
use Rattle.celt_session.specs.Texts.{IsPut}
use Rattle.celt_session.proofs.Putting.{decimal_short}
use Rattle.celt_cli.proofs.Noting.{opening_put}
use Rattle.celt_cli.proofs.notes.put_opening.Goals as goal

pub put_text-at-requires : goal.put_text-at-requires
put_text-at-requires c =
    let room : length c.args.word.now + 27 ≤ length c.args.out.now = c.requires in
    omega arith

pub put_decimal-at-requires : goal.put_decimal-at-requires
put_decimal-at-requires c =
    let room : length c.args.word.now + 27 ≤ length c.args.out.now = c.requires in
    let a = c.put_text-at.ensures.len in
    let b : c.put_text-at.result ≡ 0 + 6 = c.put_text-at.ensures.ends in
    let n = decimal_short c.from.result (let f = c.from.ensures in let r = c.ranges.number.fits in omega arith) in
    omega arith

pub put_byte-at-requires : goal.put_byte-at-requires
put_byte-at-requires c =
    let room : length c.args.word.now + 27 ≤ length c.args.out.now = c.requires in
    let a = c.put_text-at.ensures.len in
    let b : c.put_text-at.result ≡ 0 + 6 = c.put_text-at.ensures.ends in
    let n = decimal_short c.from.result (let f = c.from.ensures in let r = c.ranges.number.fits in omega arith) in
    let d = c.put_decimal-at.ensures.len in
    let e = c.put_decimal-at.ensures.ends in
    omega arith

pub put_text-requires : goal.put_text-requires
put_text-requires c =
    let room : length c.args.word.now + 27 ≤ length c.args.out.now = c.requires in
    let a = c.put_text-at.ensures.len in
    let b : c.put_text-at.result ≡ 0 + 6 = c.put_text-at.ensures.ends in
    let n = decimal_short c.from.result (let f = c.from.ensures in let r = c.ranges.number.fits in omega arith) in
    let d = c.put_decimal-at.ensures.len in
    let e = c.put_decimal-at.ensures.ends in
    let f = c.put_byte-at.ensures.len in
    let g : c.put_byte-at.result ≡ c.put_decimal-at.result + 1 = c.put_byte-at.ensures.ends in
    let t = ap length c.as_bytes.ensures.value in
    omega arith

pub returns-clause-put : goal.returns-clause-put
returns-clause-put c =
    opening_put c.args.out.now c.put_text-at.new.out c.put_decimal-at.new.out c.put_byte-at.new.out c.put_text.new.out
    0 c.put_text-at.result c.put_decimal-at.result c.put_byte-at.result c.put_text.result c.args.number c.args.word.now
    c.put_text-at.ensures
    (subst (λ n. IsPut c.put_text-at.new.out c.put_decimal-at.new.out c.put_text-at.result c.put_decimal-at.result (decimal n)) c.from.ensures c.put_decimal-at.ensures)
    c.put_byte-at.ensures
    (subst (IsPut c.put_byte-at.new.out c.put_text.new.out c.put_byte-at.result c.put_text.result) c.as_bytes.ensures.value c.put_text.ensures)

pub returns-clause-most : goal.returns-clause-most
returns-clause-most c =
    let b : c.put_text-at.result ≡ 0 + 6 = c.put_text-at.ensures.ends in
    let n = decimal_short c.from.result (let f = c.from.ensures in let r = c.ranges.number.fits in omega arith) in
    let e = c.put_decimal-at.ensures.ends in
    let g : c.put_byte-at.result ≡ c.put_decimal-at.result + 1 = c.put_byte-at.ensures.ends in
    let h = c.put_text.ensures.ends in
    let t = ap length c.as_bytes.ensures.value in
    omega arith
