use Rattle.std.proofs.Common.{◌≡◌, ◌+◌, ◌≤◌, length, ap, arith, subst}
use Rattle.celt_session.specs.Texts.{IsPut}
use Rattle.celt_session.proofs.Putting.{decimal_short}
use Rattle.celt_cli.proofs.Noting.{labelled_put}
use Rattle.celt_cli.proofs.notes.put_labelled.Goals as goal

pub put_byte-at-requires : goal.put_byte-at-requires
put_byte-at-requires c =
    let room : c.args.at + length c.args.label.now + 22 ≤ length c.args.out.now = c.requires in
    omega arith

pub put_text-at-requires : goal.put_text-at-requires
put_text-at-requires c =
    let room : c.args.at + length c.args.label.now + 22 ≤ length c.args.out.now = c.requires in
    let a = c.put_byte-at.ensures.len in
    let b : c.put_byte-at.result ≡ c.args.at + 1 = c.put_byte-at.ensures.ends in
    let t = ap length c.as_bytes.ensures.value in
    omega arith

pub put_byte-at-requires-2 : goal.put_byte-at-requires-2
put_byte-at-requires-2 c =
    let room : c.args.at + length c.args.label.now + 22 ≤ length c.args.out.now = c.requires in
    let a = c.put_byte-at.ensures.len in
    let b : c.put_byte-at.result ≡ c.args.at + 1 = c.put_byte-at.ensures.ends in
    let t = ap length c.as_bytes.ensures.value in
    let d = c.put_text-at.ensures.len in
    let e = c.put_text-at.ensures.ends in
    omega arith

pub put_decimal-requires : goal.put_decimal-requires
put_decimal-requires c =
    let room : c.args.at + length c.args.label.now + 22 ≤ length c.args.out.now = c.requires in
    let a = c.put_byte-at.ensures.len in
    let b : c.put_byte-at.result ≡ c.args.at + 1 = c.put_byte-at.ensures.ends in
    let t = ap length c.as_bytes.ensures.value in
    let d = c.put_text-at.ensures.len in
    let e = c.put_text-at.ensures.ends in
    let f = c.put_byte-at-2.ensures.len in
    let g : c.put_byte-at-2.result ≡ c.put_text-at.result + 1 = c.put_byte-at-2.ensures.ends in
    let n = decimal_short c.args.number c.ranges.number.fits in
    omega arith

pub returns-clause-put : goal.returns-clause-put
returns-clause-put c =
    labelled_put c.args.out.now c.put_byte-at.new.out c.put_text-at.new.out c.put_byte-at-2.new.out c.put_decimal.new.out
    c.args.at c.put_byte-at.result c.put_text-at.result c.put_byte-at-2.result c.put_decimal.result c.args.label.now c.args.number
    c.put_byte-at.ensures (subst (IsPut c.put_byte-at.new.out c.put_text-at.new.out c.put_byte-at.result c.put_text-at.result) c.as_bytes.ensures.value c.put_text-at.ensures)
    c.put_byte-at-2.ensures c.put_decimal.ensures

pub returns-clause-most : goal.returns-clause-most
returns-clause-most c =
    let b : c.put_byte-at.result ≡ c.args.at + 1 = c.put_byte-at.ensures.ends in
    let t = ap length c.as_bytes.ensures.value in
    let e = c.put_text-at.ensures.ends in
    let g : c.put_byte-at-2.result ≡ c.put_text-at.result + 1 = c.put_byte-at-2.ensures.ends in
    let h = c.put_decimal.ensures.ends in
    let n = decimal_short c.args.number c.ranges.number.fits in
    omega arith
