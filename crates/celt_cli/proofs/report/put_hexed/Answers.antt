use Rattle.std.proofs.Common.{◌≡◌, ◌+◌, length, ap, arith}
use Rattle.celt_session.proofs.Putting.{hex_len}
use Rattle.celt_cli.proofs.report.put_hexed.Goals as goal

pub returns-clause-most : goal.returns-clause-most
returns-clause-most c =
    let b : c.put_byte-at.result ≡ c.args.at + 1 = c.put_byte-at.ensures.ends in
    let t = ap length c.as_bytes.ensures.value in
    let e = c.put_text-at.ensures.ends in
    let g : c.put_byte-at-2.result ≡ c.put_text-at.result + 1 = c.put_byte-at-2.ensures.ends in
    let h = c.put_hex.ensures.ends in
    let n = hex_len 8 c.args.number in
    omega arith
