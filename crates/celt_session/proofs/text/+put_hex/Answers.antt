use Rattle.std.proofs.Common.{◌+◌, ◌-◌, ◌/◌, ◌%◌, ◌≤◌, [], ◌∷◌, length, sym, ◌∙◌, ap, subst, arith}
use Rattle.celt_session.specs.Texts.{hex_digit, hex_digits, IsPut}
use Rattle.celt_session.proofs.Putting.{put_none, put_then, hex-none, hex-behind, hex_len}
use Rattle.celt_session.proofs.text.+put_hex.Goals as goal

pub returns-then-count-eq0 : goal.returns-then-count-eq0
returns-then-count-eq0 t c =
    subst (IsPut c.args.out.now c.args.out.now c.args.at c.args.at) (sym (ap (λ n. hex_digits n c.args.number) c.if-count-eq0.true ∙ hex-none c.args.number)) (put_none c.args.out.now c.args.at)

pub put_byte-requires : goal.put_byte-requires
put_byte-requires t c =
    let some = c.if-count-eq0.false in
    let room : c.args.at + c.args.count ≤ length c.args.out.now = c.requires in
    let len = c.put_hex-end.ensures.len in
    let ends = c.put_hex-end.ensures.ends in
    let many = hex_len (c.args.count - 1) (c.args.number / 16) in
    omega arith

pub returns : goal.returns
returns t c =
    let some = c.if-count-eq0.false in
    subst (IsPut c.args.out.now c.put_byte.new.out c.args.at c.put_byte.result) (sym (hex-behind c.args.count c.args.number (omega arith)))
    (put_then c.args.out.now c.put_hex-end.new.out c.put_byte.new.out c.args.at c.put_hex-end.result c.put_byte.result (hex_digits (c.args.count - 1) (c.args.number / 16)) (hex_digit (c.args.number % 16) ∷ [])
    c.put_hex-end.ensures (subst (λ d. IsPut c.put_hex-end.new.out c.put_byte.new.out c.put_hex-end.result c.put_byte.result (d ∷ [])) c.hex_digit.ensures c.put_byte.ensures))
