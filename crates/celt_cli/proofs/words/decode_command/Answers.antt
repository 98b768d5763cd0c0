use Rattle.std.proofs.Common.{Global, map, string_bytes, ◌∙◌, sym, ap}
use Rattle.celt_cli.specs.Words.{decode_options, decode_by}
use Rattle.celt_cli.proofs.Finding.{parse_none, parse_some, decode_is}
use Rattle.celt_cli.proofs.words.decode_command.Goals as goal

pub returns-in_default-2 : goal.returns-in_default-2
returns-in_default-2 c =
    sym (ap decode_by (parse_none decode_options (map (string_bytes {Z = Global}) c.args.words.now) c.in_ok-matches.field-0 c.in_default-2.is (c.in_ok-matches.ensures decode_options c.in-Ok.ensures)))

pub returns : goal.returns
returns c =
    let p = parse_some decode_options (map (string_bytes {Z = Global}) c.args.words.now) c.in_ok-matches.field-0 c.in-Some.matches c.in-Some.is (c.in_ok-matches.ensures decode_options c.in-Ok.ensures) in
    let raw = c.has.ensures p.0 p.2 in
    let invert = c.has-invert.ensures p.0 p.2 in
    decode_is c.form_of-form.result c.has.result c.has-invert.result p.0 c.form_of-form.ensures raw invert ∙ sym (ap decode_by p.1)
