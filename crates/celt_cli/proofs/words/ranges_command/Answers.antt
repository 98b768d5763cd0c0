use Rattle.std.proofs.Common.{Global, map, string_bytes, sym, ap, []}
use Rattle.celt_cli.specs.Words.{ranges_by}
use Rattle.celt_cli.proofs.Finding.{parse_none, parse_some}
use Rattle.celt_cli.proofs.words.ranges_command.Goals as goal

pub returns-in_default : goal.returns-in_default
returns-in_default c =
    sym (ap ranges_by (parse_none [] (map (string_bytes {Z = Global}) c.args.words.now) c.in_ok-parsed.field-0 c.in_default.is (c.in_ok-parsed.ensures [] c.plain_parser.ensures)))

pub returns : goal.returns
returns c =
    let p = parse_some [] (map (string_bytes {Z = Global}) c.args.words.now) c.in_ok-parsed.field-0 c.in-Some.field-0 c.in-Some.is (c.in_ok-parsed.ensures [] c.plain_parser.ensures) in
    sym (ap ranges_by p.1)
