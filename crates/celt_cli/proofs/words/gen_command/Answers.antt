use Rattle.std.proofs.Common.{Global, map, string_bytes, ◌∙◌, sym, ap}
use Rattle.celt_cli.specs.Words.{gen_options, gen_by, seed_in, frames_in}
use Rattle.celt_cli.proofs.Finding.{parse_none, parse_some, gen_is}
use Rattle.celt_cli.proofs.words.gen_command.Goals as goal

pub returns-in_default-2-clause-value : goal.returns-in_default-2-clause-value
returns-in_default-2-clause-value c =
    sym (ap gen_by (parse_none gen_options (map (string_bytes {Z = Global}) c.args.words.now) c.in_ok-matches.field-0 c.in_default-2.is (c.in_ok-matches.ensures gen_options c.in-Ok.ensures)))

pub returns-clause-value : goal.returns-clause-value
returns-clause-value c =
    let p = parse_some gen_options (map (string_bytes {Z = Global}) c.args.words.now) c.in_ok-matches.field-0 c.in-Some.matches c.in-Some.is (c.in_ok-matches.ensures gen_options c.in-Ok.ensures) in
    let seed = c.seed_number.ensures ∙ ap seed_in (c.value.ensures p.0 p.2) in
    let frames = c.frame_count.ensures.value ∙ ap frames_in (c.value-2.ensures p.0 p.2) in
    c.gen_settings.ensures.value ∙ gen_is c.seed_number.result c.frame_count.result p.0 seed frames ∙ sym (ap gen_by p.1)
