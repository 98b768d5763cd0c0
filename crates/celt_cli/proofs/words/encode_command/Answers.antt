use Rattle.std.proofs.Common.{Global, map, string_bytes, ◌∙◌, sym, ap}
use Rattle.celt_cli.specs.Words.{encode_options, encode_by, bytes_in, frame_in, band_in, group_in}
use Rattle.celt_cli.proofs.Finding.{parse_none, parse_some, encode_is}
use Rattle.celt_cli.proofs.words.encode_command.Goals as goal

pub returns-in_default-2-clause-value : goal.returns-in_default-2-clause-value
returns-in_default-2-clause-value c =
    sym (ap encode_by (parse_none encode_options (map (string_bytes {Z = Global}) c.args.words.now) c.in_ok-matches.field-0 c.in_default-2.is (c.in_ok-matches.ensures encode_options c.in-Ok.ensures)))

pub returns-clause-value : goal.returns-clause-value
returns-clause-value c =
    let p = parse_some encode_options (map (string_bytes {Z = Global}) c.args.words.now) c.in_ok-matches.field-0 c.in-Some.matches c.in-Some.is (c.in_ok-matches.ensures encode_options c.in-Ok.ensures) in
    let bytes = c.frame_bytes.ensures.value ∙ ap bytes_in (c.value.ensures p.0 p.2) in
    let frame = c.frame_samples.ensures.value ∙ ap frame_in (c.value-2.ensures p.0 p.2) in
    let band = c.bandwidth.ensures.value ∙ ap band_in (c.value-3.ensures p.0 p.2) in
    let group = c.group_frames.ensures.value ∙ ap group_in (c.value-4.ensures p.0 p.2) in
    c.encode_settings.ensures.value ∙ encode_is c.frame_bytes.result c.frame_samples.result c.bandwidth.result c.group_frames.result p.0 bytes frame band group ∙ sym (ap encode_by p.1)
