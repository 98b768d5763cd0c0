use Rattle.std.proofs.Common.{Global, map, string_bytes, ◌∙◌}
use Rattle.clap.specs.Words.{app_of}
use Rattle.celt_cli.proofs.Finding.{found_ok, found_none}
use Rattle.celt_cli.proofs.words.parsed.Goals as goal

pub returns-in-Ok : goal.returns-in-Ok
returns-in-Ok c = λ knowns is. found_ok knowns (map (string_bytes {Z = Global}) c.args.words.now) (app_of c.args.parser) c.in-Ok.matches is c.in-Ok.ensures.kinds c.in-Ok.ensures.matches

pub returns-in_ok-refused-in-Err : goal.returns-in_ok-refused-in-Err
returns-in_ok-refused-in-Err c = λ knowns is. found_none knowns (map (string_bytes {Z = Global}) c.args.words.now) (app_of c.args.parser) c.in-Err.error is c.in-Err.ensures.kinds
    (λ out. c.in_ok-refused-in-Err.ensures (c.kind.ensures ∙ out))
