use Rattle.std.proofs.Common.{◌∙◌}
use Rattle.clap.specs.Words.{found_of}
use Rattle.celt_cli.proofs.Finding.{has_of}
use Rattle.celt_cli.proofs.words.has.Goals as goal

pub returns : goal.returns
returns c = λ givens h. c.contains_id.ensures ∙ has_of (found_of c.args.matches.now) c.args.name.now givens h
