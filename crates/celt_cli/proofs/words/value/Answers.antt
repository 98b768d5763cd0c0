use Rattle.std.proofs.Common.{◌∙◌}
use Rattle.clap.specs.Words.{found_of}
use Rattle.celt_cli.proofs.Finding.{value_is}
use Rattle.celt_cli.proofs.words.value.Goals as goal

pub returns : goal.returns
returns c = λ givens h. c.get_str.ensures ∙ value_is (found_of c.args.matches.now) c.args.name.now givens h
