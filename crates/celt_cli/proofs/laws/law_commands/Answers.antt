use Rattle.std.proofs.Common.{refl}
use Rattle.celt_cli.proofs.Finding.{no_command, one_of_four}
use Rattle.celt_cli.proofs.laws.law_commands.Goals as goal

pub returns-clause-some : goal.returns-clause-some
returns-clause-some c = no_command

pub returns-clause-named : goal.returns-clause-named
returns-clause-named c = one_of_four

pub returns-clause-plain : goal.returns-clause-plain
returns-clause-plain c = (refl, refl, refl)
