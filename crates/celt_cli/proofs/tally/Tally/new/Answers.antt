use Rattle.celt_cli.proofs.Tallying.{none_tallied}
use Rattle.celt_cli.proofs.tally.Tally.new.Goals as goal

pub returns-clause-tallied : goal.returns-clause-tallied
returns-clause-tallied c = none_tallied
