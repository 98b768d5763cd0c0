use Rattle.celt_cli.proofs.SpellingLemmas.{options_written, written_read}
use Rattle.celt_cli.proofs.laws.law_options.Goals as goal

pub returns-clause-written : goal.returns-clause-written
returns-clause-written c = options_written

pub returns-clause-read : goal.returns-clause-read
returns-clause-read c = written_read
