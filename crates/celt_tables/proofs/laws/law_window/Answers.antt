use Rattle.celt_tables.proofs.Entries.{window_rises, window_most}
use Rattle.celt_tables.proofs.laws.law_window.Goals as goal

pub returns-clause-rise : goal.returns-clause-rise
returns-clause-rise c = window_rises

pub returns-clause-most : goal.returns-clause-most
returns-clause-most c = window_most
