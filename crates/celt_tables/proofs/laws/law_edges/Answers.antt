use Rattle.celt_tables.proofs.Entries.{edges_rise}
use Rattle.celt_tables.proofs.laws.law_edges.Goals as goal

pub returns-clause-rise : goal.returns-clause-rise
returns-clause-rise c = edges_rise
