use Rattle.celt_tables.proofs.Entries.{allocation_most, allocation_rises}
use Rattle.celt_tables.proofs.laws.law_allocation.Goals as goal

pub returns-clause-most : goal.returns-clause-most
returns-clause-most c = allocation_most

pub returns-clause-rise : goal.returns-clause-rise
returns-clause-rise c = allocation_rises
