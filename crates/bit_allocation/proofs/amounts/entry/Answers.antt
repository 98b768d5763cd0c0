use Rattle.std.proofs.Common.{arith}
use Rattle.celt_tables.proofs.Entries.{allocation_most}
use Rattle.bit_allocation.proofs.amounts.entry.Goals as goal

pub returns-clause-most : goal.returns-clause-most
returns-clause-most c = allocation_most c.args.quality c.args.band (omega (arith, c.requires.quality)) (omega (arith, c.requires.band))
