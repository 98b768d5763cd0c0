use Rattle.std.proofs.Common.{arith}
use Rattle.celt_tables.proofs.Entries.{caps_most}
use Rattle.celt_tables.proofs.bits.caps_entry.Goals as goal

pub returns-clause-most : goal.returns-clause-most
returns-clause-most c = caps_most c.args.row c.args.i c.requires.row (omega arith)
