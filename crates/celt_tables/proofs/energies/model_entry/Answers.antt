use Rattle.std.proofs.Common.{true, false, arith}
use Rattle.celt_tables.proofs.Entries.{model_within}
use Rattle.celt_tables.proofs.energies.model_entry.Goals as goal

pub returns-then-intra-clause-least : goal.returns-then-intra-clause-least
returns-then-intra-clause-least c = (model_within c.args.lm true c.args.place (omega arith) c.requires.place).0

pub returns-then-intra-clause-most : goal.returns-then-intra-clause-most
returns-then-intra-clause-most c = (model_within c.args.lm true c.args.place (omega arith) c.requires.place).1

pub returns-else-intra-clause-least : goal.returns-else-intra-clause-least
returns-else-intra-clause-least c = (model_within c.args.lm false c.args.place (omega arith) c.requires.place).0

pub returns-else-intra-clause-most : goal.returns-else-intra-clause-most
returns-else-intra-clause-most c = (model_within c.args.lm false c.args.place (omega arith) c.requires.place).1
