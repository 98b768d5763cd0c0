use Rattle.celt_encode.proofs.SpreadLemmas.{part_most}
use Rattle.celt_encode.proofs.spreads.part_of.Goals as goal

pub returns-clause-most : goal.returns-clause-most
returns-clause-most c = part_most c.args.energy c.args.parts c.requires.some
