use Rattle.std.proofs.Common.{ap}
use Rattle.std.specs.Int.RustNames.{bit_or}
use Rattle.band_shapes.proofs.ChangeLemmas.{twice_below, twice_shift}
use Rattle.band_shapes.proofs.change.twice.Goals as goal

pub returns-clause-value : goal.returns-clause-value
returns-clause-value c = ap (bit_or c.args.mask) (twice_shift c.args.mask c.args.blocks c.requires.blocks c.requires.mask)

pub returns-clause-size : goal.returns-clause-size
returns-clause-size c = rw (twice_shift c.args.mask c.args.blocks c.requires.blocks c.requires.mask) (twice_below c.args.mask c.args.blocks c.requires.mask)
