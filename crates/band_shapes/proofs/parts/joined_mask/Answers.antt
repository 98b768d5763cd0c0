use Rattle.std.proofs.Common.{ap}
use Rattle.std.specs.Int.RustNames.{bit_or}
use Rattle.band_shapes.proofs.PartLemmas.{mask_joined, mask_shift}
use Rattle.band_shapes.proofs.parts.joined_mask.Goals as goal

pub returns-clause-value : goal.returns-clause-value
returns-clause-value c = ap (bit_or c.args.first) (mask_shift c.args.blocks c.args.second c.requires.blocks c.requires.second)

pub returns-clause-size : goal.returns-clause-size
returns-clause-size c = rw (mask_shift c.args.blocks c.args.second c.requires.blocks c.requires.second) (mask_joined c.args.blocks c.args.first c.args.second c.requires.blocks c.requires.first c.requires.second)
