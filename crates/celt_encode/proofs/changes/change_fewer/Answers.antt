use Rattle.std.proofs.Common.{arith, length}
use Rattle.celt_encode.proofs.ChangeSteps.{multiple_small}
use Rattle.celt_encode.proofs.changes.change_fewer.Goals as goal

pub put_blocks-requires-clause-wide : goal.put_blocks-requires-clause-wide
put_blocks-requires-clause-wide c =
    let e = multiple_small (length c.args.x.now) c.args.blocks c.args.times c.requires.full c.requires.most c.requires.divides in omega (arith, e)
