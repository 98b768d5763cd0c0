use Rattle.std.proofs.Common.{arith}
use Rattle.celt_encode.proofs.UnitLemmas.{cleared_first, cleared_next, cleared_whole}
use Rattle.celt_encode.proofs.units.clear_from.Goals as goal

pub loop-from-init : goal.loop-from-init
loop-from-init c = cleared_first c.args.row.now c.args.at c.requires

pub loop-from-preserved : goal.loop-from-preserved
loop-from-preserved c =
    cleared_next c.args.row.now c.loop-from.row c.clear.new.row c.args.at c.loop-from.from c.min-n.result (omega (arith, c.min-n.ensures, c.loop-from-test.true)) c.clear.ensures.front c.clear.ensures.length c.loop-from.invariant

pub returns : goal.returns
returns c = cleared_whole c.args.row.now c.loop-from.row c.args.at c.loop-from.from (omega (arith, c.loop-from-test.false)) c.loop-from.invariant
