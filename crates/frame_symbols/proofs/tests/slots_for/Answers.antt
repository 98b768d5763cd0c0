use Rattle.std.proofs.Common.{arith, sym, subst}
use Rattle.frame_symbols.specs.Batches.{PartsInside}
use Rattle.frame_symbols.proofs.BatchSteps.{inside_more}
use Rattle.frame_symbols.proofs.tests.slots_for.Goals as goal

pub loop-k-preserved : goal.loop-k-preserved
loop-k-preserved c =
    let from = c.min.ensures in
    let to = c.min-to.ensures in
    let short = c.requires in
    subst (PartsInside c.args.bytes.now) (sym c.in-Ok-push.ensures.items)
    (inside_more c.args.bytes.now c.loop-k.slots.items _ c.loop-k.invariant
    (record { rises = omega (arith, from); inside = omega (arith, to); most = omega (arith, to, short) }))
