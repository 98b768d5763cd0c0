use Rattle.std.proofs.Common.{sym, subst}
use Rattle.celt_analysis.specs.Batches.{AreWindows}
use Rattle.celt_analysis.proofs.BatchSteps.{windows_more}
use Rattle.celt_analysis.proofs.tests.slots_for.Goals as goal

pub loop-frame-preserved : goal.loop-frame-preserved
loop-frame-preserved c =
    subst (AreWindows c.args.source.kind) (sym c.in-Ok-push.ensures.items)
    (windows_more c.args.source.kind c.loop-frame.slots.items _ c.loop-frame.invariant c.in-Ok-slot_for.ensures)
