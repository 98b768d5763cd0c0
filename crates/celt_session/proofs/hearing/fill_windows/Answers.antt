use Rattle.std.proofs.Common.{length, sym, ap, ◌∙◌, arith}
use Rattle.celt_session.specs.Hearings.{window_at}
use Rattle.celt_session.proofs.HearingSteps.{filled_none, filled_more}
use Rattle.celt_session.proofs.hearing.fill_windows.Goals as goal

pub loop-k-init : goal.loop-k-init
loop-k-init c = filled_none c.args.kind (window_at c.args.kind c.args.samples.now) c.args.slots.now c.requires.windows

pub loop-k-preserved : goal.loop-k-preserved
loop-k-preserved c =
    filled_more c.args.kind (window_at c.args.kind c.args.samples.now) c.loop-k.slots c.loop-k.k c.fill_window.new.slot (omega arith)
    (c.fill_window.ensures ∙ c.window_in.ensures.value) (ap length (sym c.window_in.ensures.value) ∙ c.window_in.ensures.len) c.loop-k.invariant
