use Rattle.std.proofs.Common.{arith}
use Rattle.celt_session.proofs.EncoderWorkSteps.{shortened_none, shortened_more}
use Rattle.celt_session.proofs.encoder_work.shorten_windows.Goals as goal

pub loop-k-init : goal.loop-k-init
loop-k-init c = shortened_none c.args.kind c.args.slots.now c.requires

pub loop-k-preserved : goal.loop-k-preserved
loop-k-preserved c = shortened_more c.args.kind c.loop-k.slots c.loop-k.k c.shorten_window.new.slot (omega arith) c.shorten_window.ensures c.loop-k.invariant
