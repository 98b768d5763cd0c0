use Rattle.std.proofs.Common.{arith}
use Rattle.celt_synth.proofs.StreamLemmas.{second_copied, second_right}
use Rattle.celt_synth.proofs.streams.to_stereo.Goals as goal

pub returns-then-channels-eq1-clause-value : goal.returns-then-channels-eq1-clause-value
returns-then-channels-eq1-clause-value c = second_copied c.args.channels c.args.left.now c.args.right.now _ (omega (arith, c.if-channels-eq1.true)) c.copy_from_slice.ensures.after

pub returns-else-channels-eq1-clause-value : goal.returns-else-channels-eq1-clause-value
returns-else-channels-eq1-clause-value c = second_right c.args.channels c.args.left.now c.args.right.now c.if-channels-eq1.false
