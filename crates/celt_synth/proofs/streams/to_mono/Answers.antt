use Rattle.std.proofs.Common.{arith}
use Rattle.celt_synth.proofs.StreamLemmas.{first_mixed, first_left}
use Rattle.celt_synth.proofs.streams.to_mono.Goals as goal

pub returns-then-channels-gt1-clause-value : goal.returns-then-channels-gt1-clause-value
returns-then-channels-gt1-clause-value c = first_mixed c.args.channels c.args.left.now c.args.right.now _ (omega (arith, c.if-channels-gt1.true)) c.mix.ensures.value

pub returns-else-channels-gt1-clause-value : goal.returns-else-channels-gt1-clause-value
returns-else-channels-gt1-clause-value c = first_left c.args.channels c.args.left.now c.args.right.now (omega (arith, c.if-channels-gt1.false))
