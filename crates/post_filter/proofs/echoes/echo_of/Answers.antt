use Rattle.std.proofs.Common.{sym}
use Rattle.post_filter.proofs.EchoLemmas.{echo_zero}
use Rattle.post_filter.proofs.echoes.echo_of.Goals as goal

pub returns-then-taps-eq0-2-clause-value : goal.returns-then-taps-eq0-2-clause-value
returns-then-taps-eq0-2-clause-value c =
    rw c.if-taps-ne0.false (rw c.if-taps-eq0.true (rw c.if-taps-eq0-2.true (sym (echo_zero c.args.taps.period c.args.v.now c.args.p))))
