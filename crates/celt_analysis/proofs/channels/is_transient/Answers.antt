use Rattle.std.proofs.Common.{arith}
use Rattle.celt_analysis.specs.Signals.{is_stereo}
use Rattle.celt_analysis.specs.Transients.{energies_in}
use Rattle.celt_analysis.proofs.TransientLemmas.{transient_none, transient_some}
use Rattle.celt_analysis.proofs.channels.is_transient.Goals as goal

pub returns-then-kind-eq0 : goal.returns-then-kind-eq0
returns-then-kind-eq0 c = transient_none c.args.kind.lm (energies_in (is_stereo c.args.kind) c.args.left.now c.args.right.now) (omega (arith, c.if-kind-eq0.true))

pub returns : goal.returns
returns c =
    transient_some c.args.kind.lm c.blocks-2.result (energies_in (is_stereo c.args.kind) c.args.left.now c.args.right.now) c.rises.result (λ e. omega (arith, e, c.if-kind-eq0.false)) c.blocks-2.ensures.value c.rises.ensures
