use Rattle.std.proofs.Common.{arith}
use Rattle.celt_synth.proofs.ConcealmentLemmas.{noise_both, noise_left}
use Rattle.celt_synth.proofs.concealment.fill_both.Goals as goal

pub returns-then-kind-eq2 : goal.returns-then-kind-eq2
returns-then-kind-eq2 c = λ start r.
    let left = c.fill_band.ensures in
    let right = c.fill_band-then-kind-eq2.ensures in
    noise_both c.args.kind c.args.band start _ _ _ _ _ _ _ (omega (arith, c.if-kind-eq2.true)) left.band left.seed right.band right.seed r

pub returns-else-kind-eq2 : goal.returns-else-kind-eq2
returns-else-kind-eq2 c = λ start r.
    let s = c.args.kind.some_channel in
    let t = c.args.kind.two_channels in
    let f = c.if-kind-eq2.false in
    noise_left c.args.kind c.args.band start _ _ _ _ _ (omega (arith, f, s, t)) c.fill_band.ensures.band c.fill_band.ensures.seed r
