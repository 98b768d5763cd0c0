use Rattle.std.proofs.Common.{arith}
use Rattle.celt_synth.proofs.AntiCollapseLemmas.{both_are, left_alone}
use Rattle.celt_synth.proofs.anti_collapse.fill_both.Goals as goal

pub returns-then-grounds-eq2-clause-value : goal.returns-then-grounds-eq2-clause-value
returns-then-grounds-eq2-clause-value c =
    let left = c.fill_band.ensures in
    let right = c.fill_band-then-grounds-eq2.ensures in
    both_are c.args.grounds.now c.args.band _ _ _ _ _ _ _ (omega (arith, c.if-grounds-eq2.true)) left.value left.seed right.value right.seed

pub returns-else-grounds-eq2-clause-value : goal.returns-else-grounds-eq2-clause-value
returns-else-grounds-eq2-clause-value c =
    let kind = c.args.grounds.now.kind in
    let s = kind.some_channel in
    let t = kind.two_channels in
    let f = c.if-grounds-eq2.false in
    left_alone c.args.grounds.now c.args.band _ _ _ _ _ (omega (arith, f, s, t)) c.fill_band.ensures.value c.fill_band.ensures.seed
