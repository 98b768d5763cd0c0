use Rattle.std.proofs.Common.{arith}
use Rattle.celt_analysis.specs.Analyses.{height_in}
use Rattle.celt_encode.specs.Listening.{stands_out}
use Rattle.celt_encode.proofs.ListeningLemmas.{flags_next, flags_whole}
use Rattle.celt_encode.proofs.listening.boosts.Goals as goal

pub loop-band-preserved : goal.loop-band-preserved
loop-band-preserved c =
    flags_next (stands_out c.args.kind.end (height_in c.args.a.now)) c.loop-band.boosts c.loop-band.band c.stands_out.result c.loop-band-test.true c.stands_out.ensures c.loop-band.invariant

pub returns : goal.returns
returns c = flags_whole (stands_out c.args.kind.end (height_in c.args.a.now)) c.loop-band.boosts c.loop-band.band (omega (arith, c.loop-band-test.false)) c.loop-band.invariant
