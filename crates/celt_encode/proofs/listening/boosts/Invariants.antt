use Rattle.celt_analysis.specs.Analyses.{height_in}
use Rattle.celt_encode.specs.Listening.{stands_out}
use Rattle.celt_encode.proofs.ListeningLemmas.{FlagsTo}
use Rattle.celt_encode.proofs.listening.boosts.Given as goal

abbrev pub invariant-loop-band : goal.invariant-loop-band
invariant-loop-band l = FlagsTo (stands_out l.kind.end (height_in l.a)) l.boosts l.band
