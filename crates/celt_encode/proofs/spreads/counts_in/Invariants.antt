use Rattle.celt_encode.proofs.SpreadLemmas.{CountsTo}
use Rattle.celt_encode.proofs.spreads.counts_in.Given as goal

abbrev pub invariant-loop-band : goal.invariant-loop-band
invariant-loop-band l = CountsTo l.kind l.spectrum l.counts.all l.counts.small l.band
