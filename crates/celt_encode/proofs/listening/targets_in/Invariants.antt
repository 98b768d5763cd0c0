use Rattle.celt_analysis.specs.Analyses.{target_in}
use Rattle.celt_encode.proofs.ListeningLemmas.{RowTo}
use Rattle.celt_encode.proofs.listening.targets_in.Given as goal

abbrev pub invariant-loop-band : goal.invariant-loop-band
invariant-loop-band l = RowTo (target_in l.a l.channel) l.row l.band
