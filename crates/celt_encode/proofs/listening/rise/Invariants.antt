use Rattle.std.specs.Prelude.{◌+◌, ◌*◌, pos, ◌-ℤ◌, ◌*ℤ◌}
use Rattle.celt_analysis.specs.Analyses.{height_in}
use Rattle.celt_encode.proofs.ListeningLemmas.{SumTo}
use Rattle.celt_encode.proofs.listening.rise.Given as goal

abbrev pub invariant-loop-band : goal.invariant-loop-band
invariant-loop-band l = SumTo (λ i. height_in l.a i *ℤ (pos (2 * i + 1) -ℤ pos l.kind.end)) l.sum l.band
