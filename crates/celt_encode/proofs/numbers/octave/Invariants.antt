use Rattle.celt_encode.proofs.NumberSteps.{Lowering}
use Rattle.celt_encode.proofs.numbers.octave.Given as goal

abbrev pub invariant-loop-octave : goal.invariant-loop-octave
invariant-loop-octave l = Lowering l.setting.period l.octave

abbrev pub decreases-loop-octave : goal.decreases-loop-octave
decreases-loop-octave l = l.octave
