use Rattle.fixed_math.specs.Items.{item}
use Rattle.celt_analysis.proofs.PlaceLemmas.{Over}
use Rattle.celt_analysis.proofs.pitches.widen.Given as goal

abbrev pub invariant-loop-i : goal.invariant-loop-i
invariant-loop-i l = Over (item l.d) l.fn.out l.out l.i
