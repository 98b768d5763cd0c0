use Rattle.std.specs.Prelude.{◌^◌}
use Rattle.fixed_math.specs.Items.{item}
use Rattle.celt_analysis.specs.Signals.{filtered_from}
use Rattle.celt_analysis.proofs.FillLemmas.{Filled}
use Rattle.celt_analysis.proofs.prefilter.subtract_from.Given as goal

abbrev pub invariant-loop-t : goal.invariant-loop-t
invariant-loop-t l = Filled (filtered_from l.from l.to l.fade (item l.p) l.at) (2 ^ 29) l.t l.out
