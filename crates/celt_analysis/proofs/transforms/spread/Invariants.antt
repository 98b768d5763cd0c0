use Rattle.celt_analysis.specs.Spectra.{IsSpread}
use Rattle.celt_analysis.proofs.transforms.spread.Given as goal

abbrev pub invariant-loop-j : goal.invariant-loop-j
invariant-loop-j l = IsSpread l.items l.blocks l.b l.j l.fn.out l.out
