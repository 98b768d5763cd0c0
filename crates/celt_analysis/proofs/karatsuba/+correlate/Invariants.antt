use Rattle.celt_analysis.proofs.karatsuba.+correlate.Given as goal

abbrev pub decreases-correlate : goal.decreases-correlate
decreases-correlate l = l.part.halvings
