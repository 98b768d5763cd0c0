use Rattle.band_energy.proofs.WantedSteps.{IsCarried}
use Rattle.band_energy.proofs.wanted.carried_to.Given as goal

abbrev pub invariant-loop-below : goal.invariant-loop-below
invariant-loop-below l = IsCarried l.beta l.values l.sum.value l.below
