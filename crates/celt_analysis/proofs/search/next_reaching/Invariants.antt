use Rattle.std.proofs.Common.{◌≡◌, ℕ, ◌<◌, ◌≤◌, false}
use Rattle.fixed_math.specs.Items.{item}
use Rattle.celt_analysis.specs.Pitch.{correlations, energies}
use Rattle.celt_analysis.specs.Search.{reaches}
use Rattle.celt_analysis.proofs.search.next_reaching.Given as goal

abbrev pub invariant-loop-i : goal.invariant-loop-i
invariant-loop-i l = (i : ℕ) → l.from ≤ i → i < l.i → reaches l.ratio.slack l.ratio.square l.ratio.energy (correlations (item l.d) 1022 l.e.n i) (energies (item l.d) 1022 l.e.n i) ≡ false
