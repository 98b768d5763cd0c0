use Rattle.std.proofs.Common.{◌≡◌, ℕ, ◌+◌, ◌^◌, ◌<◌, ◌≤◌, get_or, length}
use Rattle.fixed_math.specs.Items.{item}
use Rattle.celt_analysis.specs.Pitch.{energies}
use Rattle.celt_analysis.specs.Sums.{energy}
use Rattle.celt_analysis.proofs.pitches.energies_of.Given as goal

abbrev pub invariant-loop-i : goal.invariant-loop-i
invariant-loop-i l = record {
  at : l.slide.at + l.i ≡ 1008;
  count : l.slide.count ≡ l.n;
  sum : l.slide.sum ≡ energy (item l.d) l.slide.at l.slide.count;
  length : length l.out ≡ 1008;
  items : (k : ℕ) → k < l.i → get_or l.out k 0 ≡ energies (item l.d) 1022 l.n k;
  sizes : (k : ℕ) → k < l.i → get_or l.out k 0 ≤ 2 ^ 40;
}
