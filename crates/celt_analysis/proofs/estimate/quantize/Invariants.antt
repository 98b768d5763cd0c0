use Rattle.std.proofs.Common.{ℕ, ◌+◌, ◌≤◌}
use Rattle.std.specs.Prelude.{unsigned_abs}
use Rattle.fixed_math.specs.Items.{item}
use Rattle.celt_analysis.proofs.EstimateLemmas.{cut_of}
use Rattle.celt_analysis.proofs.PlaceLemmas.{Put}
use Rattle.celt_analysis.proofs.estimate.quantize.Given as goal

abbrev pub invariant-loop-i : goal.invariant-loop-i
invariant-loop-i l = record {
  put : Put (λ k. cut_of l.q.shift (item l.d (l.a + k))) l.fn.s l.s l.to l.i;
  sizes : (k : ℕ) → unsigned_abs (item l.s k) ≤ 1448;
}
