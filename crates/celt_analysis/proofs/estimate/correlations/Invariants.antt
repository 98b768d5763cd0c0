use Rattle.std.proofs.Common.{◌≡◌, ℕ, ◌*◌, ◌<◌, length}
use Rattle.std.specs.Int.{w32, int_wrap}
use Rattle.fixed_math.specs.Items.{item}
use Rattle.celt_analysis.specs.Sums.{correlation}
use Rattle.celt_analysis.proofs.estimate.correlations.Given as goal

abbrev pub invariant-loop-b : goal.invariant-loop-b
invariant-loop-b l = record {
  items : (t : ℕ) → t < l.b * l.run.places → item l.out t ≡ int_wrap w32 (correlation (item l.fn.s) (item l.fn.s) t 2048 l.run.places);
  kept : (k : ℕ) → k < 3072 → item l.s k ≡ item l.fn.s k;
  s_length : length l.s ≡ 8192;
  out_length : length l.out ≡ 2048;
}
