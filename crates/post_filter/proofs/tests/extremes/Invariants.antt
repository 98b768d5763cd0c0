use Rattle.std.specs.Prelude.{ℕ, ◌<◌, ◌≤◌, ◌^◌, unsigned_abs}
use Rattle.fixed_math.specs.Items.{item}
use Rattle.post_filter.proofs.tests.extremes.Given as goal

abbrev pub invariant-loop-i : goal.invariant-loop-i
invariant-loop-i l = record {
  earlier : (p : ℕ) → p < 1024 → unsigned_abs (item l.x p) ≤ 2 ^ 30;
  values : (p : ℕ) → unsigned_abs (item l.x p) < 2 ^ 47;
}
