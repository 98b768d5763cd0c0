use Rattle.std.proofs.Common.{◌≡◌, ℕ, ◌+◌, ◌-◌, ◌<◌, length}
use Rattle.std.specs.Prelude.{neg_ℤ}
use Rattle.fixed_math.specs.Items.{item}
use Rattle.mdct_fixed.proofs.folding.fold_middle.Given as goal

-- the first places are put
abbrev pub invariant-loop-m : goal.invariant-loop-m
invariant-loop-m l = (k : ℕ) → k < l.m → item l.out k ≡ neg_ℤ (item l.values (length l.fn.out + 59 - k))
