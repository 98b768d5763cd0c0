use Rattle.std.proofs.Common.{◌≡◌, ℕ, ◌<◌, length}
use Rattle.fixed_math.specs.Items.{item}
use Rattle.mdct_fixed.specs.Numbers.{at}
use Rattle.mdct_fixed.specs.Mdct.{turned_pairs}
use Rattle.mdct_fixed.proofs.turns.turn_pairs.Given as goal

-- the first pairs are turned
abbrev pub invariant-loop-i : goal.invariant-loop-i
invariant-loop-i l = (k : ℕ) → k < l.i → at l.re l.im k ≡ turned_pairs (length l.items) (item l.items) k
