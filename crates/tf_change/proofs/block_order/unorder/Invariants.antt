use Rattle.std.proofs.Common.{◌≡◌, ℕ, ◌*◌, ◌<◌}
use Rattle.fixed_math.specs.Items.{item}
use Rattle.tf_change.specs.Order.{unordered}
use Rattle.tf_change.proofs.block_order.unorder.Given as goal

-- the first places are as they should be
abbrev pub invariant-loop-j : goal.invariant-loop-j
invariant-loop-j l = (p : ℕ) → p < l.j * l.stride → item l.out p ≡ item (unordered l.n0 l.stride l.hadamard l.x) p
