use Rattle.std.proofs.Common.{◌≡◌, ℕ, ◌*◌, ◌<◌}
use Rattle.fixed_math.specs.Items.{item}
use Rattle.tf_change.specs.Order.{ordered}
use Rattle.tf_change.proofs.block_order.order.Given as goal

-- the first places are as they should be
abbrev pub invariant-loop-k : goal.invariant-loop-k
invariant-loop-k l = (p : ℕ) → p < l.k * l.n0 → item l.out p ≡ item (ordered l.n0 l.stride l.hadamard l.x) p
