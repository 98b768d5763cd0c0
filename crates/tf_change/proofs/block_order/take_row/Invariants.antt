use Rattle.std.proofs.Common.{◌+◌, ◌*◌}
use Rattle.fixed_math.specs.Items.{item}
use Rattle.tf_change.specs.Order.{place_of}
use Rattle.tf_change.proofs.ItemLemmas.{RunPut}
use Rattle.tf_change.proofs.block_order.take_row.Given as goal

-- the items of the first blocks are taken
abbrev pub invariant-loop-i : goal.invariant-loop-i
invariant-loop-i l = RunPut (l.j * l.stride) l.i (λ i. item l.x (place_of l.hadamard l.stride i * l.n0 + l.j)) l.fn.out l.out
