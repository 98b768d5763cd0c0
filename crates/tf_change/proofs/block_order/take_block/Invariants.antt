use Rattle.std.proofs.Common.{◌+◌, ◌*◌}
use Rattle.fixed_math.specs.Items.{item}
use Rattle.tf_change.proofs.ItemLemmas.{RunPut}
use Rattle.tf_change.proofs.block_order.take_block.Given as goal

-- the first items are taken
abbrev pub invariant-loop-j : goal.invariant-loop-j
invariant-loop-j l = RunPut l.start l.j (λ j. item l.x (j * l.stride + l.block)) l.fn.out l.out
