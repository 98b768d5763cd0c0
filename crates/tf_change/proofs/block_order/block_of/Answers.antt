use Rattle.std.proofs.Common.{◌<◌, sym, subst}
use Rattle.tf_change.proofs.OrderLemmas.{row_facts, block_rows, block_entry, block_plain}
use Rattle.tf_change.proofs.block_order.block_of.Goals as goal

pub returns-then-hadamard-clause-value : goal.returns-then-hadamard-clause-value
unfolding block_rows
returns-then-hadamard-clause-value c = block_entry c.args.hadamard c.args.stride c.args.k c.if-hadamard.true c.requires.row c.requires.place

pub returns-then-hadamard-clause-within : goal.returns-then-hadamard-clause-within
unfolding block_rows
returns-then-hadamard-clause-within c =
    subst (λ v. v < c.args.stride) (sym (block_entry c.args.hadamard c.args.stride c.args.k c.if-hadamard.true c.requires.row c.requires.place)) (row_facts c.args.hadamard c.args.stride c.args.k c.requires.row c.requires.place).block_below

pub returns-else-hadamard-clause-value : goal.returns-else-hadamard-clause-value
returns-else-hadamard-clause-value c = block_plain c.args.hadamard c.args.stride c.args.k c.if-hadamard.false
