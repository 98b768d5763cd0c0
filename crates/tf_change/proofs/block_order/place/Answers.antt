use Rattle.std.proofs.Common.{◌<◌, sym, subst}
use Rattle.tf_change.specs.Order.{hadamard_rows}
use Rattle.tf_change.proofs.OrderLemmas.{row_facts, place_entry, place_plain}
use Rattle.tf_change.proofs.block_order.place.Goals as goal

pub returns-then-hadamard-clause-value : goal.returns-then-hadamard-clause-value
unfolding hadamard_rows
returns-then-hadamard-clause-value c = place_entry c.args.hadamard c.args.stride c.args.i c.if-hadamard.true

pub returns-then-hadamard-clause-within : goal.returns-then-hadamard-clause-within
unfolding hadamard_rows
returns-then-hadamard-clause-within c =
    subst (λ v. v < c.args.stride) (sym (place_entry c.args.hadamard c.args.stride c.args.i c.if-hadamard.true)) (row_facts c.args.hadamard c.args.stride c.args.i c.requires.row c.requires.block).place_below

pub returns-else-hadamard-clause-value : goal.returns-else-hadamard-clause-value
returns-else-hadamard-clause-value c = place_plain c.args.hadamard c.args.stride c.args.i c.if-hadamard.false
