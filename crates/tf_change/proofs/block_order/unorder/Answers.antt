use Rattle.std.proofs.Common.{◌≡◌, ℕ, ◌*◌, ◌<◌, ap, ◌∙◌, arith, sym, List}
use Rattle.std.specs.Prelude.{ℤ}
use Rattle.fixed_math.specs.Items.{item}
use Rattle.tf_change.specs.Order.{unordered}
use Rattle.tf_change.proofs.ItemLemmas.{run_more}
use Rattle.fixed_math.proofs.ItemLemmas.{same_items}
use Rattle.tf_change.proofs.OrderLemmas.{item-unordered, length-unordered, unordered_size}
use Rattle.tf_change.proofs.block_order.unorder.Goals as goal

pub loop-j-preserved : goal.loop-j-preserved
loop-j-preserved c =
    let xs : List ℤ = c.args.x.now in
    let n : ℕ = c.args.n0 in
    let s : ℕ = c.args.stride in
    let j : ℕ = c.loop-j.j in
    let below : j < n = c.loop-j-test.true in
    run_more c.loop-j.out c.take_row.new.out j s (item (unordered n s c.args.hadamard xs)) c.loop-j.invariant c.take_row.ensures.before
    (λ i h. c.take_row.ensures.here i h ∙ sym (item-unordered n s c.args.hadamard xs j i c.requires.items h below))

pub returns-clause-value : goal.returns-clause-value
returns-clause-value c =
    let xs : List ℤ = c.args.x.now in
    let l = length-unordered c.args.n0 c.args.stride c.args.hadamard xs in
    let e : c.loop-j.j ≡ c.args.n0 = omega arith in
    same_items c.loop-j.out (unordered c.args.n0 c.args.stride c.args.hadamard xs) (omega arith) (λ p h. c.loop-j.invariant p (omega (arith, ap (λ k. k * c.args.stride) e)))

pub returns-clause-size : goal.returns-clause-size
returns-clause-size c = λ m h. unordered_size c.args.n0 c.args.stride m c.args.hadamard c.args.x.now _ (returns-clause-value c) h
