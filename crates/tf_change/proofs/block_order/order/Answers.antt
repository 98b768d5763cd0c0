use Rattle.std.proofs.Common.{◌≡◌, ℕ, ◌+◌, ◌*◌, ◌<◌, ap, ◌∙◌, arith, sym, List}
use Rattle.std.specs.Prelude.{ℤ}
use Rattle.fixed_math.specs.Items.{item}
use Rattle.tf_change.specs.Order.{ordered}
use Rattle.tf_change.proofs.ItemLemmas.{run_more}
use Rattle.fixed_math.proofs.ItemLemmas.{same_items}
use Rattle.tf_change.proofs.OrderLemmas.{item-ordered, length-ordered, ordered_size}
use Rattle.tf_change.proofs.block_order.order.Goals as goal

pub loop-k-preserved : goal.loop-k-preserved
loop-k-preserved c =
    let xs : List ℤ = c.args.x.now in
    let n : ℕ = c.args.n0 in
    let s : ℕ = c.args.stride in
    let k : ℕ = c.loop-k.k in
    let below : k < s = c.loop-k-test.true in
    run_more c.loop-k.out c.take_block.new.out k n (item (ordered n s c.args.hadamard xs)) c.loop-k.invariant c.take_block.ensures.before
    (λ j h. c.take_block.ensures.here j h ∙ ap (λ b. item xs (j * s + b)) c.block_of.ensures.value ∙ sym (item-ordered n s c.args.hadamard xs k j c.requires.items below h))

pub returns-clause-value : goal.returns-clause-value
returns-clause-value c =
    let xs : List ℤ = c.args.x.now in
    let l = length-ordered c.args.n0 c.args.stride c.args.hadamard xs in
    let e : c.loop-k.k ≡ c.args.stride = omega arith in
    same_items c.loop-k.out (ordered c.args.n0 c.args.stride c.args.hadamard xs) (omega arith) (λ p h. c.loop-k.invariant p (omega (arith, ap (λ k. k * c.args.n0) e)))

pub returns-clause-size : goal.returns-clause-size
returns-clause-size c = λ m h. ordered_size c.args.n0 c.args.stride m c.args.hadamard c.args.x.now _ (returns-clause-value c) h
