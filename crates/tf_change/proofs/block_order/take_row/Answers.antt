use Rattle.std.proofs.Common.{ℕ, ◌+◌, ◌*◌, ◌<◌, length, ap, ◌∙◌, arith, rules, to_z, of_z}
use Rattle.std.specs.Prelude.{ℤ, FitsSigned}
use Rattle.std.specs.Int.{w64}
use Rattle.std.proofs.lemmas.Int.{to_z-of_z}
use Rattle.std.proofs.lemmas.Nat.{mul-add-lt}
use Rattle.fixed_math.specs.Items.{item}
use Rattle.tf_change.specs.Order.{place_of}
use Rattle.tf_change.proofs.ItemLemmas.{run_put}
use Rattle.tf_change.proofs.block_order.take_row.Goals as goal

pub loop-i-preserved : goal.loop-i-preserved
loop-i-preserved c =
    let i : ℕ = c.loop-i.i in
    let v : ℤ = item c.args.x.now (c.place.result * c.args.n0 + c.args.j) in
    let fits : FitsSigned w64 v = search rules in
    let q : c.args.j * c.args.stride + i < c.args.stride * c.args.n0 = mul-add-lt c.args.j c.args.stride i c.args.n0 c.requires.item c.loop-i-test.true in
    let l : c.args.j * c.args.stride + i < length c.loop-i.out = omega arith in
    run_put (c.args.j * c.args.stride) i (λ i. item c.args.x.now (place_of c.args.hadamard c.args.stride i * c.args.n0 + c.args.j)) c.args.out.now c.loop-i.out (to_z w64 (of_z w64 v)) l
    (to_z-of_z w64 v fits ∙ ap (λ k. item c.args.x.now (k * c.args.n0 + c.args.j)) c.place.ensures.value) c.loop-i.invariant

pub returns-clause-here : goal.returns-clause-here
returns-clause-here c = λ i h. c.loop-i.invariant.here i (omega arith)
