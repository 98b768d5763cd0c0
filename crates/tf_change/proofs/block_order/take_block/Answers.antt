use Rattle.std.proofs.Common.{◌+◌, ◌*◌, ◌<◌, length, arith, rules, to_z, of_z}
use Rattle.std.specs.Prelude.{ℤ, FitsSigned}
use Rattle.std.specs.Int.{w64}
use Rattle.std.proofs.lemmas.Int.{to_z-of_z}
use Rattle.fixed_math.specs.Items.{item}
use Rattle.tf_change.proofs.ItemLemmas.{run_put}
use Rattle.tf_change.proofs.block_order.take_block.Goals as goal

pub loop-j-preserved : goal.loop-j-preserved
loop-j-preserved c =
    let v : ℤ = item c.args.x.now (c.loop-j.j * c.args.stride + c.args.block) in
    let fits : FitsSigned w64 v = search rules in
    let l : c.args.start + c.loop-j.j < length c.loop-j.out = omega arith in
    run_put c.args.start c.loop-j.j (λ j. item c.args.x.now (j * c.args.stride + c.args.block)) c.args.out.now c.loop-j.out (to_z w64 (of_z w64 v)) l (to_z-of_z w64 v fits) c.loop-j.invariant

pub returns-clause-here : goal.returns-clause-here
returns-clause-here c = λ j h. c.loop-j.invariant.here j (omega arith)
