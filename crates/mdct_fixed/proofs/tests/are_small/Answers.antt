use Rattle.std.proofs.Common.{◌^◌, arith, rules}
use Rattle.std.specs.Prelude.{ℤ, FitsSigned}
use Rattle.std.specs.Int.{w64}
use Rattle.std.proofs.lemmas.Int.{to_z-of_z}
use Rattle.fixed_math.specs.Items.{item}
use Rattle.mdct_fixed.proofs.TestLemmas.{one_more}
use Rattle.mdct_fixed.proofs.tests.are_small.Goals as goal

pub loop-i-preserved : goal.loop-i-preserved
loop-i-preserved c =
    let x : ℤ = item c.args.items.now c.loop-i.i in
    let f : FitsSigned w64 x = search rules in
    let e = simp to_z-of_z at c.unsigned_abs.ensures.value in
    one_more c.args.items.now c.loop-i.i (2 ^ 40) (omega arith) c.loop-i.invariant
