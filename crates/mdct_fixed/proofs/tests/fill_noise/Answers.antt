use Rattle.std.proofs.Common.{arith, rules}
use Rattle.std.specs.Prelude.{unsigned_abs, FitsSigned}
use Rattle.std.specs.Int.{w64}
use Rattle.std.proofs.lemmas.Int.{to_z-of_z}
use Rattle.mdct_fixed.proofs.TestLemmas.{put_small}
use Rattle.mdct_fixed.proofs.tests.fill_noise.Goals as goal

pub loop-i-preserved : goal.loop-i-preserved
loop-i-preserved c =
    let fv = c.ranges.most in
    let fr : FitsSigned w64 c.limited.result = search rules in
    let s = simp to_z-of_z at c.limited.ensures in
    let i = simp to_z-of_z at c.loop-i.invariant in
    simp to_z-of_z (put_small c.loop-i.items c.loop-i.i (unsigned_abs c.args.most) c.limited.result (omega arith) s i)

pub returns : goal.returns
returns c = λ k h.
    let fv = c.ranges.most in
    let i = simp to_z-of_z at c.loop-i.invariant in
    i k (omega arith)
