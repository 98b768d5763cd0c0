use Rattle.std.proofs.Common.{arith, rules, length}
use Rattle.std.specs.Prelude.{FitsSigned}
use Rattle.std.specs.Int.{w64}
use Rattle.std.proofs.lemmas.Int.{to_z-of_z}
use Rattle.mdct_fixed.proofs.ForwardLemmas.{folded_start, folded_next}
use Rattle.mdct_fixed.proofs.folding.fold_edges.Goals as goal

pub loop-t-init : goal.loop-t-init
loop-t-init c = folded_start (length c.args.out.now) c.args.values.now c.args.out.now

pub loop-t-preserved : goal.loop-t-preserved
loop-t-preserved c =
    let fv : FitsSigned w64 c.falling.result = search rules in
    let fw : FitsSigned w64 c.rising.result = search rules in
    simp to_z-of_z (folded_next (length c.args.out.now) c.loop-t.t c.args.values.now c.args.out.now c.loop-t.out c.falling.result c.rising.result (omega arith) c.requires.size (omega arith) c.falling.ensures c.rising.ensures c.loop-t.invariant)
