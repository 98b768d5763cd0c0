use Rattle.std.proofs.Common.{rules}
use Rattle.std.specs.Prelude.{FitsSigned}
use Rattle.std.specs.Int.{w64}
use Rattle.std.proofs.lemmas.Int.{to_z-of_z}
use Rattle.tf_change.specs.Haar.{scaled}
use Rattle.tf_change.proofs.haar_step.over_root.Goals as goal

pub returns-clause-value : goal.returns-clause-value
unfolding scaled
returns-clause-value c =
    let fv = c.ranges.v in
    let fr : FitsSigned w64 c.mulr.result = search rules in
    let e = simp to_z-of_z at c.mulr.ensures.value in
    simp to_z-of_z e
