use Rattle.std.proofs.Common.{◌∙◌, arith, rules, refl}
use Rattle.std.specs.Prelude.{FitsSigned}
use Rattle.std.specs.Int.{w64}
use Rattle.std.proofs.lemmas.Int.{to_z-of_z}
use Rattle.mdct_fixed.proofs.FifthLemmas.{ahead_is, behind_is}
use Rattle.mdct_fixed.proofs.complex.by_fifths.Goals as goal

pub returns-clause-one : goal.returns-clause-one
returns-clause-one c =
    let f : FitsSigned w64 c.both_ways-outer.result.ahead = search rules in
    simp to_z-of_z (c.both_ways-outer.ensures.ahead ∙ ahead_is c.args.z c.one_fifth.result 3072 c.one_fifth.ensures.value)

pub returns-clause-two : goal.returns-clause-two
returns-clause-two c =
    let f : FitsSigned w64 c.both_ways-inner.result.ahead = search rules in
    simp to_z-of_z (c.both_ways-inner.ensures.ahead ∙ ahead_is c.args.z c.two_fifths.result 6144 c.two_fifths.ensures.value)

pub returns-clause-three : goal.returns-clause-three
returns-clause-three c =
    let f : FitsSigned w64 c.both_ways-inner.result.behind = search rules in
    simp to_z-of_z (c.both_ways-inner.ensures.behind ∙ behind_is c.args.z c.two_fifths.result 6144 9216 c.two_fifths.ensures.value (omega arith) (omega arith) refl)

pub returns-clause-four : goal.returns-clause-four
returns-clause-four c =
    let f : FitsSigned w64 c.both_ways-outer.result.behind = search rules in
    simp to_z-of_z (c.both_ways-outer.ensures.behind ∙ behind_is c.args.z c.one_fifth.result 3072 12288 c.one_fifth.ensures.value (omega arith) (omega arith) refl)
