use Rattle.std.proofs.Common.{◌≡◌, ◌∙◌, ◌^◌, ap, arith, rules, refl}
use Rattle.std.specs.Prelude.{FitsSigned}
use Rattle.std.specs.Int.{w64}
use Rattle.std.proofs.lemmas.Int.{to_z-of_z}
use Rattle.mdct_fixed.specs.Numbers.{turned}
use Rattle.mdct_fixed.proofs.NumberLemmas.{pair_is}
use Rattle.mdct_fixed.proofs.FifthLemmas.{ahead_is, behind_is, swapped_is, swapped_within}
use Rattle.mdct_fixed.proofs.complex.third_turns.Goals as goal

pub both_ways-im-requires-clause-within : goal.both_ways-im-requires-clause-within
both_ways-im-requires-clause-within c = swapped_within (2 ^ 46) c.args.z c.swap_parts.result c.swap_parts.ensures c.requires

pub returns-clause-one : goal.returns-clause-one
returns-clause-one c =
    let f : FitsSigned w64 c.both_ways-re.result.ahead = search rules in
    let g : FitsSigned w64 c.both_ways-im.result.behind = search rules in
    let re : c.both_ways-re.result.ahead ≡ (turned c.args.z 5120).re = c.both_ways-re.ensures.ahead ∙ ahead_is c.args.z c.one_third.result 5120 c.one_third.ensures.value in
    let im : c.both_ways-im.result.behind ≡ (turned c.args.z 5120).im =
    c.both_ways-im.ensures.behind ∙ behind_is c.swap_parts.result c.one_third-2.result 5120 10240 c.one_third-2.ensures.value (omega arith) (omega arith) refl
    ∙ ap (λ v. (turned v 10240).re) c.swap_parts.ensures ∙ swapped_is c.args.z 5120 10240 (omega arith) (omega arith) refl in
    simp to_z-of_z (pair_is _ _ _ _ re im)

pub returns-clause-two : goal.returns-clause-two
returns-clause-two c =
    let f : FitsSigned w64 c.both_ways-re.result.behind = search rules in
    let g : FitsSigned w64 c.both_ways-im.result.ahead = search rules in
    let re : c.both_ways-re.result.behind ≡ (turned c.args.z 10240).re = c.both_ways-re.ensures.behind ∙ behind_is c.args.z c.one_third.result 5120 10240 c.one_third.ensures.value (omega arith) (omega arith) refl in
    let im : c.both_ways-im.result.ahead ≡ (turned c.args.z 10240).im =
    c.both_ways-im.ensures.ahead ∙ ahead_is c.swap_parts.result c.one_third-2.result 5120 c.one_third-2.ensures.value
    ∙ ap (λ v. (turned v 5120).re) c.swap_parts.ensures ∙ swapped_is c.args.z 10240 5120 (omega arith) (omega arith) refl in
    simp to_z-of_z (pair_is _ _ _ _ re im)
