use Rattle.std.proofs.Common.{◌^◌, refl, arith, rules}
use Rattle.std.specs.Prelude.{FitsSigned}
use Rattle.std.specs.Int.{w64}
use Rattle.std.proofs.lemmas.Int.{to_z-of_z}
use Rattle.mdct_fixed.proofs.NumberLemmas.{pair_is}
use Rattle.mdct_fixed.proofs.FifthLemmas.{AreSwapped, second_part, five_swapped_within}
use Rattle.mdct_fixed.proofs.rows.five_sums.Goals as goal

pub five_parts-im-requires : goal.five_parts-im-requires
five_parts-im-requires c =
    let w = c.swap_five.ensures in
    five_swapped_within (2 ^ 46) c.args.y c.swap_five.result (record { first = w.first; second = w.second; third = w.third; fourth = w.fourth; fifth = w.fifth }) c.requires

pub returns : goal.returns
returns c =
    let w = c.swap_five.ensures in
    let s : AreSwapped c.args.y c.swap_five.result = record { first = w.first; second = w.second; third = w.third; fourth = w.fourth; fifth = w.fifth } in
    let r = c.five_parts-re.ensures in
    let i = c.five_parts-im.ensures in
    let fr_second : FitsSigned w64 c.five_parts-re.result.second = search rules in
    let fi_second : FitsSigned w64 c.five_parts-im.result.second = search rules in
    let fr_third : FitsSigned w64 c.five_parts-re.result.third = search rules in
    let fi_third : FitsSigned w64 c.five_parts-im.result.third = search rules in
    let fr_fourth : FitsSigned w64 c.five_parts-re.result.fourth = search rules in
    let fi_fourth : FitsSigned w64 c.five_parts-im.result.fourth = search rules in
    let fr_fifth : FitsSigned w64 c.five_parts-re.result.fifth = search rules in
    let fi_fifth : FitsSigned w64 c.five_parts-im.result.fifth = search rules in
    record {
      first = c.five_added.ensures;
      second = simp to_z-of_z (pair_is _ _ _ _ r.second (second_part c.args.y c.swap_five.result 12288 9216 6144 3072 3072 6144 9216 12288 c.five_parts-im.result.fifth s i.fifth (omega arith, omega arith, refl) (omega arith, omega arith, refl) (omega arith, omega arith, refl) (omega arith, omega arith, refl)));
      third = simp to_z-of_z (pair_is _ _ _ _ r.third (second_part c.args.y c.swap_five.result 9216 3072 12288 6144 6144 12288 3072 9216 c.five_parts-im.result.fourth s i.fourth (omega arith, omega arith, refl) (omega arith, omega arith, refl) (omega arith, omega arith, refl) (omega arith, omega arith, refl)));
      fourth = simp to_z-of_z (pair_is _ _ _ _ r.fourth (second_part c.args.y c.swap_five.result 6144 12288 3072 9216 9216 3072 12288 6144 c.five_parts-im.result.third s i.third (omega arith, omega arith, refl) (omega arith, omega arith, refl) (omega arith, omega arith, refl) (omega arith, omega arith, refl)));
      fifth = simp to_z-of_z (pair_is _ _ _ _ r.fifth (second_part c.args.y c.swap_five.result 3072 6144 9216 12288 12288 9216 6144 3072 c.five_parts-im.result.second s i.second (omega arith, omega arith, refl) (omega arith, omega arith, refl) (omega arith, omega arith, refl) (omega arith, omega arith, refl)));
    }
