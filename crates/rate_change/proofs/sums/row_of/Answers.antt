use Rattle.std.proofs.Common.{◌≡◌, rules, ap, ◌∙◌}
use Rattle.std.specs.Prelude.{pos, FitsSigned}
use Rattle.std.specs.Int.{w64, int_max}
use Rattle.std.proofs.lemmas.Int.{to_z-of_z}
use Rattle.rate_change.specs.Resampling.{weight, sum_around, in_window}
use Rattle.rate_change.proofs.SumLemmas.{same_sum, window_place}
use Rattle.rate_change.proofs.sums.row_of.Goals as goal

pub returns : goal.returns
returns c =
    let fs : FitsSigned w64 c.sum_of.result = search rules in
    let fm : FitsSigned w64 c.max.result = search rules in
    let each = c.weights_of-weights.ensures.value in
    let e : c.max.result ≡ int_max c.sum_of.result (pos 1) = simp to_z-of_z at c.max.ensures.value in
    let s : sum_around (in_window c.weights_of-weights.result) ≡ sum_around (weight c.args.up c.args.f) = same_sum (in_window c.weights_of-weights.result) (weight c.args.up c.args.f) 32 (λ t l. window_place c.weights_of-weights.result t ∙ each t l) in
    record {
      weights_are = λ t l. c.put_digits.ensures.value t l ∙ each t l;
      divisor_is = simp to_z-of_z (e ∙ ap (λ z. int_max z (pos 1)) (c.sum_of.ensures.value ∙ s));
    }
