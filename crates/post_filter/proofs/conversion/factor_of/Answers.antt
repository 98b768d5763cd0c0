use Rattle.std.proofs.Common.{◌≡◌, ap, arith, rules, ◌∙◌}
use Rattle.std.specs.Prelude.{ℤ, pos, FitsSigned, ◌-ℤ◌, ◌*ℤ◌, unsigned_abs}
use Rattle.std.specs.Int.{int_shr, w64}
use Rattle.std.proofs.lemmas.Int.{ints, to_z-of_z}
use Rattle.fixed_math.specs.Powers.{mantissa}
use Rattle.post_filter.specs.Samples.{exponent, octave, place}
use Rattle.post_filter.proofs.SampleLemmas.{factor_steps}
use Rattle.post_filter.proofs.conversion.factor_of.Goals as goal

pub overflow_cast-e : goal.overflow_cast-e
overflow_cast-e c =
    let r : ℤ = c.exponent_of-e.result in
    let t = factor_steps r c.exponent_of-e.ensures.size in
    let fr : FitsSigned w64 r = search rules in
    let u = t.octave_fits in
    let v = t.whole in
    let w = t.behind in
    let l = t.behind_low in
    let h = t.behind_high in
    simp to_z-of_z (search rules)

pub overflow_cast-result : goal.overflow_cast-result
overflow_cast-result c =
    let r : ℤ = c.exponent_of-e.result in
    let t = factor_steps r c.exponent_of-e.ensures.size in
    let fr : FitsSigned w64 r = search rules in
    let u = t.octave_fits in
    let w = t.left in
    let l = t.left_low in
    let h = t.left_high in
    simp to_z-of_z (search rules)

pub invariant_of-result-clause-least_shift : goal.invariant_of-result-clause-least_shift
invariant_of-result-clause-least_shift c =
    let r : ℤ = c.exponent_of-e.result in
    let t = factor_steps r c.exponent_of-e.ensures.size in
    let fr : FitsSigned w64 r = search rules in
    let u = t.octave_fits in
    let w = t.left in
    let l = t.left_low in
    simp to_z-of_z (omega (arith, ints))

pub invariant_of-result-clause-most_shift : goal.invariant_of-result-clause-most_shift
invariant_of-result-clause-most_shift c =
    let r : ℤ = c.exponent_of-e.result in
    let t = factor_steps r c.exponent_of-e.ensures.size in
    let fr : FitsSigned w64 r = search rules in
    let u = t.octave_fits in
    let w = t.left in
    let l = t.left_low in
    let h = t.left_high in
    simp to_z-of_z (omega (arith, ints))

pub returns : goal.returns
unfolding place octave
returns c =
    let r : ℤ = c.exponent_of-e.result in
    let t = factor_steps r c.exponent_of-e.ensures.size in
    let fr : FitsSigned w64 r = search rules in
    let u = t.octave_fits in
    let v = t.whole in
    let w = t.behind in
    let x = t.left in
    let fg = c.ranges.gain in
    let exponent-is : r ≡ exponent c.args.gain = simp to_z-of_z at c.exponent_of-e.ensures.value in
    let e : c.mant.result ≡ mantissa (unsigned_abs (r -ℤ pos 1024 *ℤ int_shr r 10)) = simp to_z-of_z at c.mant.ensures.value in
    let p : unsigned_abs (pos 42 -ℤ int_shr r 10) ≡ unsigned_abs (pos 42 -ℤ int_shr (exponent c.args.gain) 10) = ap (λ z. unsigned_abs (pos 42 -ℤ int_shr z 10)) exponent-is in
    record {
      times = e ∙ ap (λ z. mantissa (unsigned_abs (z -ℤ pos 1024 *ℤ int_shr z 10))) exponent-is;
      places = simp to_z-of_z p;
    }
