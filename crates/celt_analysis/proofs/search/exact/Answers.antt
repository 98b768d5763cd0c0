use Rattle.std.proofs.Common.{◌≡◌, ◌+◌, ◌-◌, ◌*◌, ◌%◌, ◌^◌, ◌≤◌, arith, ◌∙◌}
use Rattle.std.specs.Prelude.{ℤ, ◌-ℤ◌, ◌*ℤ◌, unsigned_abs, FitsSigned}
use Rattle.std.specs.Int.{w32, w64, int_wrap, cast_signed as to_z, cast_unsigned as of_z}
use Rattle.std.proofs.lemmas.Int.{to_z-of_z, fits_signed_from_abs, SFits-int_wrap}
use Rattle.celt_analysis.proofs.EstimateLemmas.{BoundSteps, bound_steps, fits-size, low-difference, wrapped-difference, back-again}
use Rattle.celt_analysis.proofs.search.exact.Goals as goal

pub overflow_add-result : goal.overflow_add-result
overflow_add-result c =
    let x : ℤ = c.args.sum in
    let q : ℤ = c.args.scale in
    let fs : FitsSigned w32 x = c.ranges.sum in
    let fq64 : FitsSigned w64 q = c.ranges.scale in
    let m : unsigned_abs x ≤ 2 ^ 31 = fits-size x fs in
    let fq : FitsSigned w32 q = fits_signed_from_abs w32 _ (omega (arith, c.requires.scale)) in
    let d : to_z w32 ((of_z w32 c.args.low + (2 ^ 32 - of_z w32 x * of_z w32 q % 2 ^ 32)) % 2 ^ 32) ≡ int_wrap w32 (c.args.low -ℤ x *ℤ q) = low-difference x q c.args.low fs fq c.ranges.low in
    let n : unsigned_abs (int_wrap w32 (c.args.low -ℤ x *ℤ q)) ≤ 2 ^ 31 = fits-size _ (SFits-int_wrap w32 (c.args.low -ℤ x *ℤ q)) in
    let t : BoundSteps x q (int_wrap w32 (c.args.low -ℤ x *ℤ q)) = bound_steps x q (int_wrap w32 (c.args.low -ℤ x *ℤ q)) m c.requires.scale (omega arith) in
    let f0 = t.number in
    let f1 = t.factor in
    let f2 = t.product in
    let f3 = t.more in
    simp (to_z-of_z, d) t.sum

pub returns : goal.returns
returns c = λ z e h.
    let x : ℤ = c.args.sum in
    let q : ℤ = c.args.scale in
    let fs : FitsSigned w32 x = c.ranges.sum in
    let fq64 : FitsSigned w64 q = c.ranges.scale in
    let m : unsigned_abs x ≤ 2 ^ 31 = fits-size x fs in
    let fq : FitsSigned w32 q = fits_signed_from_abs w32 _ (omega (arith, c.requires.scale)) in
    let d : to_z w32 ((of_z w32 c.args.low + (2 ^ 32 - of_z w32 x * of_z w32 q % 2 ^ 32)) % 2 ^ 32) ≡ z -ℤ x *ℤ q = low-difference x q c.args.low fs fq c.ranges.low ∙ wrapped-difference (x *ℤ q) c.args.low z e h in
    let t : BoundSteps x q (z -ℤ x *ℤ q) = bound_steps x q (z -ℤ x *ℤ q) m c.requires.scale (omega arith) in
    let f0 = t.number in
    let f1 = t.factor in
    let f2 = t.product in
    let f3 = t.more in
    let f4 = t.sum in
    simp (to_z-of_z, d) (back-again (x *ℤ q) z)
