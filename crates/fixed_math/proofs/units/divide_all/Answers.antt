use Rattle.std.proofs.Common.{◌≡◌, ℕ, ◌<◌, ◌++◌, arith, get_or, length, List, ap, ◌∙◌, rules}
use Rattle.std.specs.Prelude.{ℤ, pos, ◌*ℤ◌, int_div, map, take, drop, slice_set, FitsSigned}
use Rattle.std.specs.Int.{w64}
use Rattle.std.proofs.lemmas.Int.{to_z-of_z}
use Rattle.std.proofs.lemmas.List.{get_or_default}
use Rattle.std.proofs.lemmas.List.Edits.{map_over_more}
use Rattle.fixed_math.proofs.units.divide_all.Goals as goal

pub loop-i-preserved : goal.loop-i-preserved
loop-i-preserved c =
    let v : List ℤ = c.args.v.now in
    let ys : List ℤ = c.loop-i.v in
    let i : ℕ = c.loop-i.i in
    let x : ℤ = get_or ys i (pos 0) in
    let fg = c.ranges.gain in
    let fr = c.ranges.r in
    let h : i < length v = omega arith in
    let fx : FitsSigned w64 x = search rules in
    let fy : FitsSigned w64 c.quotient.result = search rules in
    let e : c.quotient.result ≡ int_div (x *ℤ c.args.gain) c.args.r = simp to_z-of_z at c.quotient.ensures in
    let before : ys ≡ map (λ z. int_div (z *ℤ c.args.gain) c.args.r) (take i v) ++ drop i v = simp to_z-of_z at c.loop-i.invariant in
    let read : x ≡ get_or ys i x = get_or_default ys i (pos 0) x (omega arith) in
    let after = ap (slice_set ys i) e ∙ map_over_more (λ z. int_div (z *ℤ c.args.gain) c.args.r) v ys i x h before read in
    simp to_z-of_z after
