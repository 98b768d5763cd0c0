use Rattle.std.proofs.Common.{◌≡◌, ℕ, ◌<◌, ◌++◌, arith, get_or, length, List, ap, ◌∙◌, rules}
use Rattle.std.specs.Prelude.{ℤ, pos, map, take, drop, slice_set, FitsSigned, unsigned_abs}
use Rattle.std.specs.Int.{w64}
use Rattle.std.proofs.lemmas.Int.{to_z-of_z}
use Rattle.std.proofs.lemmas.List.{get_or_default}
use Rattle.std.proofs.lemmas.List.Edits.{map_over_more}
use Rattle.fixed_math.specs.Unit.{by_reciprocal}
use Rattle.fixed_math.proofs.units.multiply_all.Goals as goal

pub loop-i-preserved : goal.loop-i-preserved
loop-i-preserved c =
    let v : List ℤ = c.args.v.now in
    let ys : List ℤ = c.loop-i.v in
    let i : ℕ = c.loop-i.i in
    let x : ℤ = get_or ys i (pos 0) in
    let fm = c.ranges.m in
    let h : i < length v = omega arith in
    let fx : FitsSigned w64 x = search rules in
    let fy : FitsSigned w64 c.times_reciprocal.result = search rules in
    let e : c.times_reciprocal.result ≡ by_reciprocal (unsigned_abs c.args.m) x = simp to_z-of_z at c.times_reciprocal.ensures in
    let before : ys ≡ map (by_reciprocal (unsigned_abs c.args.m)) (take i v) ++ drop i v = simp to_z-of_z at c.loop-i.invariant in
    let read : x ≡ get_or ys i x = get_or_default ys i (pos 0) x (omega arith) in
    let after = ap (slice_set ys i) e ∙ map_over_more (by_reciprocal (unsigned_abs c.args.m)) v ys i x h before read in
    simp to_z-of_z after
