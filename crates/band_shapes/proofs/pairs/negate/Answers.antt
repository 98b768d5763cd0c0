use Rattle.std.proofs.Common.{◌≡◌, ◌<◌, ◌^◌, ℕ, List, get_or, length, ap, ◌∙◌, arith}
use Rattle.std.specs.Prelude.{ℤ, pos, neg_ℤ, ◌-ℤ◌, slice_set, FitsSigned, unsigned_abs}
use Rattle.std.specs.Int.{w64}
use Rattle.std.proofs.lemmas.Int.{ints, to_z-of_z, fits_signed_from_abs}
use Rattle.std.proofs.lemmas.List.{get_or_default}
use Rattle.std.proofs.lemmas.List.Elements.{All-set}
use Rattle.std.proofs.lemmas.List.Edits.{map_over_more}
use Rattle.band_shapes.proofs.pairs.negate.Goals as goal

pub overflow_sub-z : goal.overflow_sub-z
overflow_sub-z c =
    let x : ℤ = get_or c.loop-i.z c.loop-i.i (pos 0) in
    let small : unsigned_abs x < 2 ^ 40 = c.loop-i.invariant.1 c.loop-i.i (pos 0) (omega arith) in
    let f : FitsSigned w64 x = fits_signed_from_abs w64 x (omega arith) in
    fits_signed_from_abs w64 _ (omega (arith, ints))

pub loop-i-preserved : goal.loop-i-preserved
loop-i-preserved c =
    let v : List ℤ = c.args.z.now in
    let ys : List ℤ = c.loop-i.z in
    let i : ℕ = c.loop-i.i in
    let x : ℤ = get_or ys i (pos 0) in
    let h : i < length v = omega arith in
    let small : unsigned_abs x < 2 ^ 40 = c.loop-i.invariant.1 i (pos 0) (omega arith) in
    let f : FitsSigned w64 x = fits_signed_from_abs w64 x (omega arith) in
    let g : FitsSigned w64 (pos 0 -ℤ x) = fits_signed_from_abs w64 (pos 0 -ℤ x) (omega (arith, ints)) in
    let e : pos 0 -ℤ x ≡ neg_ℤ x = omega (arith, ints) in
    let read : x ≡ get_or ys i x = get_or_default ys i (pos 0) x (omega arith) in
    let after = ap (slice_set ys i) e ∙ map_over_more neg_ℤ v ys i x h c.loop-i.invariant.0 read in
    let below : unsigned_abs (pos 0 -ℤ x) < 2 ^ 40 = omega (arith, ints) in
    simp to_z-of_z (after, All-set (λ q. unsigned_abs q < 2 ^ 40) ys i (pos 0 -ℤ x) below c.loop-i.invariant.1)
