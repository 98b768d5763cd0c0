use Rattle.std.proofs.Common.{◌≡◌, ℕ, ◌≤◌, ◌^◌, arith, List}
use Rattle.std.specs.Prelude.{ℤ, FitsSigned, unsigned_abs}
use Rattle.std.specs.Int.{w64}
use Rattle.std.proofs.lemmas.Int.{to_z-of_z, fits_signed_from_abs}
use Rattle.fixed_math.specs.Items.{item}
use Rattle.fixed_math.proofs.ItemLemmas.{item_within}
use Rattle.celt_encode.specs.Units.{sizes_apart, sizes_mixed}
use Rattle.celt_encode.proofs.UnitLemmas.{pairs_none, pairs_next}
use Rattle.celt_encode.proofs.units.is_dual.Goals as goal

pub loop-p-init : goal.loop-p-init
loop-p-init c = (pairs_none sizes_apart c.args.l.now c.args.r.now, omega arith, pairs_none sizes_mixed c.args.l.now c.args.r.now, omega arith)

pub loop-p-preserved : goal.loop-p-preserved
loop-p-preserved c =
    let l : List ℤ = c.args.l.now in
    let r : List ℤ = c.args.r.now in
    let p : ℕ = c.loop-p.p in
    let sl : unsigned_abs (item l p) ≤ 2 ^ 14 = item_within l (2 ^ 14) p c.requires.left in
    let sr : unsigned_abs (item r p) ≤ 2 ^ 14 = item_within r (2 ^ 14) p c.requires.right in
    let fl : FitsSigned w64 (item l p) = fits_signed_from_abs w64 _ (omega (arith, sl)) in
    let fr : FitsSigned w64 (item r p) = fits_signed_from_abs w64 _ (omega (arith, sr)) in
    let a : c.apart-plain.result ≡ sizes_apart (item l p) (item r p) = simp to_z-of_z at c.apart-plain.ensures.value in
    let b : c.mixed-turned.result ≡ sizes_mixed (item l p) (item r p) = simp to_z-of_z at c.mixed-turned.ensures.value in
    let i = c.loop-p.invariant in
    (pairs_next sizes_apart l r p c.loop-p.plain c.apart-plain.result i.0 a, omega (arith, i.1, c.apart-plain.ensures.most), pairs_next sizes_mixed l r p c.loop-p.turned c.mixed-turned.result i.2 b, omega (arith, i.3, c.mixed-turned.ensures.most))
