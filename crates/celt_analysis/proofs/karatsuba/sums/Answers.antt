use Rattle.std.proofs.Common.{◌≡◌, ℕ, ◌+◌, ◌<◌, ◌^◌, inl, refl, arith, List}
use Rattle.std.specs.Prelude.{ℤ, ◌+ℤ◌, unsigned_abs, FitsSigned}
use Rattle.std.specs.Int.{w16}
use Rattle.std.proofs.lemmas.Int.{ints, to_z-of_z, fits_signed_from_abs}
use Rattle.fixed_math.specs.Items.{item}
use Rattle.celt_analysis.proofs.PlaceLemmas.{put-start, put-more}
use Rattle.celt_analysis.proofs.karatsuba.sums.Goals as goal

pub loop-i-init : goal.loop-i-init
loop-i-init c = put-start (λ k. item c.args.s.now (c.args.a + k) +ℤ item c.args.s.now (c.args.b + k)) c.args.s.now c.args.to

pub loop-i-preserved : goal.loop-i-preserved
loop-i-preserved c =
    let old : List ℤ = c.args.s.now in
    let i : ℕ = c.loop-i.i in
    let x : ℤ = item old (c.args.a + i) in
    let y : ℤ = item old (c.args.b + i) in
    let sx : unsigned_abs x < 2 ^ 14 = c.requires.first_sizes i (omega arith) in
    let sy : unsigned_abs y < 2 ^ 14 = c.requires.second_sizes i (omega arith) in
    let fx : FitsSigned w16 x = fits_signed_from_abs w16 x (omega arith) in
    let fy : FitsSigned w16 y = fits_signed_from_abs w16 y (omega arith) in
    let fz : FitsSigned w16 (x +ℤ y) = fits_signed_from_abs w16 (x +ℤ y) (omega (arith, ints)) in
    let ex : item c.loop-i.s (c.args.a + i) ≡ x = c.loop-i.invariant.others (c.args.a + i) (inl (omega (arith, c.requires.first))) in
    let ey : item c.loop-i.s (c.args.b + i) ≡ y = c.loop-i.invariant.others (c.args.b + i) (inl (omega (arith, c.requires.second))) in
    simp (to_z-of_z, ex, ey) (put-more (λ k. item old (c.args.a + k) +ℤ item old (c.args.b + k)) old c.loop-i.s c.args.to i (x +ℤ y) (omega (arith, c.requires.room)) refl c.loop-i.invariant)
