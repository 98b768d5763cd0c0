use Rattle.std.proofs.Common.{◌+◌, ◌*◌, ◌≤◌, ◌^◌, arith, refl, to_z}
use Rattle.std.specs.Prelude.{ℤ, ◌+ℤ◌, unsigned_abs, FitsSigned}
use Rattle.std.specs.Int.{w64}
use Rattle.std.proofs.lemmas.Int.{ints, to_z-of_z, fits_signed_from_abs}
use Rattle.fixed_math.specs.Items.{item}
use Rattle.fixed_math.proofs.ItemLemmas.{item_within}
use Rattle.rate_change.specs.Resampling.{first_sum}
use Rattle.rate_change.proofs.SumLemmas.{sum_step}
use Rattle.rate_change.proofs.sums.sum_of.Goals as goal

pub loop-t-init : goal.loop-t-init
unfolding first_sum
loop-t-init c = (refl, omega arith)

pub loop-t-preserved : goal.loop-t-preserved
loop-t-preserved c =
    let x : ℤ = item c.args.weights.now c.loop-t.t in
    let s : ℤ = to_z w64 c.loop-t.sum-bits in
    let h : unsigned_abs x ≤ 2 ^ 34 = item_within c.args.weights.now (2 ^ 34) c.loop-t.t c.requires in
    let i = c.loop-t.invariant in
    let fx : FitsSigned w64 x = fits_signed_from_abs w64 x (omega arith) in
    let b : unsigned_abs (s +ℤ x) ≤ (c.loop-t.t + 1) * 2 ^ 34 = omega (arith, ints, i.1) in
    let fs : FitsSigned w64 (s +ℤ x) = fits_signed_from_abs w64 (s +ℤ x) (omega arith) in
    simp to_z-of_z (sum_step c.args.weights.now c.loop-t.t s i.0, b)
