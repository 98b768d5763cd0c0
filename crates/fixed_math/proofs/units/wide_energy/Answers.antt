use Rattle.std.proofs.Common.{◌≡◌, ℕ, ◌+◌, ◌*◌, ◌<◌, ◌≤◌, ◌^◌, arith, get_or, List}
use Rattle.std.specs.Prelude.{ℤ, pos, take, sum_by, FitsSigned, unsigned_abs}
use Rattle.std.specs.Int.{w64}
use Rattle.std.proofs.lemmas.Int.{to_z-of_z, fits_signed_from_abs}
use Rattle.std.proofs.lemmas.List.Sums.{sum_by_more_le}
use Rattle.fixed_math.specs.Unit.{square, energy}
use Rattle.fixed_math.proofs.UnitLemmas.{energy_within, below_within}
use Rattle.fixed_math.proofs.units.wide_energy.Goals as goal

pub overflow_add-sum : goal.overflow_add-sum
overflow_add-sum c =
    let v : List ℤ = c.args.v.now in
    let i : ℕ = c.loop-i.i in
    let x : ℤ = get_or v i (pos 0) in
    let size : unsigned_abs x < 2 ^ 41 = omega (arith, c.requires.items i (pos 0) (omega arith)) in
    let fx : FitsSigned w64 x = fits_signed_from_abs w64 x (omega arith) in
    let sum : c.loop-i.sum ≡ sum_by square (take i v) = c.loop-i.invariant in
    let e : c.wide_square-sum.result ≡ square x = simp to_z-of_z at c.wide_square-sum.ensures in
    let more : sum_by square (take i v) + square x ≤ energy v = sum_by_more_le square v i (pos 0) (omega arith) in
    let most : energy v ≤ 176 * (2 ^ 40 * 2 ^ 40) = energy_within v (2 ^ 40) c.requires.count (below_within v c.requires.items) in
    omega arith
