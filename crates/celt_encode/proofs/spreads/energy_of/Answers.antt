use Rattle.std.proofs.Common.{◌≡◌, ℕ, ◌+◌, ◌<◌, ◌≤◌, ◌^◌, arith, get_or, List, ap, ◌∙◌}
use Rattle.std.specs.Prelude.{ℤ, pos, take, sum_by, FitsSigned, unsigned_abs}
use Rattle.std.specs.Int.{w64}
use Rattle.std.proofs.lemmas.Int.{to_z-of_z, fits_signed_from_abs}
use Rattle.std.proofs.lemmas.List.{take_all}
use Rattle.std.proofs.lemmas.List.Sums.{sum_by_more_le}
use Rattle.fixed_math.specs.Unit.{square, energy}
use Rattle.celt_encode.proofs.SpreadLemmas.{energy_most}
use Rattle.celt_encode.proofs.spreads.energy_of.Goals as goal

pub overflow_add-sum : goal.overflow_add-sum
overflow_add-sum c =
    let v : List ℤ = c.args.band.now in
    let i : ℕ = c.loop-i.i in
    let x : ℤ = get_or v i (pos 0) in
    let size : unsigned_abs x < 2 ^ 38 = c.requires.sizes i (pos 0) (omega arith) in
    let fx : FitsSigned w64 x = fits_signed_from_abs w64 x (omega arith) in
    let sum : c.loop-i.sum ≡ sum_by square (take i v) = c.loop-i.invariant in
    let e : c.square-sum.result ≡ square x = simp to_z-of_z at c.square-sum.ensures.value in
    let more : sum_by square (take i v) + square x ≤ energy v = sum_by_more_le square v i (pos 0) (omega arith) in
    let most : energy v ≤ 2 ^ 84 = energy_most v c.requires.count c.requires.sizes in
    omega arith

pub returns-clause-most : goal.returns-clause-most
returns-clause-most c =
    let v : List ℤ = c.args.band.now in
    let most : energy v ≤ 2 ^ 84 = energy_most v c.requires.count c.requires.sizes in
    let e : c.loop-i.sum ≡ energy v = c.loop-i.invariant ∙ ap (sum_by square) (take_all c.loop-i.i v (omega (arith, c.loop-i-test.false))) in
    omega (arith, e, most)
