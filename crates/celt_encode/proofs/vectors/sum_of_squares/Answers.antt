use Rattle.std.proofs.Common.{◌≡◌, ◌^◌, ◌<◌, unsigned_abs, pos, arith, get_or, ℤ, w64, FitsSigned}
use Rattle.std.proofs.lemmas.Int.{to_z-of_z, fits_signed_from_abs}
use Rattle.celt_encode.proofs.VectorSteps.{more_small, front_small}
use Rattle.fixed_math.specs.Unit.{square}
use Rattle.celt_encode.proofs.vectors.sum_of_squares.Goals as goal

pub overflow_add-sum : goal.overflow_add-sum
overflow_add-sum c =
    let most = more_small c.args.x.now c.loop-i.i c.requires.count c.requires.small (omega arith) in
    let sum = c.loop-i.invariant in
    let x : ℤ = get_or c.args.x.now c.loop-i.i (pos 0) in
    let size : unsigned_abs x < 2 ^ 20 = c.requires.small c.loop-i.i (pos 0) (omega arith) in
    let fx : FitsSigned w64 x = fits_signed_from_abs w64 x (omega arith) in
    let e : c.square-sum.result ≡ square x = simp to_z-of_z at c.square-sum.ensures.value in
    omega (arith, most, sum, e)

pub returns-clause-size : goal.returns-clause-size
returns-clause-size c =
    let most = front_small c.args.x.now c.loop-i.i c.requires.count c.requires.small in
    let sum = c.loop-i.invariant in
    omega (arith, most, sum)
