use Rattle.std.proofs.Common.{ℕ, ◌*◌, ◌^◌, ◌≤◌, arith}
use Rattle.std.proofs.lemmas.Nat.{mul-le}
use Rattle.std.proofs.Math.Nat.{pow-le-pow_right}
use Rattle.celt_encode.proofs.numbers.coefficients.Goals as goal

pub returns-clause-most : goal.returns-clause-most
returns-clause-most c =
    let lm : ℕ = c.args.kind.lm in
    let power : 2 ^ lm ≤ 2 ^ 3 = pow-le-pow_right {n = 2} (omega arith) c.args.kind.sized in
    let most : c.width.result * 2 ^ lm ≤ 22 * 2 ^ 3 = mul-le c.width.result (2 ^ lm) 22 (2 ^ 3) c.width.ensures.most power in
    omega (arith, most)
