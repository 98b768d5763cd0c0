use Rattle.std.proofs.Common.{◌≡◌, arith}
use Rattle.std.specs.Prelude.{◌-ℤ◌, unsigned_abs}
use Rattle.std.proofs.lemmas.Int.{ints}
use Rattle.range_coder.proofs.NearestOne.{nearest_one}
use Rattle.range_coder.proofs.laws.law_nearest_determined.Goals as goal

pub returns-clause-one : goal.returns-clause-one
returns-clause-one c = nearest_one

pub returns-clause-itself : goal.returns-clause-itself
returns-clause-itself c = λ q a is. record { is_answer = is; nearest = λ other also. let none : unsigned_abs (a -ℤ a) ≡ 0 = omega (arith, ints) in omega arith }
