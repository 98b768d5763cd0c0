use Rattle.std.proofs.Common.{arith}
use Rattle.range_coder.proofs.Digits.{square_fits, digit_at_most, sixteen_after}
use Rattle.range_coder.proofs.logarithm.next_digit.Goals as goal

pub overflow_mul-square : goal.overflow_mul-square
overflow_mul-square c = omega (arith, square_fits c.args.leading c.requires.high)

pub returns-clause-one : goal.returns-clause-one
returns-clause-one c = digit_at_most c.args.leading c.requires.low c.requires.high

pub returns-clause-next_low : goal.returns-clause-next_low
returns-clause-next_low c = (sixteen_after c.args.leading c.requires.low c.requires.high).low

pub returns-clause-next_high : goal.returns-clause-next_high
returns-clause-next_high c = (sixteen_after c.args.leading c.requires.low c.requires.high).high
