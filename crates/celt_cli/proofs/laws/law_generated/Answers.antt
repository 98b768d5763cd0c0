use Rattle.std.proofs.Common.{refl}
use Rattle.celt_cli.specs.Generator.{noise_behind}
use Rattle.celt_cli.proofs.GivenPairs.{left_low, left_high, right_low, right_high}
use Rattle.celt_cli.proofs.laws.law_generated.Goals as goal

pub returns-clause-left : goal.returns-clause-left
returns-clause-left c = λ seed number. (left_low seed number, left_high seed number)

pub returns-clause-right : goal.returns-clause-right
returns-clause-right c = λ seed number. (right_low seed number, right_high seed number)

pub returns-clause-first : goal.returns-clause-first
unfolding noise_behind
returns-clause-first c = refl
