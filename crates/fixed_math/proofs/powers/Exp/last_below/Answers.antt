use Rattle.std.proofs.Common.{arith}
use Rattle.fixed_math.proofs.PowerLemmas.{fraction-first}
use Rattle.fixed_math.proofs.powers.Exp.last_below.Goals as goal

pub loop-k-init : goal.loop-k-init
loop-k-init c = record {
  room = omega arith;
  below = omega (arith, fraction-first);
  last = λ p. absurd (omega arith);
}
