use Rattle.std.proofs.Common.{arith, refl}
use Rattle.fixed_math.specs.Powers.{octaves}
use Rattle.fixed_math.proofs.PowerLemmas.{ex_nothing}
use Rattle.celt_synth.proofs.collapse.power_down.Goals as goal

pub returns-then-d-ge-NO_POWER-clause-value : goal.returns-then-d-ge-NO_POWER-clause-value
returns-then-d-ge-NO_POWER-clause-value c = let h = c.if-d-ge-NO_POWER.true in ex_nothing c.args.d (octaves c.args.d) refl (omega (arith, h))
