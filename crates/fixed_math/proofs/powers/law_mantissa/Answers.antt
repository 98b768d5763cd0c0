use Rattle.fixed_math.proofs.PowerLemmas.{mantissa-rises}
use Rattle.fixed_math.proofs.powers.law_mantissa.Goals as goal

pub returns : goal.returns
returns c = λ p. mantissa-rises c.args.f c.args.g p c.requires
