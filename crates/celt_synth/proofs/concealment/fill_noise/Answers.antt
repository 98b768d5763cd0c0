use Rattle.std.proofs.Common.{◌≡◌, ap, ◌∙◌, arith, pos}
use Rattle.fixed_math.specs.Unit.{unit_of}
use Rattle.celt_synth.specs.Concealment.{noise_band}
use Rattle.celt_synth.proofs.concealment.fill_noise.Goals as goal

pub returns-clause-value : goal.returns-clause-value
unfolding noise_band
returns-clause-value c = c.unit.ensures.value ∙ ap (unit_of (pos 32768)) c.noise_fill.ensures.value
