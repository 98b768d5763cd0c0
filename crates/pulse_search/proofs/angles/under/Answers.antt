use Rattle.fixed_math.specs.Circle.{cosine, sine}
use Rattle.pulse_search.proofs.AngleSteps.{comparison-kept}
use Rattle.pulse_search.proofs.angles.under.Goals as goal

pub returns : goal.returns
returns c = comparison-kept c.sin.result c.cos.result (sine c.args.a) (cosine c.args.a) c.args.m c.args.s c.sin.ensures.size c.cos.ensures.size c.requires.m_size c.requires.s_size c.sin.ensures.value c.cos.ensures.value
