use Rattle.fixed_math.proofs.AngleLemmas.{cosine-zero, sine-zero, quarter_turn, quarter_turn_cosine, mirror_cosine, mirror_sine}
use Rattle.fixed_math.proofs.angles.law_circle.Goals as goal

pub returns-clause-start : goal.returns-clause-start
returns-clause-start c = (cosine-zero, sine-zero)

pub returns-clause-quarter_cosine : goal.returns-clause-quarter_cosine
returns-clause-quarter_cosine c = quarter_turn_cosine c.args.a c.requires

pub returns-clause-quarter_sine : goal.returns-clause-quarter_sine
returns-clause-quarter_sine c = quarter_turn c.args.a c.requires

pub returns-clause-back_cosine : goal.returns-clause-back_cosine
returns-clause-back_cosine c = λ p. mirror_cosine c.args.a p c.requires

pub returns-clause-back_sine : goal.returns-clause-back_sine
returns-clause-back_sine c = λ p. mirror_sine c.args.a p c.requires
