use Rattle.range_coder.proofs.laws.law_pace_bounds.Goals as goal

pub returns-clause-width : goal.returns-clause-width
returns-clause-width c = λ r. (r.wide, r.window.narrow)

pub returns-clause-bits : goal.returns-clause-bits
returns-clause-bits c = λ r. (r.window.begun, r.paced)
