use Rattle.post_filter.proofs.TapLemmas.{fade_rises, fade_most}
use Rattle.post_filter.proofs.EchoLemmas.{term_behind, term_silent, term_one}
use Rattle.std.proofs.Common.{refl}
use Rattle.post_filter.proofs.laws.law_fade.Goals as goal

pub returns-clause-rise : goal.returns-clause-rise
returns-clause-rise c = fade_rises

pub returns-clause-most : goal.returns-clause-most
returns-clause-most c = fade_most

pub returns-clause-over : goal.returns-clause-over
returns-clause-over c = term_behind

pub returns-clause-off : goal.returns-clause-off
returns-clause-off c = term_silent

pub returns-clause-same : goal.returns-clause-same
returns-clause-same c = λ setting i vs p step. term_one setting setting i vs p refl refl refl step
