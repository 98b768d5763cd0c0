use Rattle.std.specs.Prelude.{◌-◌, ◌*◌, pos, int_div}
use Rattle.celt_analysis.specs.Analyses.{height_in}
use Rattle.celt_encode.specs.Listening.{rise_of, trim_for}
use Rattle.celt_encode.specs.Spreads.{spread_for}
use Rattle.celt_encode.proofs.ListeningLawLemmas.{spread_most, within-least, within-most, between}
use Rattle.celt_encode.proofs.listening_laws.law_listening.Goals as goal

pub returns-clause-spread : goal.returns-clause-spread
unfolding spread_for
returns-clause-spread c kind a = spread_most _ _

pub returns-clause-least_trim : goal.returns-clause-least_trim
unfolding trim_for
returns-clause-least_trim c kind a = within-least (int_div (rise_of kind.end (height_in a)) (pos (6144 * (kind.end - 1))))

pub returns-clause-most_trim : goal.returns-clause-most_trim
unfolding trim_for
returns-clause-most_trim c kind a = within-most (int_div (rise_of kind.end (height_in a)) (pos (6144 * (kind.end - 1))))

pub returns-clause-boosts : goal.returns-clause-boosts
returns-clause-boosts c kind a b e = between kind.end (height_in a) b e
