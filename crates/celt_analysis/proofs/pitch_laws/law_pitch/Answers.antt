use Rattle.celt_analysis.proofs.PitchLaws.{pitch_one, pitch_alike, on_best, on_gain, off_period, on_where}
use Rattle.celt_analysis.proofs.pitch_laws.law_pitch.Goals as goal

pub returns-clause-one : goal.returns-clause-one
returns-clause-one c = pitch_one

pub returns-clause-heard : goal.returns-clause-heard
returns-clause-heard c = pitch_alike

pub returns-clause-best : goal.returns-clause-best
returns-clause-best c = on_best

pub returns-clause-gain : goal.returns-clause-gain
returns-clause-gain c = on_gain

pub returns-clause-off : goal.returns-clause-off
returns-clause-off c = off_period

pub returns-clause-on : goal.returns-clause-on
returns-clause-on c = on_where
