use Rattle.celt_analysis.proofs.InputLemmas.{frame_heard, pitch_heard, pitch_meant, window_length}
use Rattle.celt_analysis.proofs.laws.law_window.Goals as goal

pub returns-clause-analysis : goal.returns-clause-analysis
returns-clause-analysis c = frame_heard

pub returns-clause-pitch : goal.returns-clause-pitch
returns-clause-pitch c = pitch_heard

pub returns-clause-setting : goal.returns-clause-setting
returns-clause-setting c = pitch_meant

pub returns-clause-size : goal.returns-clause-size
returns-clause-size c = window_length
