use Rattle.frame_symbols.specs.Frames.{frame_script, first_pace}
use Rattle.celt_base.proofs.CountSteps.{list_most}
use Rattle.frame_symbols.proofs.CountSteps.{frame_most}
use Rattle.frame_symbols.proofs.laws.law_frame_questions.Goals as goal

pub returns-clause-most : goal.returns-clause-most
returns-clause-most c = λ kind len. (frame_most kind len).is

pub returns-clause-list : goal.returns-clause-list
returns-clause-list c = λ kind len list order. list_most 3100 (frame_script kind len) first_pace list (frame_most kind len).is order
