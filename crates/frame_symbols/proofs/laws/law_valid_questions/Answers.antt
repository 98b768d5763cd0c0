use Rattle.frame_symbols.specs.Frames.{frame_script, first_pace}
use Rattle.frame_symbols.proofs.ValidityFrames.{frame_valid}
use Rattle.frame_symbols.proofs.ValiditySteps.{valid_list}
use Rattle.frame_symbols.proofs.laws.law_valid_questions.Goals as goal

pub returns-clause-script : goal.returns-clause-script
returns-clause-script c = λ kind len. (frame_valid kind len).is

pub returns-clause-list : goal.returns-clause-list
returns-clause-list c = λ kind len list order. valid_list (frame_script kind len) first_pace list (frame_valid kind len).is order
