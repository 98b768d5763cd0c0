use Rattle.celt_encode.proofs.ReadSteps.{chosen_answers, chosen_types, kept_code}
use Rattle.celt_encode.proofs.RoomLemmas.{code_computed, has_room, kept_fits}
use Rattle.celt_encode.proofs.guard_laws.law_room.Goals as goal

pub returns-clause-code : goal.returns-clause-code
returns-clause-code c = code_computed

pub returns-clause-room : goal.returns-clause-room
returns-clause-room c = has_room

pub returns-clause-kept : goal.returns-clause-kept
returns-clause-kept c = kept_fits

pub returns-clause-frame : goal.returns-clause-frame
returns-clause-frame c = kept_code

pub returns-clause-answers : goal.returns-clause-answers
returns-clause-answers c = λ f. (chosen_answers f, chosen_types f)
