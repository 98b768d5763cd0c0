use Rattle.celt_encode.proofs.PlaceEvents.{all_met}
use Rattle.celt_encode.proofs.PlaceFrames.{frame_places}
use Rattle.celt_encode.proofs.guard_laws.law_places.Goals as goal

pub returns-clause-script : goal.returns-clause-script
returns-clause-script c = frame_places

pub returns-clause-choice : goal.returns-clause-choice
returns-clause-choice c = all_met
