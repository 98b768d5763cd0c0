use Rattle.celt_encode.specs.Frames.{choice_of}
use Rattle.celt_encode.specs.Standing.{begun, noted}
use Rattle.celt_encode.specs.Wanted.{wanted}
use Rattle.celt_encode.proofs.ChoiceLemmas.{chosen_is}
use Rattle.celt_encode.proofs.laws.law_choice.Goals as goal

pub returns : goal.returns
unfolding choice_of
returns c f events value adds near = chosen_is noted wanted (begun f) adds near
