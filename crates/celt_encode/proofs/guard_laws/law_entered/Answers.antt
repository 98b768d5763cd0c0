use Rattle.celt_encode.proofs.PlaceProper.{entered_proper, blocks_proper, runs_same}
use Rattle.celt_encode.proofs.PlaceVectors.{length_unit, length_part}
use Rattle.celt_encode.proofs.guard_laws.law_entered.Goals as goal

pub returns-clause-units : goal.returns-clause-units
returns-clause-units c = length_unit

pub returns-clause-parts : goal.returns-clause-parts
returns-clause-parts c = length_part

pub returns-clause-vector : goal.returns-clause-vector
returns-clause-vector c = entered_proper

pub returns-clause-blocks : goal.returns-clause-blocks
returns-clause-blocks c = blocks_proper

pub returns-clause-runs : goal.returns-clause-runs
returns-clause-runs c = runs_same
