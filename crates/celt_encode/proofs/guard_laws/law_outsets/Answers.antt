use Rattle.celt_encode.proofs.PlaceOutsets.{rows_are, encoder_rows}
use Rattle.celt_encode.proofs.guard_laws.law_outsets.Goals as goal

pub returns-clause-outset : goal.returns-clause-outset
returns-clause-outset c = rows_are

pub returns-clause-encoder : goal.returns-clause-encoder
returns-clause-encoder c = encoder_rows
