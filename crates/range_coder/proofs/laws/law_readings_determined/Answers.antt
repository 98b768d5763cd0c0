use Rattle.celt_base.specs.Intervals.{whole}
use Rattle.range_coder.proofs.Answering.{reading_determined}
use Rattle.range_coder.proofs.laws.law_readings_determined.Goals as goal

pub returns : goal.returns
returns c = λ frame first second. reading_determined frame whole first second
