use Rattle.celt_base.proofs.Narrowing.{interval_is}
use Rattle.range_coder.proofs.laws.law_interval_end.Goals as goal

pub returns : goal.returns
returns c = λ list. (interval_is list).below
