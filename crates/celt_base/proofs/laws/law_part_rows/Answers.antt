use Rattle.std.proofs.Common.{refl}
use Rattle.std.specs.Int.Count.{count_leading_zeros}
use Rattle.celt_base.proofs.laws.law_part_rows.Goals as goal

pub returns-clause-uniform : goal.returns-clause-uniform
unfolding count_leading_zeros
returns-clause-uniform c = refl
