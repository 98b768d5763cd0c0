use Rattle.std.proofs.Common.{ap}
use Rattle.celt_base.specs.Questions.{interval_of}
use Rattle.range_coder.proofs.CodeLaws.{list_apart, code_is_read, only_list}
use Rattle.range_coder.proofs.laws.law_code_is_read.Goals as goal

pub returns-clause-read : goal.returns-clause-read
returns-clause-read c = code_is_read

pub returns-clause-only : goal.returns-clause-only
returns-clause-only c = only_list

pub returns-clause-range : goal.returns-clause-range
returns-clause-range c =
    λ list other len frame are code same reads. ap (λ l. (interval_of l).width) (only_list list other len frame are code same reads)

pub returns-clause-apart : goal.returns-clause-apart
returns-clause-apart c = list_apart
