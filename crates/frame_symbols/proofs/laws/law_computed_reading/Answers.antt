use Rattle.frame_symbols.proofs.ReadingSteps.{computed_list, computed_value}
use Rattle.frame_symbols.proofs.laws.law_computed_reading.Goals as goal

pub returns-clause-list : goal.returns-clause-list
returns-clause-list c = computed_list

pub returns-clause-value : goal.returns-clause-value
returns-clause-value c = computed_value
