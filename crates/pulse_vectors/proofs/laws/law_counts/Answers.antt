use Rattle.std.proofs.Common.{add-one}
use Rattle.pulse_vectors.proofs.Counts.{count-no-pulses, count-three}
use Rattle.pulse_vectors.proofs.RowSteps.{count-none-suc}
use Rattle.pulse_vectors.proofs.laws.law_counts.Goals as goal

pub returns-clause-no_pulses : goal.returns-clause-no_pulses
returns-clause-no_pulses c = count-no-pulses

pub returns-clause-no_numbers : goal.returns-clause-no_numbers
returns-clause-no_numbers c = λ k. rw add-one (count-none-suc k)

pub returns-clause-three : goal.returns-clause-three
returns-clause-three c = count-three
