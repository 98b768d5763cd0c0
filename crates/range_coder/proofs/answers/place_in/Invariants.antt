use Rattle.std.proofs.Common.{◌≡◌, ◌+◌, ◌-◌, ◌<◌, ◌≤◌}
use Rattle.celt_base.specs.Questions.{start, table_row, answers_of}
use Rattle.range_coder.proofs.answers.place_in.Given as goal

abbrev pub invariant-loop-to : goal.invariant-loop-to
invariant-loop-to l =
    (l.answer < answers_of l.fn.table) × (l.from ≡ start (table_row l.fn.table) l.answer) × (l.to ≡ start (table_row l.fn.table) (l.answer + 1))
    × (l.from ≤ l.fn.value)

abbrev pub decreases-loop-to : goal.decreases-loop-to
decreases-loop-to l = l.fn.value + 1 - l.to
