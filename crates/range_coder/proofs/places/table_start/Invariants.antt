use Rattle.std.proofs.Common.{◌≡◌, ◌≤◌}
use Rattle.celt_base.specs.Questions.{start, table_row}
use Rattle.range_coder.proofs.places.table_start.Given as goal

abbrev pub invariant-loop-place : goal.invariant-loop-place
invariant-loop-place l = (l.from ≡ start (table_row l.fn.table) l.place) × (l.from ≤ 128)
