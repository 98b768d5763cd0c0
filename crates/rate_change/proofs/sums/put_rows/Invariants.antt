use Rattle.std.proofs.Common.{◌≡◌, ℕ, ◌+◌, ◌<◌}
use Rattle.std.specs.Prelude.{length, get_or, vec_capacity}
use Rattle.rate_change.specs.Tables.{IsRow}
use Rattle.rate_change.specs.declared.row.Row.{Row}
use Rattle.rate_change.proofs.sums.put_rows.Given as goal

abbrev pub invariant-loop-f : goal.invariant-loop-f
invariant-loop-f l = (length l.rows.items + 1 ≡ l.f) × (vec_capacity l.rows ≡ vec_capacity l.fn.rows) × ((i : ℕ) (d : Row) → i + 1 < l.f → IsRow l.fn.up (i + 1) (get_or l.rows.items i d))
