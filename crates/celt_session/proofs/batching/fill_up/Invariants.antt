use Rattle.std.proofs.Common.{◌≡◌, ◌-◌, ◌≤◌, ℕ, ◌++◌, length, replicate}
use Rattle.std.specs.Prelude.{vec_capacity}
use Rattle.celt_session.proofs.batching.fill_up.Given as goal

abbrev pub invariant-loop-held : goal.invariant-loop-held
invariant-loop-held l = record {
  count : ℕ;
  few : count ≤ l.len - length l.fn.held.items;
  held : l.held.items ≡ l.fn.held.items ++ replicate count 0;
  capacity : vec_capacity l.fn.held ≤ vec_capacity l.held;
}

abbrev pub decreases-loop-held : goal.decreases-loop-held
decreases-loop-held l = l.len - length l.held.items
