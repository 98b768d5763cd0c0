use Prim.Native.Nat.{ℕ, ◌<◌, ◌≤◌}
use mathlib.Core.Path.{◌≡◌}
use lib.ListN.{get_or}
use Rattle.celt_base.proofs.halves.fill_all.Given as goal

-- The slots from k on stand as they came, and those below k are filled.
abbrev pub invariant-loop-k : goal.invariant-loop-k
invariant-loop-k g l =
    ((j : ℕ) (d : g.row.T.Denot) → l.k ≤ j → get_or l.slots j d ≡ get_or l.initial.slots j d)
    × ((j : ℕ) (d : g.row.T.Denot) → j < l.k → g.W.Work.fills l.work (get_or l.initial.slots j d) (get_or l.slots j d))
