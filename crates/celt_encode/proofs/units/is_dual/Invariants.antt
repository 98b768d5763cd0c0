use Rattle.std.proofs.Common.{◌≡◌, ◌≤◌, ◌*◌, ◌^◌}
use Rattle.celt_encode.specs.Units.{over_pairs, sizes_apart, sizes_mixed}
use Rattle.celt_encode.proofs.units.is_dual.Given as goal

-- both sums so far
abbrev pub invariant-loop-p : goal.invariant-loop-p
invariant-loop-p l =
    (l.plain ≡ over_pairs sizes_apart l.l l.r l.p) × (l.plain ≤ l.p * 2 ^ 16) × (l.turned ≡ over_pairs sizes_mixed l.l l.r l.p) × (l.turned ≤ l.p * 2 ^ 16)
