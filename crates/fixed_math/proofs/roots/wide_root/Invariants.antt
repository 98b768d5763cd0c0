use Rattle.std.proofs.Common.{◌≡◌, ◌+◌, ◌*◌, ◌/◌, ◌^◌, ◌<◌, ◌≤◌}
use Rattle.fixed_math.proofs.roots.wide_root.Given as goal

-- x is not below the root, and y is the next of Newton's steps
abbrev pub invariant-loop-y : goal.invariant-loop-y
invariant-loop-y l = record {
  some : 0 < l.v;
  positive : 0 < l.x;
  small : l.x ≤ 2 ^ 64;
  above : l.v < (l.x + 1) * (l.x + 1);
  next : l.y ≡ (l.x + l.v / l.x) / 2;
}

abbrev pub decreases-loop-y : goal.decreases-loop-y
decreases-loop-y l = l.x
