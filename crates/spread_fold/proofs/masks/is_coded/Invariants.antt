use Rattle.std.proofs.Common.{◌≡◌, drop}
use Rattle.spread_fold.specs.Masks.{has_pulse}
use Rattle.spread_fold.proofs.masks.is_coded.Given as goal

-- the items so far are 0
abbrev pub invariant-loop-v : goal.invariant-loop-v
invariant-loop-v l = has_pulse l.fn.y ≡ has_pulse (drop l.v-index l.fn.y)
