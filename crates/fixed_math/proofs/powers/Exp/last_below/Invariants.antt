use Rattle.std.proofs.Common.{◌+◌, ◌^◌, ◌<◌, ◌≤◌}
use Rattle.fixed_math.specs.Powers.{fraction}
use Rattle.fixed_math.proofs.powers.Exp.last_below.Given as goal

-- the place is among the 2^k from low on
abbrev pub invariant-loop-k : goal.invariant-loop-k
invariant-loop-k l = record {
  room : l.low + 2 ^ l.k ≤ 1024;
  below : fraction l.low < l.fn.limit;
  last : l.low + 2 ^ l.k < 1024 → l.fn.limit ≤ fraction (l.low + 2 ^ l.k);
}
