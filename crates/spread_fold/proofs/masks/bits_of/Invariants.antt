use Rattle.std.proofs.Common.{◌≡◌, ◌<◌, ◌^◌}
use Rattle.spread_fold.specs.Masks.{block_bits}
use Rattle.spread_fold.proofs.masks.bits_of.Given as goal

-- the bits of the first blocks
abbrev pub invariant-loop-k : goal.invariant-loop-k
invariant-loop-k l = record { bits : l.mask ≡ block_bits l.n l.y l.k; small : l.mask < 2 ^ l.k }
