use Rattle.std.proofs.Common.{◌≡◌, ◌+◌, ◌-◌, ◌*◌, ◌^◌, ◌<◌, ◌≤◌, length}
use Rattle.range_coder.specs.FrameBits.{number}
use Rattle.range_coder.proofs.carry.add.Given as goal

abbrev pub invariant-loop-end : goal.invariant-loop-end
invariant-loop-end l =
    (length l.room ≡ length l.fn.room) × (l.end ≤ length l.room) × (l.carry < 2 ^ 31)
    × (number l.room + l.carry * 2 ^ (8 * (length l.room - l.end)) ≡ number l.fn.room + l.fn.value * 2 ^ (8 * (length l.room - (l.fn.at + 1))))

abbrev pub decreases-loop-end : goal.decreases-loop-end
decreases-loop-end l = l.end
