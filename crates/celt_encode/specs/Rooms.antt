-- That the code of a list has room in its frame.
use Rattle.std.specs.Prelude.{◌≡◌, ℕ, ◌+◌, ◌*◌, ◌^◌, ◌<◌, ◌≤◌, true}
use Rattle.celt_base.specs.Intervals.{Interval}
use Rattle.celt_encode.specs.Codes.{has_block, fewest_bits}

-- A block of at most 31 bits is found, and it does not meet the raw bits, which are as many as are counted.
pub record HasRoom (i : Interval) (len : ℕ) : Type 0 where
  pub few : fewest_bits i ≤ 31
  pub found : has_block i (fewest_bits i) ≡ true
  pub apart : i.shift + fewest_bits i + i.raw ≤ 8 * len
  pub bits : i.bits < 2 ^ i.raw
