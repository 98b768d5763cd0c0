-- The frame that a list of questions with answers codes, computed (RFC 6716, sections 5.1.4 and 5.1.5).
use Rattle.std.specs.Prelude.{ℕ, zero, suc, ◌+◌, ◌-◌, ◌*◌, ◌/◌, ◌%◌, ◌^◌, Bool, nat_le, List, [], ◌∷◌}
use Rattle.celt_base.specs.Intervals.{Interval}
use Rattle.celt_base.specs.Questions.{Answered, interval_of}
use Rattle.fixed_math.specs.Search.{least}

-- The bytes of a number, most significant first.
unfoldable pub bytes_of : ℕ → ℕ → List ℕ
bytes_of zero n = []
bytes_of (suc len) n = n / 256 ^ len ∷ bytes_of len (n % 256 ^ len)

-- the first k bits of the least number of the interval, or one more where more bits follow
unfoldable pub lowest_block : Interval → ℕ → ℕ
lowest_block i k = (i.low + (2 ^ (31 - k) - 1)) / 2 ^ (31 - k)

-- All numbers that begin with these bits are in the interval.
unfoldable pub has_block : Interval → ℕ → Bool
has_block i k = nat_le ((lowest_block i k + 1) * 2 ^ (31 - k)) (i.low + i.width)

unfoldable pub fewest_bits : Interval → ℕ
fewest_bits i = least (has_block i) 32

-- The frame as a number: the bits of the block first, and the raw bits lowest.
unfoldable pub code_number : Interval → ℕ → ℕ
code_number i len = lowest_block i (fewest_bits i) * 2 ^ (8 * len - (i.shift + fewest_bits i)) + i.bits

-- The code of a list, of `len` bytes.
unfoldable pub code_of : List Answered → ℕ → List ℕ
code_of list len = bytes_of len (code_number (interval_of list) len)
