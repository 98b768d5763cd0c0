-- Spreading: turns of pairs of a shape (RFC 6716, 4.3.4.3). Cosines and sines are in units of 2^-15.
use Rattle.std.specs.Prelude.{ℕ, zero, suc, ◌+◌, ◌-◌, ◌*◌, ◌/◌, ◌^◌, nat_eq, nat_lt, nat_le, Bool, ◌||◌, if◌then◌else◌, ℤ, pos, neg_ℤ, ◌+ℤ◌, ◌-ℤ◌, ◌*ℤ◌, List, [], length, take, drop, ◌++◌, slice_set}
use Rattle.std.specs.Int.{int_max, int_min}
use Rattle.fixed_math.specs.Circle.{cosine, sine}
use Rattle.fixed_math.specs.Rounding.{rounded}
use Rattle.fixed_math.specs.Items.{item}
use Rattle.fixed_math.specs.Search.{first_from}

-- at most 2^17 in size
unfoldable pub clamped : ℤ → ℤ
clamped z = int_max (neg_ℤ (pos (2 ^ 17))) (int_min z (pos (2 ^ 17)))

-- the two numbers of a pair after a turn with cosine c and sine s
abbrev pub turned_first : ℤ → ℤ → ℤ → ℤ → ℤ
turned_first c s x y = clamped (rounded (x *ℤ c -ℤ y *ℤ s) 15)

abbrev pub turned_second : ℤ → ℤ → ℤ → ℤ → ℤ
turned_second c s x y = clamped (rounded (y *ℤ c +ℤ x *ℤ s) 15)

-- the pair at places p and p + t turned
unfoldable pub pair_turned : ℕ → ℤ → ℤ → ℕ → List ℤ → List ℤ
pair_turned t c s p xs =
    slice_set (slice_set xs p (turned_first c s (item xs p) (item xs (p + t)))) (p + t) (turned_second c s (item xs p) (item xs (p + t)))

-- the pairs that begin at the first k places, upwards; and downwards
unfoldable pub turned_up : ℕ → ℤ → ℤ → ℕ → List ℤ → List ℤ
turned_up t c s zero xs = xs
turned_up t c s (suc k) xs = pair_turned t c s k (turned_up t c s k xs)

unfoldable pub turned_down : ℕ → ℤ → ℤ → ℕ → List ℤ → List ℤ
turned_down t c s zero xs = xs
turned_down t c s (suc k) xs = turned_down t c s k (pair_turned t c s k xs)

-- all pairs with distance t, upwards, and then all but the last t downwards
unfoldable pub turned : ℕ → ℤ → ℤ → List ℤ → List ℤ
turned t c s xs = turned_down t c s (length xs - 2 * t) (turned_up t c s (length xs - t) xs)

-- no turn for the distance 0
unfoldable pub turned_far : ℕ → ℤ → ℤ → List ℤ → List ℤ
turned_far t c s xs = if nat_eq t 0 then xs else turned t c s xs

-- a run: the decoder turns far pairs first, by the complement of the angle, and then neighbours; the encoder turns back
unfoldable pub spread_run : Bool → ℕ → ℤ → ℤ → List ℤ → List ℤ
spread_run forward t c s xs =
    if forward
    then turned_far t s (neg_ℤ c) (turned 1 c (neg_ℤ s) xs)
    else turned 1 c s (turned_far t s c xs)

-- the first b runs of n items, each spread, one behind the other
unfoldable pub spread_runs : Bool → ℕ → ℤ → ℤ → ℕ → ℕ → List ℤ → List ℤ
spread_runs forward t c s n zero xs = []
spread_runs forward t c s n (suc b) xs = spread_runs forward t c s n b xs ++ spread_run forward t c s (take n (drop (b * n) xs))

-- the distance of far pairs among n items, at most 176, in blocks: 0 for short blocks, else the least from 1 on with (t^2 + t) blocks + blocks / 4 at least n
abbrev pub is_far : ℕ → ℕ → ℕ → Bool
is_far n blocks t = nat_le n ((t * t + t) * blocks + blocks / 4)

unfoldable pub distance : ℕ → ℕ → ℕ
distance n blocks = if nat_lt n (8 * blocks) then 0 else first_from (is_far n blocks) 176 1

-- n + 15 k, n + 10 k or n + 5 k for spread 1, 2 and 3
abbrev pub spread_divisor : ℕ → ℕ → ℕ → ℕ
spread_divisor n k spread = n + (20 - 5 * spread) * k

-- the angle, 15360 to the circle: half of the square of n over the divisor, of a quarter of the circle, rounded
abbrev pub quarter_share : ℕ → ℕ → ℕ
quarter_share n d = (3840 * (n * n) + d * d) / (2 * (d * d))

unfoldable pub spread_angle : ℕ → ℕ → ℕ → ℕ
spread_angle n k spread = quarter_share n (spread_divisor n k spread)

-- a shape with k pulses, each block's run by itself; nothing is done without spreading, or where there are half as many
-- pulses as items
unfoldable pub spread_by : ℕ → ℕ → ℕ → Bool → List ℤ → List ℤ
spread_by blocks k spread forward xs =
    if nat_eq spread 0 || nat_le (length xs) (2 * k)
    then xs
    else
    spread_runs forward (distance (length xs) blocks) (cosine (spread_angle (length xs) k spread)) (sine (spread_angle (length xs) k spread)) (length xs / blocks) blocks xs
