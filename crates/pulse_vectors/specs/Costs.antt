-- How many pulses an index stands for, what they cost, and which index a number of bits buys
-- (RFC 6716, 4.3.4.1). Costs are in eighths of a bit, rounded up.
use Rattle.std.specs.Prelude.{ℕ, zero, suc, ◌+◌, ◌-◌, ◌*◌, ◌/◌, ◌%◌, ◌^◌, Bool, if◌then◌else◌, nat_lt, nat_le, min, ℤ, pos, int_lt, int_le, ◌-ℤ◌}
use Rattle.pulse_vectors.specs.Vectors.{count_of}

-- the greatest number up to m that passes, or 0
unfoldable pub greatest : (ℕ → Bool) → ℕ → ℕ
greatest passes zero = 0
greatest passes (suc m) = if passes (suc m) then suc m else greatest passes m

-- how many pulses the index stands for: each number up to 16, then eight steps to a doubling
unfoldable pub pulses_at : ℕ → ℕ
pulses_at q = if nat_lt q 8 then q else (8 + q % 8) * 2 ^ (q / 8 - 1)

-- the greatest index whose vectors number less than 2^32
unfoldable pub last_of : ℕ → ℕ
last_of n = greatest (λ q. nat_lt (count_of n (pulses_at q)) (2 ^ 32)) 40

-- y * y, where y is in units of 2^-15, rounded up
abbrev pub squared : ℕ → ℕ
squared y = (y * y + 32767) / 32768

-- the logarithm of x, in units of 2^-15 and below 4, in its binary digits: the next digit is whether
-- x has reached 2, and squaring what is left shows the one behind it; what stays over 1 counts as one
unfoldable pub log_digits : ℕ → ℕ → ℕ
log_digits zero x = if nat_lt 32768 x then 1 else 0
log_digits (suc s) x = (x / 65536) * 2 ^ s + log_digits s (squared ((x + x / 65536) / 2 ^ (x / 65536)))

-- the whole part of the logarithm of v, for v from 1 to 2^32 - 1
unfoldable pub log_whole : ℕ → ℕ
log_whole v = greatest (λ e. nat_le (2 ^ e) v) 31

-- the logarithm of v in eighths, rounded up: v / 2^whole is rounded up to units of 2^-15
unfoldable pub log_eighths : ℕ → ℕ
log_eighths v = 8 * log_whole v + log_digits 4 ((v * 32768 + (2 ^ log_whole v - 1)) / 2 ^ log_whole v)

-- what the vectors of n numbers cost at an index: nothing without pulses
unfoldable pub cost_at : ℕ → ℕ → ℕ
cost_at n zero = 0
cost_at n (suc q) = log_eighths (count_of n (pulses_at (suc q)))

-- the greatest index that is 0 or costs less than the bits
unfoldable pub index_below : ℕ → ℤ → ℕ
index_below n b = greatest (λ q. int_lt (pos (cost_at n q)) b) (last_of n)

-- the index whose cost is nearest to the bits: that one or the next, where there is one; at equal
-- distances the lower
unfoldable pub index_near : ℕ → ℤ → ℕ
index_near n b =
    let low = index_below n b in
    let high = min (low + 1) (last_of n) in
    if int_le (b -ℤ pos (cost_at n low)) (pos (cost_at n high) -ℤ b) then low else high
