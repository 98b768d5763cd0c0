-- The samples that `gen` encodes: two sawtooth waves with a share of noise, made of a seed.
use Rattle.std.specs.Prelude.{ℕ, zero, suc, ◌*◌, ◌/◌, ◌%◌, ℤ, pos, ◌+ℤ◌, ◌-ℤ◌}
use Rattle.std.specs.Int.{w32, cast_signed, int_shr}
use Rattle.fixed_math.specs.Rounding.{noise_after}

-- the noise's state behind so many pairs, each of which takes two steps (RFC 6716, section 4.3.4)
unfoldable pub noise_behind : ℕ → ℕ → ℕ
noise_behind seed zero = seed
noise_behind seed (suc count) = noise_after (noise_after (noise_behind seed count))

-- a sawtooth of this period from -4000 up to below 4000, at a place within the period
abbrev pub sawtooth : ℕ → ℕ → ℤ
sawtooth period place = pos (place * 8000 / period) -ℤ pos 4000

-- a noise's state as a signed number of 32 bits, of which the ten highest are kept: from -512 to 511
abbrev pub share_of : ℕ → ℤ
share_of state = int_shr (cast_signed w32 state) 22

abbrev pub sample_of : ℕ → ℕ → ℕ → ℤ
sample_of period place state = sawtooth period place +ℤ share_of state

-- the pair of samples with this number, counted from 0: left has the first of two steps, right the second
abbrev pub left_of : ℕ → ℕ → ℤ
left_of seed number = sample_of 200 (number % 200) (noise_after (noise_behind seed number))

abbrev pub right_of : ℕ → ℕ → ℤ
right_of seed number = sample_of 151 (number % 151) (noise_behind seed (suc number))

abbrev pub pair_of : ℕ → ℕ → ℤ × ℤ
pair_of seed number = (left_of seed number, right_of seed number)
