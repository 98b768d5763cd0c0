-- Rounding shifts, and the noise.
use Rattle.std.specs.Prelude.{ℕ, ◌+◌, ◌-◌, ◌*◌, ◌%◌, ◌^◌, ℤ, pos, ◌+ℤ◌}
use Rattle.std.specs.Int.{int_shr}

-- z / 2^s, rounded to the nearest whole number, halves upwards
abbrev pub rounded : ℤ → ℕ → ℤ
rounded z s = int_shr (z +ℤ pos (2 ^ (s - 1))) s

-- the noise's next state
abbrev pub noise_after : ℕ → ℕ
noise_after seed = (seed * 1664525 + 1013904223) % 2 ^ 32
