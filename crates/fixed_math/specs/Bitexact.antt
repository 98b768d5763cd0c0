-- The cosine and the logarithm of a tangent that encoder and decoder must agree on (RFC 6716, 4.3.4.4).
use Rattle.std.specs.Prelude.{ℕ, ◌-◌, ◌*◌, ◌^◌, ℤ, pos, neg_ℤ, ◌+ℤ◌, ◌-ℤ◌, ◌*ℤ◌}
use Rattle.std.specs.Int.{int_shr}
use Rattle.fixed_math.specs.Root.{bit_length_of}
use Rattle.fixed_math.specs.Rounding.{rounded}

-- a * b / 2^15, rounded
abbrev pub product : ℤ → ℤ → ℤ
product a b = rounded (a *ℤ b) 15

-- the cosine (Q15) from the angle's square t
abbrev pub cosine_of_square : ℤ → ℤ
cosine_of_square t = (pos 1 +ℤ (pos 32767 -ℤ t)) +ℤ product t (neg_ℤ (pos 7651) +ℤ product t (pos 8277 +ℤ product (neg_ℤ (pos 626)) t))

-- the cosine (Q15) of an angle of which 16384 are a quarter of the circle
unfoldable pub bitexact_cosine : ℤ → ℤ
bitexact_cosine x = cosine_of_square (int_shr (pos 4096 +ℤ x *ℤ x) 13)

-- a number shifted left to 15 bits
abbrev pub aligned : ℕ → ℕ
aligned s = s * 2 ^ (15 - bit_length_of s)

-- the fraction of the logarithm of a number of 15 bits
abbrev pub curve : ℤ → ℤ
curve s = product s (product s (neg_ℤ (pos 2597)) +ℤ pos 7932)

-- the logarithm of a tangent, given as sine and cosine, in units of 1/2048
unfoldable pub log2_tangent : ℕ → ℕ → ℤ
log2_tangent s c = ((pos (bit_length_of s) -ℤ pos (bit_length_of c)) *ℤ pos 2048 +ℤ curve (pos (aligned s))) -ℤ curve (pos (aligned c))
