-- The checksum of a page (RFC 3533, section 6) as a register of 32 bits. A number below 2 ^ 32 is the polynomial whose
-- coefficients are its bits; times x is doubling, and a sum is the exclusive or.
use Rattle.std.specs.Prelude.{ℕ, zero, suc, ◌*◌, ◌/◌, ◌^◌, List, ◌++◌, take, drop, replicate, fold, bit_xor}

-- x^32 + the polynomial 04C11DB7
abbrev pub generator : ℕ
generator = 0x1_04c1_1db7

-- the remainder of x times r: twice r, less the generator where the top bit of r is 1
unfoldable pub times_x : ℕ → ℕ
times_x r = bit_xor (2 * r) (r / 2 ^ 31 * generator)

-- the remainder of x^k times r
unfoldable pub times_power : ℕ → ℕ → ℕ
times_power zero r = r
times_power (suc k) r = times_power k (times_x r)

-- one more byte
unfoldable pub after_byte : ℕ → ℕ → ℕ
after_byte r byte = times_power 8 (bit_xor r (byte * 2 ^ 24))

abbrev pub remainder_from : ℕ → List ℕ → ℕ
remainder_from r bytes = fold after_byte r bytes

-- the checksum's own field, bytes 22 to 25, taken as 0
abbrev pub blanked : List ℕ → List ℕ
blanked page = take 22 page ++ replicate 4 0 ++ drop 26 page

unfoldable pub checksum : List ℕ → ℕ
checksum page = remainder_from 0 (blanked page)
