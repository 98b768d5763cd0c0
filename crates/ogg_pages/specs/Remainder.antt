-- The checksum of a page as a remainder of polynomials whose coefficients are bits (RFC 3533, section 6). A polynomial is the
-- number whose binary digits are its coefficients: a sum is the exclusive or, times x is doubling.
use Rattle.std.specs.Prelude.{◌≡◌, ℕ, ◌+◌, ◌*◌, ◌^◌, ◌<◌, Bool, List, [], ◌∷◌, fold, bit_xor, if◌then◌else◌}
use Rattle.ogg_pages.specs.Checksum.{generator}

-- the product of two polynomials, the first as the list of its coefficients from that of x^0 up
unfoldable pub product : List Bool → ℕ → ℕ
product [] p = 0
product (c ∷ cs) p = bit_xor (if c then p else 0) (2 * product cs p)

-- a multiple of the generator
pub record IsMultiple (p : ℕ) : Type 0 where
  pub factor : List Bool
  pub equal : p ≡ product factor generator

-- the polynomial of bytes: the top bit of the first byte is the coefficient of the highest power
unfoldable pub polynomial : List ℕ → ℕ
polynomial bytes = fold (λ p byte. p * 256 + byte) 0 bytes

-- r has a degree below 32, and the polynomial of the bytes times x^32, plus r, is a multiple of the generator
pub record IsRemainder (bytes : List ℕ) (r : ℕ) : Type 0 where
  pub degree : r < 2 ^ 32
  pub multiple : IsMultiple (bit_xor (polynomial bytes * 2 ^ 32) r)
