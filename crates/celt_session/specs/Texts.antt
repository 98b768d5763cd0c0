-- Numbers as text, and text that is put into a slice.
use Rattle.std.specs.Prelude.{◌≡◌, ℕ, zero, suc, ◌+◌, ◌/◌, ◌%◌, List, [], ◌∷◌, ◌++◌, length, take, nat_lt, if◌then◌else◌}

-- a hexadecimal digit, in lower case
abbrev pub hex_digit : ℕ → ℕ
hex_digit n = if nat_lt n 10 then 48 + n else 87 + n

-- so many of them, the highest first
unfoldable pub hex_digits : ℕ → ℕ → List ℕ
hex_digits zero n = []
hex_digits (suc count) n = hex_digits count (n / 16) ++ hex_digit (n % 16) ∷ []

-- the text stands behind the first `at` bytes, and ends at `end`
pub record IsPut (old new : List ℕ) (at end : ℕ) (text : List ℕ) : Type 0 where
  pub len : length new ≡ length old
  pub front : take end new ≡ take at old ++ text
  pub ends : end ≡ at + length text
