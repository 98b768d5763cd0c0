-- De-emphasis (RFC 6716, 4.3.7.2): the filter 1 / (1 - 0.85 z^-1), where 0.85 is 27853 / 2^15.
use Rattle.std.specs.Prelude.{◌≡◌, ℕ, zero, suc, ◌<◌, ℤ, pos, ◌+ℤ◌, ◌*ℤ◌, List, length}
use Rattle.fixed_math.specs.Rounding.{rounded}
use Rattle.fixed_math.specs.Items.{item, listed}

-- the output before output n: the memory, where there is none in the list
abbrev pub before : ℤ → List ℤ → ℕ → ℤ
before memory ys zero = memory
before memory ys (suc n) = item ys n

-- what remains of an output in the next one: 0.85 of it, rounded
unfoldable pub remainder : ℤ → ℤ
remainder y = rounded (pos 27853 *ℤ y) 15

-- ys are the outputs for xs: each is its input and what remains of the output before it
pub record IsDeemphasis (memory : ℤ) (xs ys : List ℤ) : Type 0 where
  pub count : length ys ≡ length xs
  pub each : (n : ℕ) → n < length xs → item ys n ≡ item xs n +ℤ remainder (before memory ys n)

-- the output before place n of a signal x: each output is its input and what remains of the output before it
unfoldable pub output_before : ℤ → (ℕ → ℤ) → ℕ → ℤ
output_before memory x zero = memory
output_before memory x (suc n) = x n +ℤ remainder (output_before memory x n)

-- the outputs for a list
unfoldable pub deemphasized : ℤ → List ℤ → List ℤ
deemphasized memory xs = listed (length xs) (λ n. output_before memory (item xs) (suc n))
