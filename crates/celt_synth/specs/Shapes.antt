-- The shapes of a frame (RFC 6716, 4.3.4), Q14: 100 items a block of 120 samples, one band behind the other.
use Rattle.std.specs.Prelude.{ℕ, ℤ, List}

-- the shapes of both channels, and the noise's state behind them
pub record Shapes : Type 0 where
  pub left : List ℤ
  pub right : List ℤ
  pub seed : ℕ

abbrev pub shapes_of : List ℤ → List ℤ → ℕ → Shapes
shapes_of left right seed = record { left = left; right = right; seed = seed }

-- what the answers of a frame make of its bands: the shapes, and the masks of blocks by channels and bands, whose bit b is
-- 1 where block b has a shape
pub record Shaped : Type 0 where
  pub shapes : Shapes
  pub masks : List (List ℕ)
