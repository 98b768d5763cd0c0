-- The angle between the two halves of a split, or between middle and side (RFC 6716, 4.3.4.4), from their
-- lengths m and s. Angles are those of the circle of 15360; a quarter is 3840.
use Rattle.std.specs.Prelude.{ℕ, ◌+◌, ◌<◌, ◌≤◌, nat_eq, Bool, if◌then◌else◌, pos, ◌*ℤ◌, ◌≤ℤ◌, ◌<ℤ◌, int_le}
use Rattle.fixed_math.specs.Search.{greatest}
use Rattle.fixed_math.specs.Circle.{cosine, sine}

-- the tangent of a is at most s / m
abbrev pub is_under : ℕ → ℕ → ℕ → Bool
is_under m s a = int_le (sine a *ℤ pos m) (cosine a *ℤ pos s)

-- the greatest angle up to a quarter whose tangent is at most s / m, and 0 where both are 0
unfoldable pub angle_of : ℕ → ℕ → ℕ
angle_of m s = if nat_eq (m + s) 0 then 0 else greatest (is_under m s) 3841

-- a is the greatest angle up to a quarter with sin(a) * m <= cos(a) * s
pub record IsAngle (m s a : ℕ) : Type 0 where
  pub quarter : a ≤ 3840
  pub within : (sine a *ℤ pos m) ≤ℤ (cosine a *ℤ pos s)
  pub last : (b : ℕ) → a < b → b ≤ 3840 → (cosine b *ℤ pos s) <ℤ (sine b *ℤ pos m)
