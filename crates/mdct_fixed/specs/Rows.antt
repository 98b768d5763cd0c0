-- Rows of a join (RFC 6716, 4.3.7).
use Rattle.std.specs.Prelude.{◌≡◌, ◌≢◌, ℕ, ◌+◌, ◌-◌, ◌*◌, ◌/◌, ◌%◌, ◌<◌, ◌≤◌, neg_ℤ, unsigned_abs}
use Rattle.mdct_fixed.specs.declared.complex.Complex.{Complex}
use Rattle.mdct_fixed.specs.declared.complex.Angle.{Angle}
use Rattle.mdct_fixed.specs.declared.rows.Four.{Four}
use Rattle.mdct_fixed.specs.declared.rows.ThreeAngles.{ThreeAngles}
use Rattle.mdct_fixed.specs.declared.rows.TwoAngles.{TwoAngles}
use Rattle.mdct_fixed.specs.declared.rows.SixAngles.{SixAngles}
use Rattle.mdct_fixed.specs.declared.rows.Five.{Five}
use Rattle.mdct_fixed.specs.declared.rows.Parts.{Parts}
use Rattle.mdct_fixed.specs.Numbers.{angle_at, plus, spun, turned, IsWithin, IsSmall}
use Rattle.mdct_fixed.specs.Transform.{turned_sum}

pub record AreFourWithin (n : ℕ) (y : Four) : Type 0 where
  pub first : IsWithin n y.first
  pub second : IsWithin n y.second
  pub third : IsWithin n y.third
  pub fourth : IsWithin n y.fourth

pub record AreThreeSmall (w : ThreeAngles) : Type 0 where
  pub second : IsSmall w.second
  pub third : IsSmall w.third
  pub fourth : IsSmall w.fourth

-- z has the sums of y's items: those behind the first are turned by the angles w, and by quarters of the circle more
pub record AreFourSums (y : Four) (w : ThreeAngles) (z : Four) : Type 0 where
  pub first : z.first ≡ plus (plus (plus y.first (spun y.second w.second.cosine w.second.sine)) (spun y.third w.third.cosine w.third.sine)) (spun y.fourth w.fourth.cosine w.fourth.sine)
  pub second : z.second ≡ plus (plus (plus y.first (spun y.second (neg_ℤ w.second.sine) w.second.cosine)) (spun y.third (neg_ℤ w.third.cosine) (neg_ℤ w.third.sine))) (spun y.fourth w.fourth.sine (neg_ℤ w.fourth.cosine))
  pub third : z.third ≡ plus (plus (plus y.first (spun y.second (neg_ℤ w.second.cosine) (neg_ℤ w.second.sine))) (spun y.third w.third.cosine w.third.sine)) (spun y.fourth (neg_ℤ w.fourth.cosine) (neg_ℤ w.fourth.sine))
  pub fourth : z.fourth ≡ plus (plus (plus y.first (spun y.second w.second.sine (neg_ℤ w.second.cosine))) (spun y.third (neg_ℤ w.third.cosine) (neg_ℤ w.third.sine))) (spun y.fourth (neg_ℤ w.fourth.sine) w.fourth.cosine)

-- the angle a
abbrev pub IsAngle : ℕ → Angle → Type 0
IsAngle a w = w ≡ angle_at (a % 15360)

-- the angles a, 2a and 3a
pub record AreThreeAngles (a : ℕ) (w : ThreeAngles) : Type 0 where
  pub second : w.second ≡ angle_at (a * 1 % 15360)
  pub third : w.third ≡ angle_at (a * 2 % 15360)
  pub fourth : w.fourth ≡ angle_at (a * 3 % 15360)

pub record AreTwoSmall (w : TwoAngles) : Type 0 where
  pub second : IsSmall w.second
  pub third : IsSmall w.third

pub record AreSixSmall (w : SixAngles) : Type 0 where
  pub first : AreTwoSmall w.first
  pub second : AreTwoSmall w.second
  pub third : AreTwoSmall w.third

-- the angles a and 2a
pub record AreTwoAngles (a : ℕ) (w : TwoAngles) : Type 0 where
  pub second : w.second ≡ angle_at (a * 1 % 15360)
  pub third : w.third ≡ angle_at (a * 2 % 15360)

-- the same of a, and of a and one and two thirds of the circle more
pub record AreSixAngles (a : ℕ) (w : SixAngles) : Type 0 where
  pub first : AreTwoAngles (a + 5120 * 0) w.first
  pub second : AreTwoAngles (a + 5120 * 1) w.second
  pub third : AreTwoAngles (a + 5120 * 2) w.third

pub record AreFiveWithin (n : ℕ) (y : Five) : Type 0 where
  pub first : IsWithin n y.first
  pub second : IsWithin n y.second
  pub third : IsWithin n y.third
  pub fourth : IsWithin n y.fourth
  pub fifth : IsWithin n y.fifth

pub record ArePartsWithin (n : ℕ) (p : Parts) : Type 0 where
  pub second : unsigned_abs p.second ≤ n
  pub third : unsigned_abs p.third ≤ n
  pub fourth : unsigned_abs p.fourth ≤ n
  pub fifth : unsigned_abs p.fifth ≤ n

-- z has the sums of y's items, those behind the first turned by fifths of the circle
pub record AreFiveSums (y z : Five) : Type 0 where
  pub first : z.first ≡ plus (plus (plus (plus y.first y.second) y.third) y.fourth) y.fifth
  pub second : z.second ≡ plus (plus (plus (plus y.first (turned y.second 3072)) (turned y.third 6144)) (turned y.fourth 9216)) (turned y.fifth 12288)
  pub third : z.third ≡ plus (plus (plus (plus y.first (turned y.second 6144)) (turned y.third 12288)) (turned y.fourth 3072)) (turned y.fifth 9216)
  pub fourth : z.fourth ≡ plus (plus (plus (plus y.first (turned y.second 9216)) (turned y.third 3072)) (turned y.fourth 12288)) (turned y.fifth 6144)
  pub fifth : z.fifth ≡ plus (plus (plus (plus y.first (turned y.second 12288)) (turned y.third 9216)) (turned y.fourth 6144)) (turned y.fifth 3072)

-- The r items that stand m places apart from p on are joined: item q is the sum of the items turned by multiples of
-- a and q r-ths of the circle. All others are as they were.
pub record IsRowJoined (r m p a : ℕ) (old new : ℕ → Complex) : Type 0 where
  pub sums : (q : ℕ) → q < r → new (p + q * m) ≡ turned_sum (λ j. old (p + j * m)) (a + 15360 / r * q) (r - 1)
  pub others : (i : ℕ) → ((q : ℕ) → q < r → i ≢ p + q * m) → new i ≡ old i
