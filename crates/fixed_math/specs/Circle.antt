-- Angles, 15360 to the circle. Points and the step are in units of 2^-60, cosines and sines in units of 2^-15.
use Rattle.std.specs.Prelude.{ℕ, zero, suc, ◌+◌, ◌-◌, ◌*◌, ◌/◌, ◌^◌, nat_le, if◌then◌else◌, ℤ, pos, neg_ℤ, ◌+ℤ◌, ◌-ℤ◌, ◌*ℤ◌}
use Rattle.std.specs.Int.{int_shr}
use Rattle.fixed_math.specs.Root.{root}
use Rattle.fixed_math.specs.declared.circle.Point.{Point}

-- the cosine of half an angle, from the angle's
abbrev pub half_cosine : ℕ → ℕ
half_cosine c = root ((2 ^ 60 + c) * 2 ^ 59)

-- the same n times
unfoldable pub halved : ℕ → ℕ → ℕ
halved zero c = c
halved (suc n) c = half_cosine (halved n c)

-- the sine of an angle of the first quarter, from its cosine
abbrev pub sine_beside : ℕ → ℕ
sine_beside c = root (2 ^ 120 - c * c)

-- 144 degrees without its cosine's sign: a quarter of 1 and the root of 5
abbrev pub two_fifths : ℕ
two_fifths = (2 ^ 60 + root (5 * 2 ^ 120)) / 4

-- the cosine of 24 degrees, which are 144 less 120; the signs of their two cosines cancel
unfoldable pub fifteenth_cosine : ℕ
fifteenth_cosine = (two_fifths * 2 ^ 59 + sine_beside two_fifths * root (3 * 2 ^ 118)) / 2 ^ 60

-- the step is a thousand and twenty-fourth of that, by ten halvings
unfoldable pub step_cosine : ℕ
step_cosine = halved 10 fifteenth_cosine

unfoldable pub step_sine : ℕ
step_sine = sine_beside step_cosine

-- a point turned by an angle with this cosine and sine
abbrev pub turned_by : ℕ → ℕ → Point → Point
turned_by c s p = record {
  x = int_shr (p.x *ℤ pos c -ℤ p.y *ℤ pos s) 60;
  y = int_shr (p.y *ℤ pos c +ℤ p.x *ℤ pos s) 60;
}

abbrev pub start : Point
start = record { x = pos (2 ^ 60); y = pos 0 }

-- the point after a steps
unfoldable pub point_by : ℕ → ℕ → ℕ → Point
point_by c s zero = start
point_by c s (suc a) = turned_by c s (point_by c s a)

unfoldable pub point : ℕ → Point
point a = point_by step_cosine step_sine a

-- a part of 2^60 as one of 2^15, rounded
abbrev pub narrowed : ℤ → ℤ
narrowed z = int_shr (z +ℤ pos (2 ^ 44)) 45

-- the cosine and sine of a, up to a quarter of the circle
unfoldable pub quarter_cosine : ℕ → ℤ
quarter_cosine a = narrowed (point a).x

unfoldable pub quarter_sine : ℕ → ℤ
quarter_sine a = narrowed (point a).y

-- up to half of the circle
abbrev pub half_circle_cosine : ℕ → ℤ
half_circle_cosine a = if nat_le a 3840 then quarter_cosine a else neg_ℤ (quarter_cosine (7680 - a))

abbrev pub half_circle_sine : ℕ → ℤ
half_circle_sine a = if nat_le a 3840 then quarter_sine a else quarter_sine (7680 - a)

-- the cosine and sine of an angle below 15360
unfoldable pub cosine : ℕ → ℤ
cosine a = if nat_le a 7680 then half_circle_cosine a else half_circle_cosine (15360 - a)

unfoldable pub sine : ℕ → ℤ
sine a = if nat_le a 7680 then half_circle_sine a else neg_ℤ (half_circle_sine (15360 - a))
