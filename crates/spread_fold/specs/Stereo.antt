-- The two channels of a stereo band from its middle and its side (RFC 6716, 4.3.4.4).
use Rattle.std.specs.Prelude.{nat_lt, Bool, true, false, ◌||◌, if◌then◌else◌, ℤ, pos, ◌+ℤ◌, ◌-ℤ◌, ◌*ℤ◌, List, length}
use Rattle.fixed_math.specs.Rounding.{rounded}
use Rattle.fixed_math.specs.Unit.{energy, unit_of}
use Rattle.fixed_math.specs.Items.{item, listed}

-- the middle v, weighed, and the side w: their sum is the right, their difference the left
abbrev pub channel_item : ℤ → Bool → ℤ → ℤ → ℤ
channel_item mid right v w = if right then rounded (mid *ℤ v) 15 +ℤ w else rounded (mid *ℤ v) 15 -ℤ w

unfoldable pub channel : ℤ → Bool → List ℤ → List ℤ → List ℤ
channel mid right xs ys = listed (length xs) (λ i. channel_item mid right (item xs i) (item ys i))

-- a channel has less than 6/10000 of the energy of a shape
abbrev pub is_faint : ℤ → List ℤ → List ℤ → Bool
is_faint mid xs ys = nat_lt (energy (channel mid false xs ys)) 161061 || nat_lt (energy (channel mid true xs ys)) 161061

-- the channels of unit length, or the middle for both where one is faint
unfoldable pub merged : ℤ → Bool → List ℤ → List ℤ → List ℤ
merged mid right xs ys = if is_faint mid xs ys then xs else unit_of (pos 32768) (channel mid right xs ys)
