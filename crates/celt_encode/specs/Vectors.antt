-- The vectors of a band, and what is wanted of them.
use Rattle.std.specs.Prelude.{ℕ, ◌+◌, ◌*◌, ◌/◌, ◌^◌, min, Bool, false, true, ◌&&◌, ◌||◌, if◌then◌else◌, nat_eq, nat_lt, int_lt, ℤ, pos, ◌+ℤ◌, ◌-ℤ◌, ◌*ℤ◌, List, [], length, take, drop, slice_index_or}
use Rattle.fixed_math.specs.Items.{item, listed}
use Rattle.celt_encode.specs.Changes.{changed}
use Rattle.celt_base.specs.declared.coder.Enter.{Enter}
use Rattle.celt_encode.specs.declared.answers.Answers.{Answers}
use Rattle.celt_encode.specs.Outsets.{Outset}
use Rattle.celt_tables.specs.Tables.{edge_of, width_of}
use Rattle.celt_encode.specs.declared.rooms.Vector.{Vector}
use Rattle.fixed_math.specs.Root.{root}
use Rattle.fixed_math.specs.Unit.{energy}
use Rattle.pulse_search.specs.Angles.{angle_of}

abbrev pub vector_of : Vector → List ℤ
vector_of v = take v.count v.items

-- the n items from `offset` on
abbrev pub part_of : List ℤ → ℕ → ℕ → List ℤ
part_of xs offset n = take n (drop offset xs)

-- The angle between two lengths, in steps of which qn are a right angle.
unfoldable pub steps_wanted : ℕ → ℕ → ℕ → ℤ
steps_wanted qn m s = pos ((angle_of m s * qn + 1920) / 3840)

unfoldable pub split_wanted : List ℤ → ℕ → ℕ → ℕ → ℤ
split_wanted xs offset n qn = steps_wanted qn (root (energy (part_of xs offset n))) (root (energy (part_of xs (offset + n) n)))

-- The channel's vector of a band, of unit length; empty where there is no such band.
unfoldable pub unit_in : Outset → ℕ → ℕ → List ℤ
unit_in f channel band =
    if nat_lt channel 2 && nat_lt band 21
    then part_of (slice_index_or f.units channel []) (edge_of band * 2 ^ f.kind.lm) (width_of band * 2 ^ f.kind.lm)
    else []

-- The sum and the difference of two channels, place by place.
unfoldable pub sum_of : List ℤ → List ℤ → List ℤ
sum_of l r = listed (min (length l) (length r)) (λ p. item l p +ℤ item r p)

unfoldable pub difference_of : List ℤ → List ℤ → List ℤ
difference_of l r = listed (min (length l) (length r)) (λ p. item l p -ℤ item r p)

-- The channels of a band of n coefficients are coded each by itself.
unfoldable pub is_alone : Outset → Answers → ℕ → ℕ → Bool
is_alone f a band n = nat_lt f.kind.channels 2 || (nat_eq n 1 || (a.dual && nat_lt band a.intensity))

-- In other bands channel 0 is the middle and channel 1 the side; of a pair the one is coded that has more.
unfoldable pub takes_side : Answers → ℕ → ℕ → ℕ → Bool
takes_side a band channel n = if nat_eq n 2 then slice_index_or a.leans band false else nat_eq channel 1

unfoldable pub mixed : Bool → Bool → List ℤ → List ℤ → List ℤ
mixed side inverted l r = if side then difference_of r l else (if inverted then difference_of l r else sum_of l r)

-- the channel's vector before its changes
unfoldable pub plain_vector : Outset → Answers → ℕ → ℕ → List ℤ
plain_vector f a channel band =
    if is_alone f a band (length (unit_in f 0 band))
    then unit_in f channel band
    else mixed (takes_side a band channel (length (unit_in f 0 band))) (slice_index_or a.inverted band false) (unit_in f 0 band) (unit_in f 1 band)

-- what a channel's vector is when it is entered
unfoldable pub entered_vector : Outset → Answers → Enter → List ℤ
entered_vector f a at = changed at.tf at.blocks (plain_vector f a at.channel at.band)

-- the sum of a band's channels, or their difference
abbrev pub beside : Outset → ℕ → Bool → List ℤ
beside f band difference = mixed false difference (unit_in f 0 band) (unit_in f 1 band)

unfoldable pub stereo_wanted : Outset → ℕ → ℕ → ℤ
stereo_wanted f band qn = steps_wanted qn (root (energy (beside f band false))) (root (energy (beside f band true)))

unfoldable pub is_opposed : Outset → ℕ → Bool
is_opposed f band = nat_lt (energy (beside f band false)) (energy (beside f band true))

-- The second vector of a pair of coefficients lies to the right of the first, turned back.
unfoldable pub turns_back : List ℤ → List ℤ → Bool
turns_back x y = int_lt (item x 0 *ℤ item y 1 -ℤ item x 1 *ℤ item y 0) (pos 0)

-- The same of the vector that is coded and the other, of middle and side: the side is coded where the angle is above 8192.
unfoldable pub is_back : Outset → Answers → ℕ → ℤ → Bool
is_back f a band theta =
    let middle = mixed false (slice_index_or a.inverted band false) (unit_in f 0 band) (unit_in f 1 band) in
    let side = mixed true false (unit_in f 0 band) (unit_in f 1 band) in
    if int_lt (pos 8192) theta then turns_back side middle else turns_back middle side

-- The value of a band of one coefficient is below 0.
unfoldable pub is_below : Outset → ℕ → ℕ → Bool
is_below f band channel = int_lt (item (unit_in f channel band) 0) (pos 0)
