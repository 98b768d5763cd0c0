-- The shapes of one band, in both channels (RFC 6716, section 4.3.4.4).
use Rattle.std.specs.Prelude.{◌≡◌, ◌⊎◌, ◌<◌, ◌≤◌, unsigned_abs, All, ℕ, ◌/◌, ◌^◌, ℤ, pos, neg_ℤ, ◌+ℤ◌, ◌-ℤ◌, int_lt, Bool, ◌&&◌, false, true, if◌then◌else◌, List, [], ◌∷◌, length, map, replicate}
use Rattle.std.specs.Int.RustNames.{bit_or}
use Rattle.fixed_math.specs.Bitexact.{product}
use Rattle.fixed_math.specs.Items.{item}
use Rattle.spread_fold.specs.Stereo.{merged}
use Rattle.band_plan.specs.declared.symbols.Node.{Node}
use Rattle.band_shapes.specs.declared.node.Cut.{Cut}
use Rattle.band_shapes.specs.declared.node.Fills.{Fills}
use Rattle.band_shapes.specs.declared.node.Layout.{Layout}
use Rattle.band_shapes.specs.declared.node.MadePair.{MadePair}
use Rattle.band_shapes.specs.declared.node.Two.{Two}
use Rattle.band_shapes.specs.declared.node.Wish.{Wish}
use Rattle.band_shapes.specs.Channels.{channel_by, IsChange}
use Rattle.band_shapes.specs.Forms.{Side, One, Many, Form, Single, Double, Turned, Duo, ReadSide, ReadForm, read_side, read_form}
use Rattle.band_shapes.specs.Parts.{Shape, CanMake, kept_fill, mid_of, side_of}

-- the item of a channel of one coefficient
unfoldable pub sign_of : Bool → ℤ
sign_of negative = if negative then neg_ℤ (pos 16384) else pos 16384

-- A channel: of one coefficient its sign alone.
unfoldable pub side_shape : Layout → Side → List ℤ → Wish → ℕ → Shape
side_shape e (One negative) source w seed = record { vector = sign_of negative ∷ []; mask = 1; seed = seed }
side_shape e (Many part) source w seed = channel_by e.spread e.count part source w e.change seed

-- both channels of a band, the vector of which a copy is kept for the left one, the masks and the noise's state
pub record Pair : Type 0 where
  pub left : List ℤ
  pub right : List ℤ
  pub copy : List ℤ
  pub left_mask : ℕ
  pub right_mask : ℕ
  pub seed : ℕ

-- what a channel's nodes are
abbrev pub side_at : Layout → List Node → ReadSide
side_at e ns = read_side e.count e.level ns

-- one channel
unfoldable pub alone : ℕ → Shape → Pair
alone n s = record { left = s.vector; right = replicate n (pos 0); copy = s.vector; left_mask = s.mask; right_mask = 0; seed = s.seed }

-- two channels, each by itself
unfoldable pub apart : Shape → Shape → Pair
apart one two = record { left = one.vector; right = two.vector; copy = one.vector; left_mask = one.mask; right_mask = two.mask; seed = two.seed }

-- what a whole channel is to be like, and what middle and side are: of a band's fill each takes its blocks
unfoldable pub whole_wish : Layout → ℕ → Wish
whole_wish e fill = record { fill = fill; gain = pos 32768; blocks = e.blocks }

unfoldable pub mid_wish : Layout → ℕ → ℤ → Wish
mid_wish e fill theta = record { fill = kept_fill e.blocks theta fill; gain = pos 32768; blocks = e.blocks }

unfoldable pub side_wish : Layout → ℕ → ℤ → Wish
side_wish e fill theta = record { fill = kept_fill e.blocks theta fill / 2 ^ e.blocks; gain = side_of theta; blocks = e.blocks }

-- middle and side, and the state behind both
pub record Both : Type 0 where
  pub mid : Shape
  pub side : Shape
  pub seed : ℕ

-- in the order in which they were coded
unfoldable pub both : Bool → (ℕ → Shape) → (ℕ → Shape) → ℕ → Both
both side_first mid side seed =
    if side_first
    then record { mid = mid (side seed).seed; side = side seed; seed = (mid (side seed).seed).seed }
    else record { mid = mid seed; side = side (mid seed).seed; seed = (side (mid seed).seed).seed }

-- the first was coded first; the side has no source
unfoldable pub both_of : Layout → Cut → Side → Side → List ℤ → ℕ → ℕ → Both
both_of e cut one two source fill seed =
    both cut.second_first
    (side_shape e (if cut.second_first then two else one) source (mid_wish e fill cut.theta))
    (side_shape e (if cut.second_first then one else two) [] (side_wish e fill cut.theta))
    seed

-- the right channel turned round
unfoldable pub inverted : Bool → List ℤ → List ℤ
inverted turned xs = if turned then map neg_ℤ xs else xs

-- more than two coefficients: the channels from middle and side
unfoldable pub merged_pair : ℤ → Bool → Both → Pair
merged_pair theta turned p =
    record {
      left = merged (mid_of theta) false p.mid.vector p.side.vector;
      right = inverted turned (merged (mid_of theta) true p.mid.vector p.side.vector);
      copy = p.mid.vector;
      left_mask = bit_or p.mid.mask p.side.mask;
      right_mask = bit_or p.mid.mask p.side.mask;
      seed = p.seed;
    }

-- two coefficients
abbrev pub two_in : List ℤ → Two
two_in xs = record { first = item xs 0; second = item xs 1 }

abbrev pub listed : Two → List ℤ
listed v = v.first ∷ v.second ∷ []

-- the vector that stands upright on another, to one side or to the other
unfoldable pub upright : Bool → Two → Two
upright negative v = if negative then record { first = v.second; second = neg_ℤ v.first } else record { first = neg_ℤ v.second; second = v.first }

unfoldable pub weighed : ℤ → Two → Two
weighed weight v = record { first = product weight v.first; second = product weight v.second }

unfoldable pub sum : Two → Two → Two
sum x y = record { first = x.first +ℤ y.first; second = x.second +ℤ y.second }

unfoldable pub difference : Two → Two → Two
difference x y = record { first = x.first -ℤ y.first; second = x.second -ℤ y.second }

-- the coded vector is the side where the angle is above half of a quarter of the circle
unfoldable pub is_side : ℤ → Bool
is_side theta = int_lt (pos 8192) theta

-- middle and side of the coded vector, each by its weight
unfoldable pub mid_duo : ℤ → Bool → Two → Two
mid_duo theta negative v = weighed (mid_of theta) (if is_side theta then upright negative v else v)

unfoldable pub side_duo : ℤ → Bool → Two → Two
side_duo theta negative v = weighed (side_of theta) (if is_side theta then v else upright negative v)

unfoldable pub duo_pair : ℤ → Bool → Bool → Shape → Pair
duo_pair theta negative turned s =
    let v : Two = two_in s.vector in
    record {
      left = listed (difference (mid_duo theta negative v) (side_duo theta negative v));
      right = inverted turned (listed (sum (mid_duo theta negative v) (side_duo theta negative v)));
      copy = s.vector;
      left_mask = s.mask;
      right_mask = s.mask;
      seed = s.seed;
    }

abbrev pub IsTwoBelow : ℕ → Two → Type 0
IsTwoBelow m v = (unsigned_abs v.first < m) × (unsigned_abs v.second < m)

-- two channels by themselves, from their nodes
unfoldable pub apart_at : Layout → List Node → List ℤ → List ℤ → Fills → ℕ → Pair
apart_at e ns xs ys fills seed =
    let one = side_at e ns in
    let left = side_shape e one.side xs (whole_wish e fills.left) seed in
    apart left (side_shape e (side_at e one.rest).side ys (whole_wish e fills.right) left.seed)

-- middle and side, from their nodes
unfoldable pub both_at : Layout → Cut → List Node → List ℤ → ℕ → ℕ → Both
both_at e cut ns xs fill seed = let one = side_at e ns in both_of e cut one.side (side_at e one.rest).side xs fill seed

-- where the channels are not apart, the fill is that of both
abbrev pub joined_fill : Fills → ℕ
joined_fill fills = bit_or fills.left fills.right

-- A band, from the sources and the fills of both channels; an inversion counts only where `invert` is set.
unfoldable pub pair_shape : Layout → Bool → List ℤ → List ℤ → Fills → Form → ℕ → Pair
pair_shape e invert xs ys fills (Single one) seed = alone e.count (side_shape e one xs (whole_wish e (joined_fill fills)) seed)
pair_shape e invert xs ys fills (Double one two) seed =
    let left = side_shape e one xs (whole_wish e fills.left) seed in
    apart left (side_shape e two ys (whole_wish e fills.right) left.seed)
pair_shape e invert xs ys fills (Turned cut inversion one two) seed =
    merged_pair cut.theta (inversion && invert) (both_of e cut one two xs (joined_fill fills) seed)
pair_shape e invert xs ys fills (Duo cut inversion negative one) seed =
    duo_pair cut.theta negative (inversion && invert) (side_shape e one xs (whole_wish e (joined_fill fills)) seed)

-- what a band's nodes are
abbrev pub form_in : Layout → List Node → ReadForm
form_in e ns = read_form e.two e.channels e.count e.level ns

-- what a channel rests on: the sizes of its source and of what it is to be like
pub record CanSide (e : Layout) (xs : List ℤ) (w : Wish) : Type 0 where
  pub fits : CanMake e.count xs w
  pub source : All (λ v. unsigned_abs v ≤ 2 ^ 19) xs
  pub change : IsChange e.count w.blocks e.change
  pub spread : e.spread ≤ 3
  pub level : e.level ≤ 4
  pub fill : w.fill < 2 ^ w.blocks

-- a source and a fill that a band can take
pub record CanTake (e : Layout) (xs : List ℤ) (fill : ℕ) : Type 0 where
  pub count : e.count ≤ 176
  pub length_is : (length xs ≡ 0) ⊎ (length xs ≡ e.count)
  pub source : All (λ v. unsigned_abs v ≤ 2 ^ 19) xs
  pub change : IsChange e.count e.blocks e.change
  pub spread : e.spread ≤ 3
  pub level : e.level ≤ 4
  pub fill_size : fill < 2 ^ e.blocks

-- what the vectors, masks and the state of a band have to be
pub record IsPair (e : Layout) (p : Pair) (xs ys zs : List ℤ) (m : MadePair) : Type 0 where
  pub left : xs ≡ p.left
  pub right : ys ≡ p.right
  pub copy : zs ≡ p.copy
  pub left_mask : m.left ≡ p.left_mask
  pub right_mask : m.right ≡ p.right_mask
  pub seed : m.seed ≡ p.seed
  pub left_size : All (λ v. unsigned_abs v < 2 ^ 20) xs
  pub right_size : All (λ v. unsigned_abs v < 2 ^ 20) ys
  pub right_apart : e.two ≡ true → All (λ v. unsigned_abs v < 2 ^ 19) ys
  pub copy_size : All (λ v. unsigned_abs v < 2 ^ 19) zs
  pub left_small : m.left < 2 ^ e.blocks
  pub right_small : m.right < 2 ^ e.blocks

-- what two vectors of middle and side have to be
pub record IsBoth (blocks : ℕ) (p : Both) (xs ys : List ℤ) (m s : ℕ) : Type 0 where
  pub mid : xs ≡ p.mid.vector
  pub side : ys ≡ p.side.vector
  pub mask : m ≡ bit_or p.mid.mask p.side.mask
  pub seed : s ≡ p.seed
  pub mid_size : All (λ v. unsigned_abs v < 2 ^ 19) xs
  pub side_size : All (λ v. unsigned_abs v < 2 ^ 19) ys
  pub small : m < 2 ^ blocks
