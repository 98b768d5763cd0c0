-- The shape of a part of a band (RFC 6716, 4.3.4). Shapes are in units of 2^-14, gains in units of 2^-15.
use Rattle.std.specs.Prelude.{◌≡◌, ◌⊎◌, ◌<◌, ◌≤◌, ◌≤ℤ◌, unsigned_abs, All, ℕ, ◌+◌, ◌-◌, ◌*◌, ◌/◌, ◌%◌, ◌^◌, nat_eq, ℤ, pos, ◌-ℤ◌, Bool, false, ◌||◌, if◌then◌else◌, List, [], ◌∷◌, ◌++◌, length, take, drop, get_or, replicate}
use Rattle.std.specs.Ordering.{int_eq}
use Rattle.std.specs.Int.RustNames.{bit_or}
use Rattle.fixed_math.specs.Bitexact.{bitexact_cosine, product}
use Rattle.fixed_math.specs.Unit.{unit_of}
use Rattle.spread_fold.specs.Masks.{mask}
use Rattle.spread_fold.specs.Noise.{seed_after, noise_items, folded}
use Rattle.spread_fold.specs.Spreading.{spread_by}
use Rattle.pulse_vectors.specs.Vectors.{vectors}
use Rattle.band_shapes.specs.declared.node.Wish.{Wish}
use Rattle.band_shapes.specs.Tree.{Part, Leaf, Split, IsBlocks}

-- a vector, which of its blocks have a shape, and the noise's state behind it
pub record Shape : Type 0 where
  pub vector : List ℤ
  pub mask : ℕ
  pub seed : ℕ

-- what a vector, a mask and a state have to be
pub record IsMade (blocks : ℕ) (shape : Shape) (xs : List ℤ) (m s : ℕ) : Type 0 where
  pub vector : xs ≡ shape.vector
  pub mask : m ≡ shape.mask
  pub seed : s ≡ shape.seed
  pub size : All (λ v. unsigned_abs v ≤ 2 ^ 17) xs
  pub small : m < 2 ^ blocks

-- sizes with which a part of n items can be made
pub record CanMake (n : ℕ) (xs : List ℤ) (w : Wish) : Type 0 where
  pub count : n ≤ 176
  pub source : (length xs ≡ 0) ⊎ (length xs ≡ n)
  pub items : All (λ v. unsigned_abs v < 2 ^ 22) xs
  pub blocks : IsBlocks w.blocks
  pub runs : n % w.blocks ≡ 0
  pub gain_low : pos 0 ≤ℤ w.gain
  pub gain_high : w.gain ≤ℤ pos 32768

-- the weights of the two parts of a split (Q15)
unfoldable pub mid_of : ℤ → ℤ
mid_of theta = if int_eq theta (pos 0) then pos 32767 else if int_eq theta (pos 16384) then pos 0 else bitexact_cosine theta

unfoldable pub side_of : ℤ → ℤ
side_of theta = if int_eq theta (pos 0) then pos 0 else if int_eq theta (pos 16384) then pos 32767 else bitexact_cosine (pos 16384 -ℤ theta)

-- the blocks of each part of a split
abbrev pub halved : ℕ → ℕ
halved blocks = (blocks + 1) / 2

-- a fill of one block serves both parts
unfoldable pub doubled_fill : ℕ → ℕ → ℕ
doubled_fill blocks fill = if nat_eq blocks 1 then fill % 2 + 2 * fill else fill

-- at an end of the circle one part is silent; `inner` are the blocks of a part
unfoldable pub kept_fill : ℕ → ℤ → ℕ → ℕ
kept_fill inner theta fill =
    if int_eq theta (pos 0)
    then fill % 2 ^ inner
    else if int_eq theta (pos 16384) then fill / 2 ^ inner % 2 ^ inner * 2 ^ inner else fill

abbrev pub split_fill : ℕ → ℤ → ℕ → ℕ
split_fill blocks theta fill = kept_fill (halved blocks) theta (doubled_fill blocks fill)

-- what the parts of a split are to be like
unfoldable pub first_wish : ℤ → Wish → Wish
first_wish theta w = record { fill = split_fill w.blocks theta w.fill; gain = product w.gain (mid_of theta); blocks = halved w.blocks }

unfoldable pub second_wish : ℤ → Wish → Wish
second_wish theta w =
    record { fill = split_fill w.blocks theta w.fill / 2 ^ halved w.blocks; gain = product w.gain (side_of theta); blocks = halved w.blocks }

-- a vector of pulses
unfoldable pub pulses_at : ℕ → ℕ → ℕ → List ℤ
pulses_at n k index = get_or (vectors n k) index []

unfoldable pub pulse_shape : ℕ → ℕ → ℕ → ℕ → Wish → ℕ → Shape
pulse_shape spread n k index w seed =
    record { vector = spread_by w.blocks k spread false (unit_of w.gain (pulses_at n k index)); mask = mask w.blocks (pulses_at n k index); seed = seed }

-- a copy of the source with noise, or noise alone; no source is the empty list
unfoldable pub filled_shape : ℕ → List ℤ → ℕ → Wish → ℕ → Shape
filled_shape n [] fill w seed = record { vector = unit_of w.gain (noise_items n seed); mask = 2 ^ w.blocks - 1; seed = seed_after n seed }
filled_shape n (v ∷ vs) fill w seed = record { vector = unit_of w.gain (folded seed (v ∷ vs)); mask = fill; seed = seed_after n seed }

-- without pulses
unfoldable pub silent_shape : ℕ → List ℤ → Wish → ℕ → Shape
silent_shape n source w seed =
    if nat_eq (w.fill % 2 ^ w.blocks) 0
    then record { vector = replicate n (pos 0); mask = 0; seed = seed }
    else filled_shape n source (w.fill % 2 ^ w.blocks) w seed

unfoldable pub leaf_shape : ℕ → ℕ → ℕ → ℕ → List ℤ → Wish → ℕ → Shape
leaf_shape spread n k index source w seed =
    if nat_eq k 0 then silent_shape n source w seed else pulse_shape spread n k index w seed

-- one vector behind the other
unfoldable pub joined : ℕ → Shape → Shape → ℕ → Shape
joined blocks first second seed =
    record { vector = first.vector ++ second.vector; mask = bit_or first.mask (second.mask * 2 ^ (blocks / 2)); seed = seed }

-- the parts in the order in which they were coded: the noise's state goes from one to the other
unfoldable pub in_turn : Bool → ℕ → (ℕ → Shape) → (ℕ → Shape) → ℕ → Shape
in_turn second_first blocks first second seed =
    if second_first
    then joined blocks (first (second seed).seed) (second seed) (first (second seed).seed).seed
    else joined blocks (first seed) (second (first seed).seed) (second (first seed).seed).seed

-- a part of n items
unfoldable pub part_shape : ℕ → ℕ → Part → List ℤ → Wish → ℕ → Shape
part_shape spread n (Leaf k index) source w seed = leaf_shape spread n k index source w seed
part_shape spread n (Split cut first second) source w seed =
    in_turn cut.second_first w.blocks
    (part_shape spread (n / 2) first (take (n / 2) source) (first_wish cut.theta w))
    (part_shape spread (n / 2) second (drop (n / 2) source) (second_wish cut.theta w))
    seed

-- a leaf without pulses is among the parts
unfoldable pub has_silent : Part → Bool
has_silent (Leaf k index) = nat_eq k 0
has_silent (Split cut first second) = has_silent first || has_silent second
