-- The shape of a channel of a band (RFC 6716, 4.3.4.5): what changes before its parts are made, and after.
use Rattle.std.specs.Prelude.{◌≡◌, ◌⊎◌, ◌≤◌, ◌<◌, unsigned_abs, All, ℕ, zero, suc, ◌+◌, ◌*◌, ◌/◌, ◌%◌, ◌^◌, nat_eq, nat_lt, int_lt, ℤ, pos, if◌then◌else◌, List, length, slice_index, map}
use Rattle.std.specs.Int.RustNames.{bit_or}
use Rattle.fixed_math.specs.Root.{root}
use Rattle.fixed_math.specs.Bitexact.{product}
use Rattle.tf_change.specs.Haar.{haar_of}
use Rattle.tf_change.specs.Order.{ordered, unordered}
use Rattle.band_shapes.specs.declared.node.Wish.{Wish}
use Rattle.band_shapes.specs.declared.change.Change.{Change}
use Rattle.band_shapes.specs.declared.change.TheConstants.{PAIRED, TWICE}
use Rattle.band_shapes.specs.Tree.{Part, IsBlocks}
use Rattle.band_shapes.specs.Parts.{Shape, part_shape}

-- a change above 0, and one below
unfoldable pub raised : ℤ → ℕ
raised tf = if int_lt (pos 0) tf then unsigned_abs tf else 0

unfoldable pub lowered : ℤ → ℕ
lowered tf = if int_lt tf (pos 0) then unsigned_abs tf else 0

-- how often u can be halved, at most so many times
unfoldable pub halvings : ℕ → ℕ → ℕ
halvings zero u = 0
halvings (suc most) u = if nat_eq (u % 2) 0 then suc (halvings most (u / 2)) else 0

-- Haar steps on runs of s, 2s, 4s .. items
unfoldable pub haar_up : ℕ → ℕ → List ℤ → List ℤ
haar_up s zero xs = xs
haar_up s (suc k) xs = haar_of (s * 2 ^ k) (haar_up s k xs)

-- and on .. 4s, 2s, s
unfoldable pub haar_down : ℕ → ℕ → List ℤ → List ℤ
haar_down s zero xs = xs
haar_down s (suc k) xs = haar_down s k (haar_of (s * 2 ^ k) xs)

-- a bit for each two of eight blocks, so many times
unfoldable pub fill_paired : ℕ → ℕ → ℕ
fill_paired zero fill = fill
fill_paired (suc k) fill = let f = fill_paired k fill in bit_or (slice_index PAIRED (f % 16)) (slice_index PAIRED (f / 16 % 16) * 4)

-- each of s, 2s, .. blocks twice
unfoldable pub fill_doubled : ℕ → ℕ → ℕ → ℕ
fill_doubled s zero fill = fill
fill_doubled s (suc k) fill = let f = fill_doubled s k fill in bit_or f (f * 2 ^ (s * 2 ^ k))

-- the mask of .. 4s, 2s, s blocks: one of two
unfoldable pub mask_folded : ℕ → ℕ → ℕ → ℕ
mask_folded s zero m = m
mask_folded s (suc k) m = mask_folded s k (bit_or m (m / 2 ^ (s * 2 ^ k)))

-- each bit of a mask of four twice, so many times
unfoldable pub mask_widened : ℕ → ℕ → ℕ
mask_widened zero m = m
mask_widened (suc k) m = slice_index TWICE (mask_widened k m % 16)

abbrev pub change_by : ℕ → ℕ → ℕ → Change
change_by b up down = record { up = up; down = down; stride = b * 2 ^ down; blocks = b * 2 ^ down / 2 ^ up }

unfoldable pub change_of : ℕ → ℕ → ℤ → Change
change_of n b tf = change_by b (raised tf) (halvings (lowered tf) (n / b))

-- a list in the order of the parts, and back
unfoldable pub turned_in : ℕ → Change → List ℤ → List ℤ
turned_in b c xs = if nat_lt 1 c.blocks then ordered (length xs / c.stride) c.stride (nat_eq b 1) xs else xs

unfoldable pub turned_back : ℕ → Change → List ℤ → List ℤ
turned_back b c xs = if nat_lt 1 c.blocks then unordered (length xs / c.stride) c.stride (nat_eq b 1) xs else xs

unfoldable pub source_in : ℕ → Change → List ℤ → List ℤ
source_in b c xs = turned_in b c (haar_up b c.down (haar_up 1 c.up xs))

unfoldable pub fill_in : ℕ → Change → ℕ → ℕ
fill_in b c fill = fill_doubled b c.down (fill_paired c.up fill)

unfoldable pub vector_back : ℕ → Change → List ℤ → List ℤ
vector_back b c xs = haar_up 1 c.up (haar_down b c.down (turned_back b c xs))

unfoldable pub mask_back : ℕ → Change → ℕ → ℕ
mask_back b c m = mask_widened c.up (mask_folded b c.down m) % 2 ^ b

abbrev pub changed_wish : ℕ → Change → Wish → Wish
changed_wish b c w = record { fill = fill_in b c w.fill; gain = w.gain; blocks = c.blocks }

-- a shape whose vector is turned back
unfoldable pub shape_back : ℕ → Change → Shape → Shape
shape_back b c s = record { vector = turned_back b c s.vector; mask = s.mask; seed = s.seed }

unfoldable pub after_change : ℕ → Change → Shape → Shape
after_change b c s = record { vector = vector_back b c s.vector; mask = mask_back b c s.mask; seed = s.seed }

unfoldable pub channel_by : ℕ → ℕ → Part → List ℤ → Wish → Change → ℕ → Shape
channel_by spread n part source w c seed =
    after_change w.blocks c (part_shape spread n part (source_in w.blocks c source) (changed_wish w.blocks c w) seed)

-- n items with this change; the blocks are the band's
unfoldable pub channel_shape : ℕ → ℤ → ℕ → Part → List ℤ → Wish → ℕ → Shape
channel_shape spread tf n part source w seed = channel_by spread n part source w (change_of n w.blocks tf) seed

-- the copy that later bands take
unfoldable pub copied : List ℤ → List ℤ
copied xs = map (product (pos (root (length xs * 2 ^ 22)))) xs

-- how a step of each change grows the sizes
unfoldable pub grown : ℕ → ℕ → ℕ
grown zero m = m
grown (suc k) m = grown k m + grown k m / 2 + 1

-- n items of a band of b blocks can take this change
pub record IsChange (n b : ℕ) (c : Change) : Type 0 where
  pub band : IsBlocks b
  pub least : b ≤ 8
  pub stride : c.stride ≡ b * 2 ^ c.down
  pub strides : IsBlocks c.stride
  pub blocks : IsBlocks c.blocks
  pub joined : c.blocks * 2 ^ c.up ≡ c.stride
  pub up : c.up ≤ 3
  pub down : c.down ≤ 3
  pub one : (c.up ≡ 0) ⊎ (c.down ≡ 0)
  pub upper : n % 2 ^ c.up ≡ 0
  pub lower : (n / b) % 2 ^ c.down ≡ 0
  pub runs : n % b ≡ 0
  pub whole : n % c.stride ≡ 0
  pub parts : n % c.blocks ≡ 0

-- what a channel's vector, mask and state have to be
pub record IsChannel (blocks : ℕ) (shape : Shape) (xs : List ℤ) (m s : ℕ) : Type 0 where
  pub vector : xs ≡ shape.vector
  pub mask : m ≡ shape.mask
  pub seed : s ≡ shape.seed
  pub size : All (λ v. unsigned_abs v < 2 ^ 19) xs
  pub small : m < 2 ^ blocks
