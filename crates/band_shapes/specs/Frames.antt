-- The shapes of a frame: its bands one after the other, from its symbols, the noise's state and the setting `invert`
-- (RFC 6716, sections 4.3.4.3 to 4.3.4.5).
use Rattle.std.specs.Prelude.{◌≡◌, ℕ, zero, suc, ◌+◌, ◌-◌, ◌*◌, ◌^◌, ◌<◌, ◌≤◌, nat_eq, nat_lt, nat_le, ℤ, pos, ◌+ℤ◌, int_lt, Bool, true, ◌&&◌, ◌||◌, not, if◌then◌else◌, List, [], ◌∷◌, ◌++◌, length, take, drop, slice_index, slice_index_or, slice_set, replicate, unsigned_abs, All}
use Rattle.std.specs.Int.{int_shr}
use Rattle.std.specs.Int.RustNames.{bit_or}
use Rattle.celt_base.specs.declared.kind.Kind.{Kind}
use Rattle.celt_tables.specs.Tables.{edge_of, width_of}
use Rattle.band_plan.specs.declared.symbols.BandSettings.{BandSettings}
use Rattle.band_plan.specs.declared.symbols.BandSymbols.{BandSymbols}
use Rattle.band_plan.specs.declared.symbols.Node.{Node}
use Rattle.band_plan.specs.Plans.{band_of, frame_blocks, is_two}
use Rattle.band_shapes.specs.declared.bands.Lines.{Lines}
use Rattle.band_shapes.specs.declared.bands.Walked.{Walked}
use Rattle.band_shapes.specs.declared.node.Fills.{Fills}
use Rattle.band_shapes.specs.declared.node.Layout.{Layout}
use Rattle.band_shapes.specs.declared.node.MadePair.{MadePair}
use Rattle.band_shapes.specs.declared.plans.Plan.{Plan}
use Rattle.band_shapes.specs.declared.plans.Span.{Span}
use Rattle.band_shapes.specs.Bands.{Pair, pair_shape, form_in}
use Rattle.band_shapes.specs.Channels.{change_of, copied, IsChange}

-- what the symbols of a frame's bands say to its shapes: the settings, the band from which intensity stereo begins, whether
-- the bands below that one are dual, what each band was given, and the nodes of all bands in coding order
pub record Symbols : Type 0 where
  pub settings : BandSettings
  pub intensity : ℕ
  pub dual : Bool
  pub amounts : List ℤ
  pub nodes : List Node

abbrev pub symbols_of : BandSymbols → Symbols
symbols_of s = record { settings = s.settings; intensity = s.intensity; dual = s.dual; amounts = s.amounts; nodes = s.nodes.items }

-- a channel so far: its vectors and its folded copies one behind the other, and the masks of its bands
pub record Line : Type 0 where
  pub vector : List ℤ
  pub norm : List ℤ
  pub masks : List ℕ

-- what was made of the bands so far, and what goes on
pub record Sofar : Type 0 where
  pub left : Line
  pub right : Line
  pub seed : ℕ
  pub low : ℕ
  pub update : Bool
  pub rest : List Node

-- where a band begins, and how many items it has
unfoldable pub start_of : Kind → ℕ → ℕ
start_of kind i = edge_of i * 2 ^ kind.lm

unfoldable pub count_of : Kind → ℕ → ℕ
count_of kind i = width_of i * 2 ^ kind.lm

abbrev pub tf_at : Symbols → ℕ → ℤ
tf_at s i = slice_index_or s.settings.tf i (pos 0)

-- Each channel keeps copies of its own in dual bands. In others the right ones are never read, and zeros stand for them.
unfoldable pub is_own : Symbols → ℕ → Bool
is_own s i = s.dual && nat_lt i s.intensity

-- what the channels of a band share
unfoldable pub layout_of : Kind → Symbols → ℕ → Layout
layout_of kind s i = record {
  count = count_of kind i;
  level = kind.lm + 1;
  blocks = frame_blocks kind s.settings.transient;
  spread = s.settings.spread;
  change = change_of (count_of kind i) (frame_blocks kind s.settings.transient) (tf_at s i);
  two = is_two (band_of kind s.settings s.intensity i) s.dual kind.channels;
  channels = kind.channels;
  own = is_own s i;
}

-- the "or" of k masks from band f on
unfoldable pub masks_or : List ℕ → ℕ → ℕ → ℕ
masks_or masks f zero = 0
masks_or masks f (suc k) = bit_or (masks_or masks f k) (slice_index masks (f + k))

-- the greatest of the first k numbers that passes, or 0
unfoldable pub last_that : (ℕ → Bool) → ℕ → ℕ
last_that test zero = 0
last_that test (suc k) = if test k then k else last_that test k

-- the least of the k numbers from g on that passes, or g + k
unfoldable pub first_that : (ℕ → Bool) → ℕ → ℕ → ℕ
first_that test zero g = g
first_that test (suc k) g = if test g then g else first_that test k (suc g)

-- a band begins at or before a place; it begins at or behind it
abbrev pub starts_by : Kind → ℕ → ℕ → Bool
starts_by kind place k = nat_le (start_of kind k) place

abbrev pub starts_from : Kind → ℕ → ℕ → Bool
starts_from kind place k = nat_le place (start_of kind k)

-- the band from which sources are taken
unfoldable pub low_of : Kind → ℕ → ℕ → Bool → ℕ
low_of kind i low update = if nat_le (count_of kind i) (start_of kind i) && (update || nat_eq low 0) then i else low

unfoldable pub has_source : Layout → ℤ → ℕ → Bool
has_source e tf low = nat_lt 0 low && (not (nat_eq e.spread 3) || (nat_lt 1 e.blocks || int_lt tf (pos 0)))

unfoldable pub plan_of : Kind → Layout → ℤ → ℕ → ℕ → Plan
plan_of kind e tf i low = record {
  span = record { start = start_of kind i; count = e.count; has = has_source e tf low; from = start_of kind low - e.count };
  low = low;
}

-- the source of a band in one channel: nothing, or a run of its copies
unfoldable pub source_at : Span → List ℤ → List ℤ
source_at p norm = if p.has then take p.count (drop p.from norm) else []

-- the masks of the bands that a source touches, as one
unfoldable pub fill_at : Kind → Plan → List ℕ → ℕ
fill_at kind p masks =
    let f = last_that (starts_by kind p.span.from) p.low in
    masks_or masks f (first_that (starts_from kind (p.span.from + p.span.count)) (21 - p.low) p.low - f)

unfoldable pub fill_of : Kind → ℕ → Plan → List ℕ → ℕ
fill_of kind blocks p masks = if p.span.has then fill_at kind p masks else 2 ^ blocks - 1

abbrev pub fills_of : Kind → ℕ → Plan → List ℕ → List ℕ → Fills
fills_of kind blocks p left right = record { left = fill_of kind blocks p left; right = fill_of kind blocks p right }

-- the mean of two lists, item by item
unfoldable pub means : List ℤ → List ℤ → List ℤ
means [] ys = []
means (x ∷ xs) [] = []
means (x ∷ xs) (y ∷ ys) = int_shr (x +ℤ y) 1 ∷ means xs ys

-- where dual ends, the left copies become the mean of both
unfoldable pub joins : Symbols → ℕ → Bool
joins s i = s.dual && nat_eq i s.intensity

unfoldable pub norm_joined : Bool → List ℤ → List ℤ → List ℤ
norm_joined now left right = if now then means left right else left

unfoldable pub with_norm : List ℤ → Line → Line
with_norm norm l = record { vector = l.vector; norm = norm; masks = l.masks }

unfoldable pub joined : Bool → Sofar → Sofar
joined now f = record { left = with_norm (norm_joined now f.left.norm f.right.norm) f.left; right = f.right; seed = f.seed; low = f.low; update = f.update; rest = f.rest }

unfoldable pub right_copy : Bool → ℕ → List ℤ → List ℤ
right_copy own n xs = if own then copied xs else replicate n (pos 0)

-- a channel with one band more
unfoldable pub longer : ℕ → Line → List ℤ → List ℤ → ℕ → Line
longer i l vector copy mask = record { vector = l.vector ++ vector; norm = l.norm ++ copy; masks = slice_set l.masks i mask }

-- the band with more than a bit for an item is one from which a source may begin anew
unfoldable pub is_rich : Symbols → ℕ → ℕ → Bool
is_rich s i n = int_lt (pos (8 * n)) (slice_index_or s.amounts i (pos 0))

unfoldable pub band_made : Symbols → ℕ → Layout → Plan → Pair → List Node → Sofar → Sofar
band_made s i e p b rest f = record {
  left = longer i f.left b.left (copied b.copy) b.left_mask;
  right = longer i f.right b.right (right_copy e.own e.count b.right) b.right_mask;
  seed = b.seed;
  low = p.low;
  update = is_rich s i e.count;
  rest = rest;
}

unfoldable pub band_by : Kind → Symbols → Bool → ℕ → Layout → Plan → Sofar → Sofar
band_by kind s invert i e p f =
    let r = form_in e f.rest in
    let b = pair_shape e invert (source_at p.span f.left.norm) (source_at p.span f.right.norm) (fills_of kind e.blocks p f.left.masks f.right.masks) r.form f.seed in
    band_made s i e p b r.rest f

-- one band more
unfoldable pub band_more : Kind → Symbols → Bool → ℕ → Sofar → Sofar
band_more kind s invert i f =
    let e = layout_of kind s i in
    band_by kind s invert i e (plan_of kind e (tf_at s i) i (low_of kind i f.low f.update)) (joined (joins s i) f)

abbrev pub empty_line : Line
empty_line = record { vector = []; norm = []; masks = replicate 21 0 }

-- the bands below i
unfoldable pub bands_of : Kind → Symbols → Bool → ℕ → ℕ → Sofar
bands_of kind s invert seed zero = record { left = empty_line; right = empty_line; seed = seed; low = 0; update = true; rest = s.nodes }
bands_of kind s invert seed (suc i) = band_more kind s invert i (bands_of kind s invert seed i)

-- The shapes of a frame: a vector of 100 * 2^lm items and the masks of each channel, and the noise's state behind them.
pub record Shapes : Type 0 where
  pub left : List ℤ
  pub right : List ℤ
  pub left_masks : List ℕ
  pub right_masks : List ℕ
  pub seed : ℕ

-- 0 in the bands from end on
unfoldable pub padded : ℕ → List ℤ → List ℤ
padded n xs = xs ++ replicate (n - length xs) (pos 0)

unfoldable pub shapes_of : Kind → Symbols → Bool → ℕ → Shapes
shapes_of kind s invert seed =
    let f = bands_of kind s invert seed kind.end in
    record {
      left = padded (100 * 2 ^ kind.lm) f.left.vector;
      right = padded (100 * 2 ^ kind.lm) f.right.vector;
      left_masks = f.left.masks;
      right_masks = f.right.masks;
      seed = f.seed;
    }

-- what the buffers and the walk hold before band i
abbrev pub line_of : ℕ → List ℤ → List ℤ → List ℕ → Line
line_of n vector norm masks = record { vector = take n vector; norm = take n norm; masks = masks }

unfoldable pub sofar_of : Kind → Symbols → ℕ → Lines → Walked → Sofar
sofar_of kind s i l w = record {
  left = line_of (start_of kind i) l.left l.left_norm w.left;
  right = line_of (start_of kind i) l.right l.right_norm w.right;
  seed = w.seed;
  low = w.low;
  update = w.update;
  rest = drop w.at s.nodes;
}

-- the sizes that go on from band to band
pub record IsSound (kind : Kind) (s : Symbols) (i : ℕ) (l : Lines) (w : Walked) : Type 0 where
  pub left : All (λ v. unsigned_abs v < 2 ^ 20) (take (start_of kind i) l.left)
  pub right : All (λ v. unsigned_abs v < 2 ^ 20) (take (start_of kind i) l.right)
  pub left_norm : All (λ v. unsigned_abs v ≤ 2 ^ 19) (take (start_of kind i) l.left_norm)
  pub right_norm : All (λ v. unsigned_abs v ≤ 2 ^ 19) (take (start_of kind i) l.right_norm)
  pub left_masks : All (λ m. m < 2 ^ frame_blocks kind s.settings.transient) w.left
  pub right_masks : All (λ m. m < 2 ^ frame_blocks kind s.settings.transient) w.right
  pub low : w.low ≤ i
  pub at : w.at ≤ length s.nodes

-- what a band in the buffers rests on
pub record CanBand (e : Layout) (p : Span) (fills : Fills) (l : Lines) : Type 0 where
  pub count_is : p.count ≡ e.count
  pub count : e.count ≤ 176
  pub within : p.start + p.count ≤ 800
  pub source : p.has ≡ true → p.from + p.count ≤ p.start
  pub left_norm : All (λ v. unsigned_abs v ≤ 2 ^ 19) (take p.start l.left_norm)
  pub right_norm : All (λ v. unsigned_abs v ≤ 2 ^ 19) (take p.start l.right_norm)
  pub change : IsChange e.count e.blocks e.change
  pub spread : e.spread ≤ 3
  pub level : e.level ≤ 4
  pub left_fill : fills.left < 2 ^ e.blocks
  pub right_fill : fills.right < 2 ^ e.blocks
  pub own : e.own ≡ true → e.two ≡ true

-- a band's vectors and copies stand behind those of the bands before
pub record IsBandMade (e : Layout) (b : Pair) (p : Span) (old new : Lines) (m : MadePair) : Type 0 where
  pub left : take (p.start + p.count) new.left ≡ take p.start old.left ++ b.left
  pub right : take (p.start + p.count) new.right ≡ take p.start old.right ++ b.right
  pub left_norm : take (p.start + p.count) new.left_norm ≡ take p.start old.left_norm ++ copied b.copy
  pub right_norm : take (p.start + p.count) new.right_norm ≡ take p.start old.right_norm ++ right_copy e.own e.count b.right
  pub left_mask : m.left ≡ b.left_mask
  pub right_mask : m.right ≡ b.right_mask
  pub seed : m.seed ≡ b.seed
  pub left_size : All (λ v. unsigned_abs v < 2 ^ 20) b.left
  pub right_size : All (λ v. unsigned_abs v < 2 ^ 20) b.right
  pub left_copy : All (λ v. unsigned_abs v ≤ 2 ^ 19) (copied b.copy)
  pub right_copied : All (λ v. unsigned_abs v ≤ 2 ^ 19) (right_copy e.own e.count b.right)
  pub left_small : m.left < 2 ^ e.blocks
  pub right_small : m.right < 2 ^ e.blocks

-- what the settings of a band allow
pub record CanShape (kind : Kind) (s : Symbols) (i : ℕ) : Type 0 where
  pub spread : s.settings.spread ≤ 3
  pub tf : unsigned_abs (tf_at s i) ≤ 3
  pub change : IsChange (count_of kind i) (frame_blocks kind s.settings.transient) (change_of (count_of kind i) (frame_blocks kind s.settings.transient) (tf_at s i))
