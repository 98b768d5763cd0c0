-- A frame's values from its spectrum (RFC 6716, 4.3.7): one transform, or in a transient one a block, and the overlap.
use Rattle.std.specs.Prelude.{◌≡◌, ◌⊎◌, ◌<◌, ◌≤◌, ℕ, zero, suc, ◌+◌, ◌-◌, ◌*◌, ◌^◌, nat_lt, nat_le, Bool, ◌&&◌, if◌then◌else◌, ℤ, pos, ◌+ℤ◌, unsigned_abs, List, length}
use Rattle.celt_base.specs.declared.kind.Kind.{Kind}
use Rattle.fixed_math.specs.Items.{item, listed}
use Rattle.mdct_fixed.specs.Mdct.{inverse_value}

-- how many blocks of 120 samples a frame has
abbrev pub blocks_of : Kind → ℕ
blocks_of kind = 2 ^ kind.lm

-- block b of m takes the items j*m + b
abbrev pub block : ℕ → List ℤ → ℕ → List ℤ
block m xs b = listed 120 (λ j. item xs (j * m + b))

-- its 240 values stand from place 120 b on
unfoldable pub block_value : ℕ → List ℤ → ℕ → ℕ → ℤ
block_value m xs b t = if nat_le (120 * b) t && nat_lt t (120 * b + 240) then inverse_value 120 (item (block m xs b)) (t - 120 * b) else pos 0

-- the values of the first n blocks added
unfoldable pub blocks_value : ℕ → List ℤ → ℕ → ℕ → ℤ
blocks_value m xs zero t = pos 0
blocks_value m xs (suc n) t = blocks_value m xs n t +ℤ block_value m xs n t

-- value t of the 120 m + 120 of a frame of m blocks
unfoldable pub frame_value : ℕ → Bool → List ℤ → ℕ → ℤ
frame_value m transient xs t = if transient then blocks_value m xs m t else inverse_value (120 * m) (item xs) t

-- with the overlap that the frame before left, which has 120 values
unfoldable pub overlapped : ℕ → Bool → List ℤ → List ℤ → ℕ → ℤ
overlapped m transient overlap xs t = item overlap t +ℤ frame_value m transient xs t

-- what goes on, and the new overlap
abbrev pub values_of : ℕ → Bool → List ℤ → List ℤ → List ℤ
values_of m transient overlap xs = listed (120 * m) (overlapped m transient overlap xs)

abbrev pub overlap_of : ℕ → Bool → List ℤ → List ℤ → List ℤ
overlap_of m transient overlap xs = listed 120 (λ t. overlapped m transient overlap xs (120 * m + t))

-- the overlap in a buffer: the 120 values behind 1024
abbrev pub overlap_in : List ℤ → List ℤ
overlap_in buf = listed 120 (λ t. item buf (1024 + t))

-- the frame's values stand behind 1024 outputs, with the next overlap behind them
pub record IsOverlapped (m : ℕ) (transient : Bool) (xs old new : List ℤ) : Type 0 where
  pub count : length new ≡ length old
  pub here : (t : ℕ) → t < 120 * m + 120 → item new (1024 + t) ≡ overlapped m transient (overlap_in old) xs t
  pub before : (p : ℕ) → p < 1024 → item new p ≡ item old p
  pub sizes : (t : ℕ) → t < 120 * m → unsigned_abs (item new (1024 + t)) < 2 ^ 47
  pub overlap : (t : ℕ) → 120 * m ≤ t → t < 120 * m + 120 → unsigned_abs (item new (1024 + t)) < 2 ^ 46

-- values from place at on: the first 120 are added, and the others put
pub record IsLaid (xs : List ℤ) (at n : ℕ) (old new : List ℤ) : Type 0 where
  pub count : length new ≡ length old
  pub here : (t : ℕ) → t < n → item new (at + t) ≡ (if nat_lt t 120 then item old (at + t) +ℤ item xs t else item xs t)
  pub others : (p : ℕ) → (p < at) ⊎ (at + n ≤ p) → item new p ≡ item old p

-- the first n blocks of a transient
pub record AreLaid (m : ℕ) (xs old new : List ℤ) (n : ℕ) : Type 0 where
  pub count : length new ≡ length old
  pub here : (t : ℕ) → t < 120 * n + 120 → item new (1024 + t) ≡ item (overlap_in old) t +ℤ blocks_value m xs n t
  pub before : (p : ℕ) → p < 1024 → item new p ≡ item old p
  pub sizes : (t : ℕ) → t < 120 * n → unsigned_abs (item new (1024 + t)) < 2 ^ 47
  pub last : (t : ℕ) → 120 * n ≤ t → t < 120 * n + 120 → unsigned_abs (item new (1024 + t)) < 2 ^ 46
