-- The lengths of frames from a reservoir. Each frame may have `bytes` bytes, and of those that frames leave, up to `most`
-- are the credit of the frames behind them.
use Rattle.std.specs.Prelude.{ℕ, ◌+◌, ◌-◌, min, List, [], ◌∷◌}

-- the length of a frame with this credit that wishes for so many bytes; no frame has more than 1275 (RFC 6716, section 3.4)
unfoldable pub frame_length : ℕ → ℕ → ℕ → ℕ
frame_length bytes credit wish = min wish (min 1275 (bytes + credit))

-- the credit behind it
unfoldable pub credit_behind : ℕ → ℕ → ℕ → ℕ → ℕ
credit_behind bytes most credit wish = min most (credit + bytes - frame_length bytes credit wish)

-- the lengths of frames with these wishes, from this credit on
unfoldable pub lengths_from : ℕ → ℕ → ℕ → List ℕ → List ℕ
lengths_from bytes most credit [] = []
lengths_from bytes most credit (wish ∷ wishes) = frame_length bytes credit wish ∷ lengths_from bytes most (credit_behind bytes most credit wish) wishes

-- the credit behind them all
unfoldable pub credit_from : ℕ → ℕ → ℕ → List ℕ → ℕ
credit_from bytes most credit [] = credit
credit_from bytes most credit (wish ∷ wishes) = credit_from bytes most (credit_behind bytes most credit wish) wishes

-- the first frame has no credit
abbrev pub lengths_of : ℕ → ℕ → List ℕ → List ℕ
lengths_of bytes most wishes = lengths_from bytes most 0 wishes

abbrev pub credit_of : ℕ → ℕ → List ℕ → ℕ
credit_of bytes most wishes = credit_from bytes most 0 wishes
