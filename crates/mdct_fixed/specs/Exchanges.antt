-- Places that are exchanged one after the other: how the code's tables make the order by reversed digits. No public
-- contract cites this.
use Rattle.std.specs.Prelude.{◌≡◌, ◌≢◌, ℕ, zero, suc, ◌-◌, List, [], ◌∷◌, get_or, slice_index, slice_set}
use Rattle.std.specs.List.{range_with_len}
use Rattle.mdct_fixed.specs.declared.complex.Complex.{Complex}

-- two items are exchanged, and all others are as they were
pub record IsExchanged (a b : ℕ) (old new : ℕ → Complex) : Type 0 where
  pub first : new a ≡ old b
  pub second : new b ≡ old a
  pub others : (k : ℕ) → k ≢ a → k ≢ b → new k ≡ old k

-- the first item and the one d places on exchanged
unfoldable pub traded : ℕ → List ℕ → List ℕ
traded d [] = []
traded zero (x ∷ xs) = x ∷ xs
traded (suc d) (x ∷ xs) = get_or xs d 0 ∷ slice_set xs d x

unfoldable pub behind : List ℕ → List ℕ
behind [] = []
behind (x ∷ xs) = xs

-- Where the items come from that stand at place k and behind it, after the exchanges of the places before k; and where the
-- item comes from that its own exchange brings to place k.
unfoldable pub sources : List ℕ → ℕ → ℕ → List ℕ
sources partners n zero = range_with_len 0 n
sources partners n (suc k) = behind (traded (slice_index partners k - k) (sources partners n k))

unfoldable pub emitted : List ℕ → ℕ → ℕ → ℕ
emitted partners n k = get_or (traded (slice_index partners k - k) (sources partners n k)) 0 0
