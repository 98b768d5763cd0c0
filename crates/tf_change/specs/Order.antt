-- Coefficients of short blocks, interleaved and block by block (RFC 6716, 4.3.4.5).
use Rattle.std.specs.Prelude.{◌≡◌, ◌⊎◌, ℕ, suc, ◌+◌, ◌-◌, ◌*◌, ◌/◌, ◌%◌, nat_eq, Bool, if◌then◌else◌, ℤ, List, [], ◌∷◌, length, drop, slice_index}
use Rattle.fixed_math.specs.Items.{item, listed}

-- the order of Hadamard sequences for 2, 4, 8 and 16 blocks: the row for s blocks begins at entry s - 2 and says for each block to which place it goes
unfoldable pub hadamard_rows : List ℕ
hadamard_rows =
    1 ∷ 0 ∷ 3 ∷ 0 ∷ 2 ∷ 1 ∷ 7 ∷ 0 ∷ 4 ∷ 3 ∷ 6 ∷ 1 ∷ 5 ∷ 2 ∷ 15 ∷ 0 ∷ 8 ∷ 7 ∷ 12 ∷ 3 ∷ 11 ∷ 4 ∷ 14 ∷ 1 ∷ 9 ∷ 6 ∷ 13 ∷ 2 ∷ 10 ∷ 5 ∷ []

-- there is a row for s blocks
abbrev pub HasRow : ℕ → Type 0
HasRow s = (s ≡ 2) ⊎ ((s ≡ 4) ⊎ ((s ≡ 8) ⊎ (s ≡ 16)))

-- the first place of the list that holds k
unfoldable pub index_of : ℕ → List ℕ → ℕ
index_of k [] = 0
index_of k (x ∷ xs) = if nat_eq x k then 0 else suc (index_of k xs)

-- the place to which block i of s goes, and the block that goes to place k
unfoldable pub place_of : Bool → ℕ → ℕ → ℕ
place_of hadamard s i = if hadamard then slice_index hadamard_rows (s - 2 + i) else i

unfoldable pub block_at : Bool → ℕ → ℕ → ℕ
block_at hadamard s k = if hadamard then index_of k (drop (s - 2) hadamard_rows) else k

-- block by block, n to a block: place p is item p % n of the block that goes to place p / n
unfoldable pub ordered : ℕ → ℕ → Bool → List ℤ → List ℤ
ordered n s hadamard xs = listed (length xs) (λ p. item xs (p % n * s + block_at hadamard s (p / n)))

-- interleaved: place p is item p / s of block p % s
unfoldable pub unordered : ℕ → ℕ → Bool → List ℤ → List ℤ
unordered n s hadamard xs = listed (length xs) (λ p. item xs (place_of hadamard s (p % s) * n + p / s))
