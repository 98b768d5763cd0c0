-- Transients: frames that are transformed in short blocks (RFC 6716, 4.3.1).
use Rattle.std.specs.Prelude.{ℕ, zero, suc, ◌+◌, ◌*◌, ◌^◌, nat_lt, Bool, false, ◌||◌, ◌&&◌, if◌then◌else◌, ℤ, List}
use Rattle.std.specs.Int.{int_shr}
use Rattle.fixed_math.specs.Items.{item}
use Rattle.celt_analysis.specs.Sums.{energy}

-- the energy of a block of 120 values, in whole samples
unfoldable pub block_energy : List ℤ → ℕ → ℕ
block_energy vs b = energy (λ t. int_shr (item vs t) 12) (120 * b) 120

-- the same of both channels, or of the one
unfoldable pub energies_in : Bool → List ℤ → List ℤ → ℕ → ℕ
energies_in stereo left right b = if stereo then block_energy left b + block_energy right b else block_energy left b

-- the energy rises sixteenfold, and by more than 8 in each sample, from block b to the next
abbrev pub rises : (ℕ → ℕ) → ℕ → Bool
rises e b = nat_lt (16 * e b + 7680) (e (suc b))

-- it does so behind one of the first n blocks
unfoldable pub rises_within : (ℕ → ℕ) → ℕ → Bool
rises_within e zero = false
rises_within e (suc n) = rises_within e n || rises e n

-- a frame of 2^lm blocks, with the block before it: one block alone is no transient
unfoldable pub is_transient : ℕ → (ℕ → ℕ) → Bool
is_transient lm e = nat_lt 0 lm && rises_within e (2 ^ lm)
