-- Samples of 16 bits as bytes: two's complement, the lower byte first.
use Rattle.std.specs.Prelude.{ℕ, ℤ, List, [], ◌∷◌, ◌++◌}
use Rattle.std.specs.Int.{w16, cast_signed, cast_unsigned, to_le_bytes, from_le_bytes}

-- the samples of some bytes; a last byte without a second one is none
unfoldable pub samples_of : List ℕ → List ℤ
samples_of [] = []
samples_of (low ∷ []) = []
samples_of (low ∷ high ∷ bytes) = cast_signed w16 (from_le_bytes w16 (low ∷ high ∷ [])) ∷ samples_of bytes

-- the bytes of some samples
unfoldable pub bytes_of : List ℤ → List ℕ
bytes_of [] = []
bytes_of (sample ∷ samples) = to_le_bytes w16 (cast_unsigned w16 sample) ++ bytes_of samples
