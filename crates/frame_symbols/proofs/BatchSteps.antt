-- A slot more of which the part is inside.
use Rattle.std.proofs.Common.{ℕ, zero, suc, List, [], ◌∷◌, ◌++◌, arith}
use Rattle.frame_symbols.specs.declared.batch.FrameSlot.{FrameSlot}
use Rattle.frame_symbols.specs.Batches.{IsPart, PartsInside}

pub inside_more : (bytes : List ℕ) (slots : List FrameSlot) (slot : FrameSlot) → PartsInside bytes slots → IsPart bytes slot → PartsInside bytes (slots ++ slot ∷ [])
inside_more bytes [] slot all is zero d below = is
inside_more bytes [] slot all is (suc k) d below = absurd (omega (arith, below))
inside_more bytes (s ∷ slots) slot all is zero d below = all zero d (omega arith)
inside_more bytes (s ∷ slots) slot all is (suc k) d below = inside_more bytes slots slot (λ j e lt. all (suc j) e (omega (arith, lt))) is k d (omega (arith, below))
