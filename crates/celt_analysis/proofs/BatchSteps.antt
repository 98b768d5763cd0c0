-- A slot more of which the window is one of its kind.
use Rattle.std.proofs.Common.{ℕ, zero, suc, List, [], ◌∷◌, ◌++◌, arith}
use Rattle.celt_base.specs.declared.kind.Kind.{Kind}
use Rattle.celt_analysis.specs.declared.batch.WindowSlot.{WindowSlot}
use Rattle.celt_analysis.specs.Batches.{AreWindows, IsWindow}

pub windows_more : (kind : Kind) (slots : List WindowSlot) (slot : WindowSlot) → AreWindows kind slots → IsWindow kind slot → AreWindows kind (slots ++ slot ∷ [])
windows_more kind [] slot all is zero d below = is
windows_more kind [] slot all is (suc k) d below = absurd (omega (arith, below))
windows_more kind (s ∷ slots) slot all is zero d below = all zero d (omega arith)
windows_more kind (s ∷ slots) slot all is (suc k) d below = windows_more kind slots slot (λ j e lt. all (suc j) e (omega (arith, lt))) is k d (omega (arith, below))
