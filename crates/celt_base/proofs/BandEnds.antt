-- The number of bands of a kind of frame.
use Rattle.std.proofs.Common.{ℕ, ◌≤◌, IsTrue, arith}
use Rattle.std.proofs.lemmas.Bool.Decides.{nat_tests}
use Rattle.celt_base.specs.declared.kind.Kind.{Kind}
use Rattle.celt_base.specs.Ends.{is_band_end}

pub band_end_most : (n : ℕ) → IsTrue (is_band_end n) → n ≤ 21
band_end_most n is = grind (arith, nat_tests)

-- a kind has at most 21 bands
pub end_most : (kind : Kind) → kind.end ≤ 21
end_most kind = band_end_most kind.end kind.ended
