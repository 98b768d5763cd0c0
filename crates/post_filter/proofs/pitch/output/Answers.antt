use Rattle.std.proofs.Common.{◌≡◌, ◌^◌, rules}
use Rattle.std.specs.Prelude.{pos, neg_ℤ, ◌+ℤ◌, FitsSigned}
use Rattle.std.specs.Int.{w64, int_max, int_min}
use Rattle.std.proofs.lemmas.Int.{ints, to_z-of_z, fits_signed_from_abs}
use Rattle.std.proofs.Common.{arith}
use Rattle.post_filter.specs.Comb.{limited}
use Rattle.post_filter.proofs.pitch.output.Goals as goal

pub returns-clause-value : goal.returns-clause-value
unfolding limited
returns-clause-value c =
    let fx = c.ranges.x in
    let fa = c.ranges.added in
    let fs : FitsSigned w64 (c.args.x +ℤ c.args.added) = fits_signed_from_abs w64 (c.args.x +ℤ c.args.added) (omega (arith, ints, c.requires.value, c.requires.added)) in
    let fk : FitsSigned w64 c.clamp.result = search rules in
    let f : c.clamp.result ≡ int_max (neg_ℤ (pos (2 ^ 30))) (int_min (c.args.x +ℤ c.args.added) (pos (2 ^ 30))) = simp to_z-of_z at c.clamp.ensures.value in
    simp to_z-of_z f
