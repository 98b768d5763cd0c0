use Rattle.std.proofs.Common.{◌≡◌, ℕ, ◌*◌, ap, ◌∙◌}
use Rattle.std.specs.Prelude.{ℤ, pos, ◌+ℤ◌, ◌-ℤ◌, unsigned_abs}
use Rattle.std.proofs.lemmas.Int.{to_z-of_z}
use Rattle.fixed_math.specs.Root.{bit_length_of}
use Rattle.fixed_math.specs.Bitexact.{aligned, curve}
use Rattle.fixed_math.proofs.BitexactLemmas.{difference_steps, log2_difference, log2-tangent}
use Rattle.fixed_math.proofs.bitexact.bitexact_log2tan.Goals as goal

pub returns : goal.returns
returns c =
    let s : ℕ = unsigned_abs c.args.s in
    let d : ℕ = unsigned_abs c.args.c in
    let a : ℤ = c.log2_series.result in
    let b : ℤ = c.log2_series-2.result in
    let fs = c.ranges.s in
    let fc = c.ranges.c in
    let ea : a ≡ pos (bit_length_of s * 2048) +ℤ curve (pos (aligned s)) = simp to_z-of_z at c.log2_series.ensures.value in
    let eb : b ≡ pos (bit_length_of d * 2048) +ℤ curve (pos (aligned d)) = simp to_z-of_z at c.log2_series-2.ensures.value in
    let t = difference_steps a b c.log2_series.ensures.size c.log2_series-2.ensures.size in
    let fa = t.a_fits in
    let fb = t.b_fits in
    let fd = t.difference in
    let fr = t.result in
    let e = ap (λ z. z -ℤ b) ea ∙ ap (λ z. (pos (bit_length_of s * 2048) +ℤ curve (pos (aligned s))) -ℤ z) eb ∙ log2_difference (bit_length_of s) (bit_length_of d) (curve (pos (aligned s))) (curve (pos (aligned d))) ∙ log2-tangent s d in
    simp to_z-of_z e
