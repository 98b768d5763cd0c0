use Rattle.std.proofs.Common.{◌≡◌, refl, ℕ, ◌+◌, ◌-◌, ◌*◌, ◌^◌, ap, ◌∙◌, arith, List, take, drop}
use Rattle.std.specs.Prelude.{ℤ, if◌then◌else◌}
use Rattle.std.proofs.lemmas.Grind.{pow_more}
use Rattle.spread_fold.specs.Masks.{has_pulse, block_bits}
use Rattle.spread_fold.proofs.MaskLemmas.{bits_more}
use Rattle.spread_fold.proofs.masks.bits_of.Goals as goal

pub loop-k-preserved : goal.loop-k-preserved
loop-k-preserved c =
    let n : ℕ = c.args.n in
    let k : ℕ = c.loop-k.k in
    let y : List ℤ = c.args.y.now in
    let w : k * n + n - k * n ≡ n = omega arith in
    let e : c.is_coded.result ≡ has_pulse (take n (drop (k * n) y)) = c.is_coded.ensures ∙ ap (λ m. has_pulse (take m (drop (k * n) y))) w in
    record {
      bits = bits_more n k c.loop-k.mask c.bit-mask.result y c.loop-k.invariant.bits (c.bit-mask.ensures.value ∙ ap (λ b. if b then 2 ^ k else 0) e);
      small = omega (arith, pow_more 2 k);
    }

pub loop-k-init : goal.loop-k-init
unfolding block_bits
loop-k-init c = record { bits = refl; small = omega arith }
