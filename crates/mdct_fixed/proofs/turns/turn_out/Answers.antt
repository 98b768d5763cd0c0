use Rattle.std.proofs.Common.{◌≡◌, ℕ, ◌*◌, ◌∙◌, ap, sym, refl, arith, rules, length}
use Rattle.std.specs.Prelude.{pos, ◌-ℤ◌, FitsSigned}
use Rattle.std.specs.Int.{w64}
use Rattle.std.proofs.lemmas.Int.{to_z-of_z, fits_signed_from_abs, ints}
use Rattle.mdct_fixed.specs.Numbers.{at, turned}
use Rattle.mdct_fixed.specs.Mdct.{turn_angle}
use Rattle.mdct_fixed.proofs.MdctLemmas.{out_next, negated}
use Rattle.mdct_fixed.proofs.RowLemmas.{turned_none}
use Rattle.mdct_fixed.proofs.turns.turn_out.Goals as goal

pub loop-k-preserved : goal.loop-k-preserved
loop-k-preserved c =
    let h : ℕ = length c.args.re.now in
    let k : ℕ = c.loop-k.k in
    let a : ℕ = turn_angle (2 * h) k in
    let s = c.turn-v.ensures.size in
    let sr = s.re in
    let fi : FitsSigned w64 c.turn-v.result.im = search rules in
    let fr : FitsSigned w64 c.turn-v.result.re = search rules in
    let fn : FitsSigned w64 (pos 0 -ℤ c.turn-v.result.re) = fits_signed_from_abs w64 (pos 0 -ℤ c.turn-v.result.re) (omega (arith, ints)) in
    let e : c.turn-v.result ≡ turned (at c.args.re.now c.args.im.now k) a =
    c.turn-v.ensures.value ∙ sym (turned_none c.get.result c.turn_angle_of.result a a c.turn_angle_of.ensures.value refl) ∙ ap (λ z. turned z a) c.get.ensures in
    simp to_z-of_z
    (out_next h k (at c.args.re.now c.args.im.now) c.loop-k.out c.turn-v.result.im (pos 0 -ℤ c.turn-v.result.re) (omega arith) (omega arith)
    (ap (λ z. z.im) e) (negated (turned (at c.args.re.now c.args.im.now k) a).re c.turn-v.result.re (ap (λ z. z.re) e)) c.loop-k.invariant)
