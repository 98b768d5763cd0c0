use Rattle.std.proofs.Common.{◌≡◌, ℕ, ◌*◌, ◌<◌, ◌^◌, ◌∙◌, ap, sym, subst, refl, arith, rules, length}
use Rattle.std.specs.Prelude.{neg_ℤ, FitsSigned}
use Rattle.std.specs.Int.{w64}
use Rattle.std.proofs.lemmas.Int.{to_z-of_z}
use Rattle.mdct_fixed.specs.Numbers.{at, turned, IsWithin}
use Rattle.mdct_fixed.specs.Mdct.{turn_angle, scaled}
use Rattle.mdct_fixed.proofs.MdctLemmas.{angle_in}
use Rattle.mdct_fixed.proofs.ForwardLemmas.{back_next}
use Rattle.mdct_fixed.proofs.PlanLemmas.{turned_within}
use Rattle.mdct_fixed.proofs.RowLemmas.{turned_none}
use Rattle.mdct_fixed.proofs.forward_transform.turn_back.Goals as goal

pub scale-v-requires-clause-within : goal.scale-v-requires-clause-within
scale-v-requires-clause-within c =
    let h : ℕ = length c.args.re.now in
    let k : ℕ = c.loop-k.k in
    let a : ℕ = turn_angle (2 * h) k in
    let e : c.turn.result ≡ turned (at c.args.re.now c.args.im.now k) a =
    c.turn.ensures.value ∙ sym (turned_none c.get.result c.turn_angle_of.result a a c.turn_angle_of.ensures.value refl) ∙ ap (λ z. turned z a) c.get.ensures in
    let l : a < 3840 = angle_in (2 * h) k c.requires.size (omega arith) in
    subst (IsWithin (2 ^ 46)) (sym e) (turned_within (at c.args.re.now c.args.im.now k) a (2 ^ 45) (omega arith) (c.requires.small k (omega arith)))

pub loop-k-preserved : goal.loop-k-preserved
loop-k-preserved c =
    let h : ℕ = length c.args.re.now in
    let k : ℕ = c.loop-k.k in
    let a : ℕ = turn_angle (2 * h) k in
    let fi : FitsSigned w64 c.scale-v.result.im = search rules in
    let fr : FitsSigned w64 c.scale-v.result.re = search rules in
    let e : c.turn.result ≡ turned (at c.args.re.now c.args.im.now k) a =
    c.turn.ensures.value ∙ sym (turned_none c.get.result c.turn_angle_of.result a a c.turn_angle_of.ensures.value refl) ∙ ap (λ z. turned z a) c.get.ensures in
    simp to_z-of_z
    (back_next h k (at c.args.re.now c.args.im.now) c.loop-k.out c.scale-v.result.re c.scale-v.result.im (omega arith) (omega arith)
    (c.scale-v.ensures.re ∙ ap (λ z. scaled (2 * h) z.re) e) (c.scale-v.ensures.im ∙ ap (λ z. scaled (2 * h) (neg_ℤ z.im)) e) c.loop-k.invariant)
