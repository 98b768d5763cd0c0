use Rattle.std.proofs.Common.{◌≡◌, ◌-◌, ◌*◌, ap, sym, subst, arith, ◌∙◌}
use Rattle.std.specs.Prelude.{pos, ◌-ℤ◌, ◌*ℤ◌, int_div, FitsSigned}
use Rattle.std.specs.Int.{w64}
use Rattle.std.proofs.lemmas.Int.{to_z-of_z}
use Rattle.celt_base.proofs.BandEnds.{end_most}
use Rattle.celt_encode.specs.Listening.{trim_for}
use Rattle.celt_encode.proofs.ListeningLemmas.{within_two, trim_steps, end_least}
use Rattle.celt_encode.proofs.listening.trim.Goals as goal

pub returns : goal.returns
unfolding trim_for
returns c =
    let least = end_least c.args.kind.end c.args.kind.ended in
    let t = trim_steps c.rise.result c.from.result c.args.kind.end (sym c.from.ensures) (omega (arith, least)) (end_most c.args.kind) c.rise.ensures.size in
    let a = t.rise in
    let b = t.end in
    let d = t.less in
    let e = t.width in
    let f = t.quotient in
    let g = t.limited in
    let h = t.left in
    let m : c.clamp.result ≡ within_two (int_div c.rise.result (pos 6144 *ℤ (c.from.result -ℤ pos 1))) = simp to_z-of_z at c.clamp.ensures.value in
    let fm : FitsSigned w64 c.clamp.result = record { sfits = c.clamp.type_inv } in
    let fl : FitsSigned w64 (pos 5 -ℤ c.clamp.result) = subst (λ z. FitsSigned w64 (pos 5 -ℤ z)) (sym m) h in
    let v = ap (λ q. pos 5 -ℤ within_two q) (t.value ∙ ap (λ r. int_div r (pos (6144 * (c.args.kind.end - 1)))) c.rise.ensures.value) in
    simp to_z-of_z (ap (λ z. pos 5 -ℤ z) m ∙ v)
