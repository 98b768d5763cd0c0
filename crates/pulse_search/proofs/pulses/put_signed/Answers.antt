use Rattle.std.proofs.Common.{◌≡◌, ℕ, ◌<◌, arith, sym, ap, ◌∙◌, List, length, get_or, rules}
use Rattle.std.specs.Prelude.{ℤ, pos, FitsSigned, slice_set}
use Rattle.std.specs.Int.{w32, w64}
use Rattle.std.proofs.lemmas.Int.{to_z-of_z}
use Rattle.pulse_search.specs.Pulses.{signed, signed_all}
use Rattle.pulse_search.proofs.FrontSteps.{over-none, over-more, over-all, length-signed_all, signed_all-at}
use Rattle.pulse_search.proofs.pulses.put_signed.Goals as goal

pub loop-i-init : goal.loop-i-init
loop-i-init c = sym (over-none (signed_all c.args.x.now c.args.pulses.now) c.args.out.now)

pub loop-i-preserved : goal.loop-i-preserved
loop-i-preserved c =
    let xs : List ℤ = c.args.x.now in
    let ys : List ℕ = c.args.pulses.now in
    let ws : List ℤ = signed_all xs ys in
    let os : List ℤ = c.args.out.now in
    let i = c.loop-i.i in
    let n : length ws ≡ length xs = length-signed_all xs ys c.requires.same in
    let h : i < length xs = omega (arith, c.requires.room) in
    let fx : FitsSigned w64 (get_or xs i (pos 0)) = search rules in
    let f : FitsSigned w32 c.with_sign.result = search rules in
    let e : c.with_sign.result ≡ get_or ws i (pos 0) = c.with_sign.ensures ∙ ap (λ z. signed z (get_or ys i 0)) (to_z-of_z w64 (get_or xs i (pos 0)) fx) ∙ signed_all-at xs ys i c.requires.same h in
    ap (slice_set c.loop-i.out i) (to_z-of_z w32 c.with_sign.result f) ∙ ap (λ s. slice_set s i c.with_sign.result) c.loop-i.invariant ∙ over-more i ws os (pos 0) c.with_sign.result (omega arith) (omega arith) e

pub returns : goal.returns
returns c =
    let xs : List ℤ = c.args.x.now in
    let ys : List ℕ = c.args.pulses.now in
    let ws : List ℤ = signed_all xs ys in
    let os : List ℤ = c.args.out.now in
    let n : length ws ≡ length xs = length-signed_all xs ys c.requires.same in
    c.loop-i.invariant ∙ over-all c.loop-i.i ws os (omega arith) (omega arith)
