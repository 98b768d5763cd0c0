use Rattle.std.proofs.Common.{◌≡◌, ℕ, ◌<◌, arith, sym, ap, ◌∙◌, List, length, get_or}
use Rattle.std.specs.Prelude.{ℤ, pos, map, take, replicate, slice_set, FitsSigned, unsigned_abs}
use Rattle.std.specs.Int.{w64}
use Rattle.std.proofs.lemmas.Int.{to_z-of_z, fits_signed_from_abs}
use Rattle.std.proofs.lemmas.List.{length-map, length-replicate, get_or-map}
use Rattle.pulse_search.proofs.FrontSteps.{over, over-none, over-more, take-over}
use Rattle.pulse_search.proofs.pulses.sizes_of.Goals as goal

pub loop-i-init : goal.loop-i-init
loop-i-init c = sym (over-none (map unsigned_abs c.args.x.now) (replicate 176 0))

pub loop-i-preserved : goal.loop-i-preserved
loop-i-preserved c =
    let xs : List ℤ = c.args.x.now in
    let ws : List ℕ = map unsigned_abs xs in
    let zs : List ℕ = replicate 176 0 in
    let i = c.loop-i.i in
    let n : length ws ≡ length xs = length-map xs unsigned_abs in
    let m : length zs ≡ 176 = length-replicate {A = ℕ} 176 0 in
    let h : i < length xs = omega arith in
    let f : FitsSigned w64 (get_or xs i (pos 0)) = fits_signed_from_abs w64 (get_or xs i (pos 0)) (omega (arith, c.requires.sizes i (pos 0) h)) in
    let e : c.unsigned_abs.result ≡ get_or ws i 0 = c.unsigned_abs.ensures.value ∙ ap unsigned_abs (to_z-of_z w64 (get_or xs i (pos 0)) f) ∙ sym (get_or-map unsigned_abs xs i (pos 0) 0 h) in
    ap (λ s. slice_set s i c.unsigned_abs.result) c.loop-i.invariant ∙ over-more i ws zs 0 c.unsigned_abs.result (omega arith) (omega arith) e

pub returns : goal.returns
returns c =
    let xs : List ℤ = c.args.x.now in
    let ws : List ℕ = map unsigned_abs xs in
    let zs : List ℕ = replicate 176 0 in
    let i = c.loop-i.i in
    let n : length xs ≡ length ws = sym (length-map xs unsigned_abs) in
    let m : length zs ≡ 176 = length-replicate {A = ℕ} 176 0 in
    let e : i ≡ length ws = omega arith in
    ap (take (length xs)) c.loop-i.invariant ∙ ap (λ k. take k (over i ws zs)) n ∙ ap (λ k. take (length ws) (over k ws zs)) e ∙ take-over ws zs (omega arith)
