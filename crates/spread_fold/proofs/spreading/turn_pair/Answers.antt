use Rattle.std.proofs.Common.{◌≡◌, ◌∙◌, ℕ, ◌+◌, arith, ap, refl, rules, List}
use Rattle.std.specs.Prelude.{ℤ, FitsSigned, pos, ◌+ℤ◌, ◌-ℤ◌, ◌*ℤ◌, neg_ℤ, slice_set}
use Rattle.std.proofs.Math.IntN.{+ℤ_idl}
use Rattle.std.specs.Int.{w64}
use Rattle.std.proofs.lemmas.Int.{to_z-of_z, fits_signed_from_abs, ints}
use Rattle.fixed_math.specs.Rounding.{rounded}
use Rattle.fixed_math.proofs.IntLemmas.{*ℤ-neg_ℤ}
use Rattle.fixed_math.specs.Items.{item}
use Rattle.spread_fold.specs.Spreading.{clamped, turned_first, turned_second, pair_turned}
use Rattle.spread_fold.proofs.CalmLemmas.{needs_none}
use Rattle.spread_fold.proofs.spreading.turn_pair.Goals as goal

pub turned_number-requires-clause-calm : goal.turned_number-requires-clause-calm
turned_number-requires-clause-calm c = λ q.
    let xs : List ℤ = c.args.x.now in
    let fc = c.ranges.c in
    let fs = c.ranges.s in
    let a : ℤ = item xs c.args.p in
    let b : ℤ = item xs (c.args.p + c.args.t) in
    let fa : FitsSigned w64 a = search rules in
    let fb : FitsSigned w64 b = search rules in
    let fn : FitsSigned w64 (pos 0 -ℤ c.args.s) = fits_signed_from_abs w64 (pos 0 -ℤ c.args.s) (omega (arith, ints)) in
    simp to_z-of_z (needs_none c.args.t c.args.c c.args.s c.args.p 0 xs a b c.requires.distance.0 c.requires.within (c.requires.calm q) refl refl).first

pub turned_number-requires-2-clause-calm : goal.turned_number-requires-2-clause-calm
turned_number-requires-2-clause-calm c = λ q.
    let xs : List ℤ = c.args.x.now in
    let fc = c.ranges.c in
    let fs = c.ranges.s in
    let a : ℤ = item xs c.args.p in
    let b : ℤ = item xs (c.args.p + c.args.t) in
    let fa : FitsSigned w64 a = search rules in
    let fb : FitsSigned w64 b = search rules in
    simp to_z-of_z (needs_none c.args.t c.args.c c.args.s c.args.p 0 xs a b c.requires.distance.0 c.requires.within (c.requires.calm q) refl refl).second

pub returns : goal.returns
unfolding pair_turned
returns c =
    let xs : List ℤ = c.args.x.now in
    let p : ℕ = c.args.p in
    let q : ℕ = c.args.p + c.args.t in
    let a : ℤ = item xs p in
    let b : ℤ = item xs q in
    let v : ℤ = c.turned_number.result in
    let w : ℤ = c.turned_number-2.result in
    let fc = c.ranges.c in
    let fs = c.ranges.s in
    let fa : FitsSigned w64 a = search rules in
    let fb : FitsSigned w64 b = search rules in
    let fv : FitsSigned w64 v = search rules in
    let fw : FitsSigned w64 w = search rules in
    let fn : FitsSigned w64 (pos 0 -ℤ c.args.s) = fits_signed_from_abs w64 (pos 0 -ℤ c.args.s) (omega (arith, ints)) in
    let ev : v ≡ clamped (rounded (a *ℤ c.args.c +ℤ b *ℤ (pos 0 -ℤ c.args.s)) 15) = simp to_z-of_z at c.turned_number.ensures.value in
    let ew : w ≡ turned_second c.args.c c.args.s a b = simp to_z-of_z at c.turned_number-2.ensures.value in
    let e : v ≡ turned_first c.args.c c.args.s a b = ev ∙ ap (λ z. clamped (rounded (a *ℤ c.args.c +ℤ b *ℤ z) 15)) (+ℤ_idl (neg_ℤ c.args.s)) ∙ ap (λ z. clamped (rounded (a *ℤ c.args.c +ℤ z) 15)) (*ℤ-neg_ℤ b c.args.s) in
    simp to_z-of_z (ap (λ z. slice_set (slice_set xs p z) q w) e ∙ ap (λ z. slice_set (slice_set xs p (turned_first c.args.c c.args.s a b)) q z) ew)
