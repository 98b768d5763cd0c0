use Rattle.std.proofs.Common.{◌≡◌, ◌-◌, arith, sym, ◌∙◌, ap, subst, true, false, ℕ, rules}
use Rattle.std.specs.Prelude.{ℤ, pos, ◌<ℤ◌, ◌≤ℤ◌, slice_index_or, FitsSigned}
use Rattle.std.proofs.lemmas.Int.{ints, to_z-of_z}
use Rattle.std.specs.Int.{w32}
use Rattle.std.specs.Int.Signed.{lt_z}
use Rattle.bit_allocation.specs.Plans.{boosted_top}
use Rattle.bit_allocation.proofs.PlanLemmas.{boosted_here, boosted_below, boosted_none, no_boost, some_boost}
use Rattle.bit_allocation.proofs.planning.boosted_top.Goals as goal

pub returns-then-request-band-gt0 : goal.returns-then-request-band-gt0
returns-then-request-band-gt0 c =
    let r = c.args.request.now in
    let band : ℕ = c.loop-band.band - 1 in
    let z : ℤ = slice_index_or r.boosts band (pos 0) in
    let low = c.loop-band-test.true in
    let f : FitsSigned w32 z = search rules in
    let high : pos 0 <ℤ z = grind (arith, ints, subst (λ x. lt_z (pos 0) x ≡ true) (to_z-of_z w32 z f) c.if-request-band-gt0.true) in
    sym (boosted_here r c.loop-band.band band (omega (arith, low)) (some_boost z high)) ∙ c.loop-band.invariant.same

pub loop-band-preserved : goal.loop-band-preserved
loop-band-preserved c =
    let r = c.args.request.now in
    let band : ℕ = c.loop-band.band - 1 in
    let z : ℤ = slice_index_or r.boosts band (pos 0) in
    let low = c.loop-band-test.true in
    let inside = c.loop-band.invariant.inside in
    let f : FitsSigned w32 z = search rules in
    let none : z ≤ℤ pos 0 = grind (arith, ints, subst (λ x. lt_z (pos 0) x ≡ false) (to_z-of_z w32 z f) c.if-request-band-gt0.false) in
    record {
      inside = omega (arith, inside);
      same = sym (boosted_below r c.loop-band.band band (omega (arith, low)) (no_boost z none)) ∙ c.loop-band.invariant.same;
    }

pub returns : goal.returns
returns c =
    let r = c.args.request.now in
    let z : c.loop-band.band ≡ 0 = let t = c.loop-band-test.false in omega (arith, t) in
    sym (ap (boosted_top r) z ∙ boosted_none r) ∙ c.loop-band.invariant.same
