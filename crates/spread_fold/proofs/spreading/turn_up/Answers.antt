use Rattle.std.proofs.Common.{◌≡◌, ℕ, refl, arith, subst, sym, ap, ◌∙◌, ◌+◌, ◌<◌, ◌^◌, List}
use Rattle.std.specs.Prelude.{ℤ, unsigned_abs, All}
use Rattle.std.proofs.lemmas.Int.{to_z-of_z}
use Rattle.spread_fold.specs.Calm.{IsCalm}
use Rattle.spread_fold.specs.Spreading.{turned_up}
use Rattle.spread_fold.proofs.SpreadLemmas.{keeps_up, up_more, small_below}
use Rattle.spread_fold.proofs.CalmLemmas.{calm_up, calm_fewer}
use Rattle.spread_fold.proofs.spreading.turn_up.Goals as goal

pub loop-i-init : goal.loop-i-init
unfolding turned_up
loop-i-init c = refl

pub loop-i-preserved : goal.loop-i-preserved
loop-i-preserved c =
    let fc = c.ranges.c in
    let fs = c.ranges.s in
    let e = simp to_z-of_z at c.turn_pair.ensures in
    simp to_z-of_z (up_more c.args.t c.args.c c.args.s c.loop-i.i c.args.x.now c.loop-i.x c.turn_pair.new.x (simp to_z-of_z at c.loop-i.invariant) e)

pub turn_pair-requires-clause-items : goal.turn_pair-requires-clause-items
turn_pair-requires-clause-items c =
    let fc = c.ranges.c in
    let fs = c.ranges.s in
    let e = simp to_z-of_z at c.loop-i.invariant in
    subst (All (λ v. unsigned_abs v < 2 ^ 20)) (sym e) (keeps_up (λ v. unsigned_abs v < 2 ^ 20) small_below c.args.t c.args.c c.args.s c.loop-i.i c.args.x.now c.requires.items)

pub turn_pair-requires-clause-calm : goal.turn_pair-requires-clause-calm
turn_pair-requires-clause-calm c = λ q.
    let fc = c.ranges.c in
    let fs = c.ranges.s in
    let xs : List ℤ = c.args.x.now in
    let i : ℕ = c.loop-i.i in
    let e : c.loop-i.x ≡ turned_up c.args.t c.args.c c.args.s i xs = simp to_z-of_z at c.loop-i.invariant in
    let room = c.requires.within in
    let h : IsCalm 1 c.args.c c.args.s (turned_up c.args.t c.args.c c.args.s i xs) =
    calm_up c.args.t c.args.c c.args.s i 1 xs c.requires.distance.0 (λ r. omega (arith, room (omega (arith, c.loop-i-test.true)), c.loop-i-test.true)) (calm_fewer c.args.k (i + 1) c.args.c c.args.s xs (omega (arith, c.loop-i-test.true)) (c.requires.calm q)) in
    simp to_z-of_z (subst (IsCalm 1 c.args.c c.args.s) (sym e) h)

pub returns : goal.returns
returns c =
    let fc = c.ranges.c in
    let fs = c.ranges.s in
    let e : c.loop-i.i ≡ c.args.k = omega arith in
    let f = simp to_z-of_z at c.loop-i.invariant in
    f ∙ (ap (λ k. turned_up c.args.t c.args.c c.args.s k c.args.x.now) e)
