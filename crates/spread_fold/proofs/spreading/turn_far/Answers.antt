use Rattle.std.proofs.Common.{◌≡◌, ℕ, ap, ◌∙◌, arith, subst, sym, ◌+◌, ◌*◌, ◌<◌, ◌^◌, length, List}
use Rattle.std.specs.Prelude.{ℤ, unsigned_abs, All}
use Rattle.std.proofs.lemmas.Int.{to_z-of_z}
use Rattle.spread_fold.specs.Calm.{IsCalm}
use Rattle.spread_fold.specs.Spreading.{turned_up, turned_down}
use Rattle.spread_fold.proofs.SpreadLemmas.{keeps_up, passes_are, far_some, far_none, far_near, small_below}
use Rattle.spread_fold.proofs.CalmLemmas.{calm_fewer, calm_up}
use Rattle.spread_fold.proofs.spreading.turn_far.Goals as goal

pub turn_down-requires-clause-items : goal.turn_down-requires-clause-items
turn_down-requires-clause-items c =
    let fc = c.ranges.c in
    let fs = c.ranges.s in
    let u : c.turn_up.new.x ≡ turned_up c.args.t c.args.c c.args.s c.saturating_sub.result c.args.x.now = simp to_z-of_z at c.turn_up.ensures in
    subst (All (λ v. unsigned_abs v < 2 ^ 20)) (sym u) (keeps_up (λ v. unsigned_abs v < 2 ^ 20) small_below c.args.t c.args.c c.args.s c.saturating_sub.result c.args.x.now c.requires.items)

pub turn_near-requires-clause-calm : goal.turn_near-requires-clause-calm
turn_near-requires-clause-calm c = λ q.
    let fc = c.ranges.c in
    let fs = c.ranges.s in
    simp to_z-of_z (c.requires.calm q)

pub turn_up-requires-clause-calm : goal.turn_up-requires-clause-calm
turn_up-requires-clause-calm c = λ q.
    let fc = c.ranges.c in
    let fs = c.ranges.s in
    simp to_z-of_z (calm_fewer (2 * length c.args.x.now) c.saturating_sub.result c.args.c c.args.s c.args.x.now (omega arith) (c.requires.calm q))

pub turn_down-requires-clause-calm : goal.turn_down-requires-clause-calm
turn_down-requires-clause-calm c = λ q.
    let fc = c.ranges.c in
    let fs = c.ranges.s in
    let xs : List ℤ = c.args.x.now in
    let k : ℕ = c.saturating_sub.result in
    let l : ℕ = c.saturating_sub-then-t-gt0.result in
    let u : c.turn_up.new.x ≡ turned_up c.args.t c.args.c c.args.s k xs = simp to_z-of_z at c.turn_up.ensures in
    simp to_z-of_z
    (subst (IsCalm l c.args.c c.args.s) (sym u) (calm_up c.args.t c.args.c c.args.s k l xs (omega arith) (λ e. omega arith) (calm_fewer (2 * length xs) (k + l) c.args.c c.args.s xs (omega arith) (c.requires.calm q))))

pub returns-then-t-gt0 : goal.returns-then-t-gt0
returns-then-t-gt0 c =
    let fc = c.ranges.c in
    let fs = c.ranges.s in
    let k : ℕ = c.saturating_sub.result in
    let l : ℕ = c.saturating_sub-then-t-gt0.result in
    let u : c.turn_up.new.x ≡ turned_up c.args.t c.args.c c.args.s k c.args.x.now = simp to_z-of_z at c.turn_up.ensures in
    let d : c.turn_down.new.x ≡ turned_down c.args.t c.args.c c.args.s l c.turn_up.new.x = simp to_z-of_z at c.turn_down.ensures in
    d ∙ ap (turned_down c.args.t c.args.c c.args.s l) u ∙ passes_are c.args.t c.args.c c.args.s k l c.args.x.now (omega arith) (omega arith)
    ∙ far_some c.args.t c.args.c c.args.s c.args.x.now (omega arith)

pub returns-else-t-gt0 : goal.returns-else-t-gt0
returns-else-t-gt0 c = far_none c.args.t c.args.c c.args.s c.args.x.now (omega arith)

pub returns-then-t-eq1 : goal.returns-then-t-eq1
returns-then-t-eq1 c =
    let fc = c.ranges.c in
    let fs = c.ranges.s in
    let u = simp to_z-of_z at c.turn_near.ensures in
    u ∙ far_near c.args.t c.args.c c.args.s c.args.x.now c.if-t-eq1.true
