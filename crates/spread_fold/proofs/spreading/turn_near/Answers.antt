use Rattle.std.proofs.Common.{◌≡◌, ℕ, ap, ◌∙◌, arith, subst, sym, ◌+◌, ◌*◌, ◌<◌, ◌^◌, length, List}
use Rattle.std.specs.Prelude.{ℤ, unsigned_abs, All}
use Rattle.std.proofs.lemmas.Int.{to_z-of_z}
use Rattle.spread_fold.specs.Calm.{IsCalm}
use Rattle.spread_fold.specs.Spreading.{turned_up, turned_down}
use Rattle.spread_fold.proofs.SpreadLemmas.{keeps_up, passes_are, small_below}
use Rattle.spread_fold.proofs.CalmLemmas.{calm_fewer, calm_up}
use Rattle.spread_fold.proofs.spreading.turn_near.Goals as goal

pub neighbours_down-requires-clause-items : goal.neighbours_down-requires-clause-items
neighbours_down-requires-clause-items c =
    let fc = c.ranges.c in
    let fs = c.ranges.s in
    let u : c.neighbours_up.new.x ≡ turned_up 1 c.args.c c.args.s c.saturating_sub.result c.args.x.now = simp to_z-of_z at c.neighbours_up.ensures in
    subst (All (λ v. unsigned_abs v < 2 ^ 20)) (sym u) (keeps_up (λ v. unsigned_abs v < 2 ^ 20) small_below 1 c.args.c c.args.s c.saturating_sub.result c.args.x.now c.requires.items)

pub neighbours_up-requires-clause-calm : goal.neighbours_up-requires-clause-calm
neighbours_up-requires-clause-calm c = λ q.
    let fc = c.ranges.c in
    let fs = c.ranges.s in
    simp to_z-of_z (calm_fewer (2 * length c.args.x.now) c.saturating_sub.result c.args.c c.args.s c.args.x.now (omega arith) (c.requires.calm q))

pub neighbours_down-requires-clause-calm : goal.neighbours_down-requires-clause-calm
neighbours_down-requires-clause-calm c = λ q.
    let fc = c.ranges.c in
    let fs = c.ranges.s in
    let xs : List ℤ = c.args.x.now in
    let k : ℕ = c.saturating_sub.result in
    let l : ℕ = c.saturating_sub-2.result in
    let u : c.neighbours_up.new.x ≡ turned_up 1 c.args.c c.args.s k xs = simp to_z-of_z at c.neighbours_up.ensures in
    simp to_z-of_z
    (subst (IsCalm l c.args.c c.args.s) (sym u) (calm_up 1 c.args.c c.args.s k l xs (omega arith) (λ e. omega arith) (calm_fewer (2 * length xs) (k + l) c.args.c c.args.s xs (omega arith) (c.requires.calm q))))

pub returns : goal.returns
returns c =
    let fc = c.ranges.c in
    let fs = c.ranges.s in
    let k : ℕ = c.saturating_sub.result in
    let l : ℕ = c.saturating_sub-2.result in
    let u : c.neighbours_up.new.x ≡ turned_up 1 c.args.c c.args.s k c.args.x.now = simp to_z-of_z at c.neighbours_up.ensures in
    let d : c.neighbours_down.new.x ≡ turned_down 1 c.args.c c.args.s l c.neighbours_up.new.x = simp to_z-of_z at c.neighbours_down.ensures in
    d ∙ ap (turned_down 1 c.args.c c.args.s l) u ∙ passes_are 1 c.args.c c.args.s k l c.args.x.now (omega arith) (omega arith)
