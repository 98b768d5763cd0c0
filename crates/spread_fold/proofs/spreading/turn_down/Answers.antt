use Rattle.std.proofs.Common.{◌≡◌, ℕ, ◌-◌, ap, ◌∙◌, ◌+◌, arith, subst, sym, ◌<◌, ◌^◌, length}
use Rattle.std.specs.Prelude.{unsigned_abs, All}
use Rattle.std.proofs.lemmas.Int.{to_z-of_z}
use Rattle.spread_fold.specs.Calm.{IsCalm}
use Rattle.spread_fold.specs.Spreading.{turned_down, pair_turned}
use Rattle.spread_fold.proofs.SpreadLemmas.{keeps_pair, down_more, down_end, small_below}
use Rattle.spread_fold.proofs.CalmLemmas.{calm_fewer, calm_next}
use Rattle.spread_fold.proofs.spreading.turn_down.Goals as goal

pub loop-i-preserved : goal.loop-i-preserved
loop-i-preserved c =
    let fc = c.ranges.c in
    let fs = c.ranges.s in
    let i : ℕ = c.loop-i.i - 1 in
    let w : i + 1 ≡ c.loop-i.i = omega arith in
    let e : c.turn_pair.new.x ≡ pair_turned c.args.t c.args.c c.args.s i c.loop-i.x = simp to_z-of_z at c.turn_pair.ensures in
    let f : turned_down c.args.t c.args.c c.args.s c.loop-i.i c.loop-i.x ≡ turned_down c.args.t c.args.c c.args.s c.args.k c.args.x.now = simp to_z-of_z at c.loop-i.invariant.left in
    let g : turned_down c.args.t c.args.c c.args.s (i + 1) c.loop-i.x ≡ turned_down c.args.t c.args.c c.args.s c.args.k c.args.x.now = ap (λ k. turned_down c.args.t c.args.c c.args.s k c.loop-i.x) w ∙ f in
    let small : All (λ v. unsigned_abs v < 2 ^ 20) c.turn_pair.new.x = subst (All (λ v. unsigned_abs v < 2 ^ 20)) (sym e) (keeps_pair (λ v. unsigned_abs v < 2 ^ 20) small_below c.args.t c.args.c c.args.s i c.loop-i.x c.loop-i.invariant.small) in
    record {
      left = simp to_z-of_z (down_more c.args.t c.args.c c.args.s i (turned_down c.args.t c.args.c c.args.s c.args.k c.args.x.now) c.loop-i.x c.turn_pair.new.x g e);
      small = small;
      calm = λ q.
          let h : IsCalm c.loop-i.i c.args.c c.args.s c.loop-i.x = simp to_z-of_z at c.loop-i.invariant.calm q in
          let room = c.requires.within in
          let here : i + c.args.t < length c.loop-i.x = omega (arith, room (omega (arith, c.loop-i.auto.i, w)), c.loop-i.auto.x, c.loop-i.auto.i, w) in
          simp to_z-of_z (calm_next c.args.t c.args.c c.args.s i c.loop-i.x c.turn_pair.new.x c.requires.distance.0 here (subst (λ n. IsCalm n c.args.c c.args.s c.loop-i.x) (sym w) h) e);
    }

pub turn_pair-requires-clause-calm : goal.turn_pair-requires-clause-calm
turn_pair-requires-clause-calm c = λ q.
    let fc = c.ranges.c in
    let fs = c.ranges.s in
    let h : IsCalm c.loop-i.i c.args.c c.args.s c.loop-i.x = simp to_z-of_z at c.loop-i.invariant.calm q in
    simp to_z-of_z (calm_fewer c.loop-i.i 1 c.args.c c.args.s c.loop-i.x (omega arith) h)

pub returns : goal.returns
returns c =
    let fc = c.ranges.c in
    let fs = c.ranges.s in
    let f = simp to_z-of_z at c.loop-i.invariant.left in
    down_end c.args.t c.args.c c.args.s c.loop-i.i c.loop-i.x (turned_down c.args.t c.args.c c.args.s c.args.k c.args.x.now) (omega arith) f
