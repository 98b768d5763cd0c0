use borrow.Author.Count.{below_more}
use mathlib.Core.Path.{sym, subst, ◌∙◌}
use Prim.Native.Nat.{◌<◌}
use native.Mathlib.Omega.{arith}
use lib.ListN.{length, get_or, set}
use Rattle.std.proofs.lemmas.List.{get_or-set_same, get_or-set_other, get_or_default}
use Rattle.celt_base.proofs.halves.fill_all.Goals as goal

pub fill_one-requires-after_bounds : goal.fill_one-requires-after_bounds
fill_one-requires-after_bounds g c κs within =
    let k = c.loop-k.k in let d = c.index-slots-k.result in
    subst (g.W.Work.can_fill c.args.work.now) (sym (c.loop-k.invariant.0 k d (omega arith))) (c.requires k d (omega arith))

pub loop-k-preserved : goal.loop-k-preserved
loop-k-preserved g c =
    let k = c.loop-k.k in let xs = c.args.slots.now in let ys = c.loop-k.slots in let y = c.fill_one.new.slot in
    let R : g.row.T.Denot → g.row.T.Denot → Type 0 = g.W.Work.fills c.args.work.now in
    let l : k < length ys = omega arith in (
      λ j d h. get_or-set_other ys k j y d (λ e. omega arith) ∙ c.loop-k.invariant.0 j d (omega arith),
      λ j d h. below_more (λ i. R (get_or xs i d) (get_or (set ys k y) i d)) k
          (λ i u. subst (R (get_or xs i d)) (sym (get_or-set_other ys k i y d (λ e. omega arith))) (c.loop-k.invariant.1 i d u))
          (subst (R (get_or xs k d)) (sym (get_or-set_same ys k y d l))
          (subst (λ x. R x y) (get_or_default ys k _ d l ∙ c.loop-k.invariant.0 k d (omega arith)) c.fill_one.ensures))
          j h,
    )
