use Rattle.std.proofs.Common.{arith, rules, get_or}
use Rattle.std.specs.Prelude.{ℤ, pos, FitsSigned}
use Rattle.std.specs.Int.{w32}
use Rattle.std.proofs.lemmas.Int.{ints}
use Rattle.fixed_math.proofs.ItemLemmas.{same_items, put_next}
use Rattle.fixed_math.specs.Items.{item}
use Rattle.band_shapes.proofs.leaves.widen.Goals as goal

pub loop-i-preserved : goal.loop-i-preserved
loop-i-preserved c =
    let v : ℤ = get_or c.args.y.now c.loop-i.i (pos 0) in
    let f : FitsSigned w32 v = search rules in
    put_next c.loop-i.x c.loop-i.i (item c.args.y.now) _ (omega arith) (omega (arith, ints)) c.loop-i.invariant

pub returns : goal.returns
returns c = same_items _ _ (omega arith) (λ p h. c.loop-i.invariant p (omega arith))
