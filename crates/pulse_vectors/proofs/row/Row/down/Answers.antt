use Rattle.std.proofs.Common.{◌≡◌, ◌-◌, arith, ap}
use Rattle.pulse_vectors.specs.Rows.{RowShape}
use Rattle.pulse_vectors.proofs.RowSteps.{changing-start, changing-next, lowered-now, lowered-fits}
use Rattle.pulse_vectors.proofs.row.Row.down.Goals as goal

pub loop-count-init : goal.loop-count-init
loop-count-init c =
    let e : c.self.inside.numbers ≡ c.args.self.now.numbers = ap (λ (s : RowShape). s.numbers) c.self.view_is in
    changing-start _ _ _ _ _ e c.self.invariant.2

pub overflow_sub-last : goal.overflow_sub-last
overflow_sub-last c = omega (arith, lowered-fits _ _ _ _ _ _ (omega arith) c.loop-count.invariant (omega arith))

pub overflow_sub-last-in-loop-count : goal.overflow_sub-last-in-loop-count
overflow_sub-last-in-loop-count c = omega (arith, lowered-fits _ _ _ _ _ _ (omega arith) c.loop-count.invariant (omega arith))

pub loop-count-preserved : goal.loop-count-preserved
loop-count-preserved c =
    changing-next _ _ _ _ _ _ _ c.loop-count.invariant (omega arith)
    (omega (arith, lowered-now _ (c.args.self.now.numbers - 1) _ _ _ _ (omega arith) c.loop-count.invariant (omega arith)))
