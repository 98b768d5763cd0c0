use Rattle.std.proofs.Common.{◌≡◌, ap, arith}
use Rattle.pulse_vectors.specs.Rows.{RowShape}
use Rattle.pulse_vectors.proofs.Counts.{summed-start, summed-next, next-top}
use Rattle.pulse_vectors.proofs.row.Row.next_top.Goals as goal

pub loop-j-init : goal.loop-j-init
loop-j-init c = summed-start _

pub loop-j-preserved : goal.loop-j-preserved
loop-j-preserved c = summed-next _ _ _ _ c.loop-j.invariant c.at.ensures (omega arith)

pub returns : goal.returns
returns c =
    let e : c.self.inside.pulses ≡ c.args.self.now.pulses = ap (λ (s : RowShape). s.pulses) c.self.view_is in
    next-top _ _ _ _ _ _ c.loop-j.invariant e (omega arith) c.at-2.ensures
