use Rattle.std.proofs.Common.{◌≡◌, ◌+◌, ◌≤◌, length, arith, ap, length-take}
use Rattle.pulse_vectors.specs.Rows.{RowShape}
use Rattle.pulse_vectors.proofs.RowSteps.{changing-start, changing-next, raised-now, raised-fits}
use Rattle.pulse_vectors.proofs.row.Row.up.Goals as goal

pub loop-count-init : goal.loop-count-init
loop-count-init c =
    let e : c.self.inside.numbers ≡ c.args.self.now.numbers = ap (λ (s : RowShape). s.numbers) c.self.view_is in
    changing-start _ _ _ _ _ e c.self.invariant.2

pub overflow_add-last : goal.overflow_add-last
overflow_add-last c =
    let p : c.self.inside.pulses ≡ c.args.self.now.pulses = ap (λ (s : RowShape). s.pulses) c.self.view_is in
    let l : length c.loop-count.count-items ≤ c.args.self.now.pulses + 1 = omega (arith, length-take (c.self.inside.pulses + 1) c.self.inside.counts) in
    let f = raised-fits _ _ _ _ _ _ c.loop-count.invariant (omega arith) l c.requires.fits in
    omega arith

pub overflow_add-last-in-loop-count : goal.overflow_add-last-in-loop-count
overflow_add-last-in-loop-count c =
    let p : c.self.inside.pulses ≡ c.args.self.now.pulses = ap (λ (s : RowShape). s.pulses) c.self.view_is in
    let l : length c.loop-count.count-items ≤ c.args.self.now.pulses + 1 = omega (arith, length-take (c.self.inside.pulses + 1) c.self.inside.counts) in
    let f = raised-fits _ _ _ _ _ _ c.loop-count.invariant (omega arith) l c.requires.fits in
    omega arith

pub loop-count-preserved : goal.loop-count-preserved
loop-count-preserved c =
    changing-next _ _ _ _ _ _ _ c.loop-count.invariant (omega arith)
    (omega (arith, raised-now _ _ _ _ _ c.loop-count.invariant (omega arith)))
