use Rattle.std.proofs.Common.{◌≡◌, sym, ap, ◌∙◌, arith}
use Rattle.pulse_search.specs.Angles.{angle_of}
use Rattle.pulse_search.proofs.AngleSteps.{angle-none}
use Rattle.pulse_search.proofs.angles.angle.Goals as goal

pub returns-then-s-eq0-clause-value : goal.returns-then-s-eq0-clause-value
returns-then-s-eq0-clause-value c =
    let e : c.args.m ≡ 0 = omega (arith, c.if-m-eq0.true) in
    let d : c.args.s ≡ 0 = omega (arith, c.if-s-eq0.true) in
    sym (ap (λ k. angle_of k c.args.s) e ∙ ap (angle_of 0) d ∙ angle-none)
