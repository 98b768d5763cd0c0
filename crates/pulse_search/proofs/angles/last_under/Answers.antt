use Rattle.std.proofs.Common.{◌≡◌, ◌+◌, ◌/◌, true, arith, sym, subst, ◌∙◌}
use Rattle.pulse_search.specs.Angles.{is_under}
use Rattle.pulse_search.proofs.AngleSteps.{under_start, over_later, angle-found}
use Rattle.pulse_search.proofs.angles.last_under.Goals.{then-under, else-under}
use Rattle.pulse_search.proofs.angles.last_under.Goals as goal

pub loop-left-init : goal.loop-left-init
loop-left-init c = record {
  range = omega arith;
  here = under_start c.args.m c.args.s;
  above = λ b p q. absurd (omega arith);
}

pub loop-left-preserved : goal.loop-left-preserved
loop-left-preserved c =
    let i = c.loop-left.invariant in
    elim c.if-under.branch [
      | then-under w ↦ record {
        range = omega (arith, w.low-is, i.range);
        here = subst (λ k. is_under c.args.m c.args.s k ≡ true) (sym w.low-is) (sym c.under.ensures ∙ w.if-under.true);
        above = λ b p q. i.above b (omega (arith, w.low-is)) q;
      }
      | else-under w ↦ record {
        range = omega (arith, w.low-is, i.range);
        here = subst (λ k. is_under c.args.m c.args.s k ≡ true) (sym w.low-is) i.here;
        above = λ b p q. over_later c.args.m c.args.s (c.loop-left.low + (c.loop-left.left + 1) / 2) b (omega (arith, w.low-is)) q (sym c.under.ensures ∙ w.if-under.false);
      }
    ]

pub returns-clause-value : goal.returns-clause-value
returns-clause-value c =
    let i = c.loop-left.invariant in
    angle-found c.args.m c.args.s c.loop-left.low c.requires.some (omega (arith, i.range)) i.here (λ b p q. i.above b (omega arith) q)
