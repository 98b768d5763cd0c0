use Rattle.std.proofs.Common.{◌+◌, ◌<◌, ◌≤◌, subst, arith}
use Rattle.frame_symbols.proofs.AskSteps.{eighths_unasked, eighths_asked}
use Rattle.frame_symbols.proofs.asking.ask_number_within_eighths.Goals as goal

pub returns-then-tell_frac-number-clause-walked : goal.returns-then-tell_frac-number-clause-walked
returns-then-tell_frac-number-clause-walked g c =
    eighths_unasked c.args.at c.args.number.question c.args.number.cost c.args.number.budget c.args.number.other
    (subst (λ n. c.args.number.budget < n + c.args.number.cost) c.tell_frac.ensures.value c.if-tell_frac-number.true)

pub returns-clause-walked : goal.returns-clause-walked
returns-clause-walked g c =
    eighths_asked c.args.at c.args.number.question c.args.number.cost c.args.number.budget c.args.number.other
    (subst (λ n. n + c.args.number.cost ≤ c.args.number.budget) c.tell_frac.ensures.value (let t = c.if-tell_frac-number.false in omega (arith, t)))
    c.ask_number.ensures.walked
