use Rattle.std.proofs.Common.{◌+◌, ◌<◌, ◌≤◌, subst, arith}
use Rattle.frame_symbols.proofs.AskSteps.{number_unasked, number_within_asked}
use Rattle.frame_symbols.proofs.asking.ask_number_within.Goals as goal

pub returns-then-tell-number-clause-walked : goal.returns-then-tell-number-clause-walked
returns-then-tell-number-clause-walked g c =
    number_unasked c.args.at c.args.number.question c.args.number.cost c.args.number.budget c.args.number.other
    (subst (λ n. c.args.number.budget < n + c.args.number.cost) c.tell.ensures.value c.if-tell-number.true)

pub returns-clause-walked : goal.returns-clause-walked
returns-clause-walked g c =
    number_within_asked c.args.at c.args.number.question c.args.number.cost c.args.number.budget c.args.number.other
    (subst (λ n. n + c.args.number.cost ≤ c.args.number.budget) c.tell.ensures.value (let t = c.if-tell-number.false in omega (arith, t)))
    c.ask_number.ensures.walked
