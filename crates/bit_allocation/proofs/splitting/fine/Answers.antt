use Rattle.std.proofs.Common.{◌∙◌, ◌*◌, ◌-◌, ◌/◌, ◌<◌, ◌≤◌, ap, subst}
use Rattle.std.specs.Prelude.{min}
use Rattle.bit_allocation.proofs.SplitLemmas.{fine_then, fine_else}
use Rattle.bit_allocation.proofs.splitting.fine.Goals as goal

pub returns-then-channels-fine-clause-value : goal.returns-then-channels-fine-clause-value
returns-then-channels-fine-clause-value c =
    let n = c.args.numbers in
    let over : c.args.bits / 8 < c.args.kind.channels * ((c.args.raised - 17 * n) / (8 * n)) =
    subst (λ x. c.args.bits / 8 < x * ((c.args.raised - 17 * n) / (8 * n))) c.from-channels.ensures
    (subst (λ x. c.args.bits / 8 < c.from-channels.result * (x / (8 * n))) c.saturating_sub.ensures c.if-channels-fine.true) in
    c.min.ensures
    ∙ ap (λ x. min (c.args.bits / x / 8) 8) c.from-channels.ensures
    ∙ fine_then c.args.kind.channels n c.args.raised c.args.bits over

pub returns-clause-value : goal.returns-clause-value
returns-clause-value c =
    let n = c.args.numbers in
    let fits : c.args.kind.channels * ((c.args.raised - 17 * n) / (8 * n)) ≤ c.args.bits / 8 =
    subst (λ x. x * ((c.args.raised - 17 * n) / (8 * n)) ≤ c.args.bits / 8) c.from-channels.ensures
    (subst (λ x. c.from-channels.result * (x / (8 * n)) ≤ c.args.bits / 8) c.saturating_sub.ensures c.if-channels-fine.false) in
    c.min-2.ensures
    ∙ ap (λ x. min (x / (8 * n)) 8) c.saturating_sub.ensures
    ∙ fine_else c.args.kind.channels n c.args.raised c.args.bits fits
