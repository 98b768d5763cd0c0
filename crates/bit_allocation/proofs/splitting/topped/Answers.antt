use Rattle.std.proofs.Common.{◌∙◌, ◌-◌, ◌/◌, ap}
use Rattle.std.specs.Prelude.{min}
use Rattle.bit_allocation.proofs.SplitLemmas.{topped_with, topped_none, topped_some}
use Rattle.bit_allocation.proofs.splitting.topped.Goals as goal

pub returns-then-split-eq0 : goal.returns-then-split-eq0
returns-then-split-eq0 c = topped_none c.args.kind c.args.before c.args.split c.if-split-eq0.true

pub returns : goal.returns
returns c =
    ap (topped_with c.each-bit.result c.args.before c.args.split) c.min-more.ensures
    ∙ ap (λ n. topped_with n c.args.before c.args.split (min (c.args.split.balance / n) (8 - c.args.split.fine))) c.each-bit.ensures.value
    ∙ topped_some c.args.kind c.args.before c.args.split c.if-split-eq0.false
