use Rattle.std.proofs.Common.{◌∙◌, ap, sym}
use Rattle.bit_allocation.specs.Shares.{topped}
use Rattle.bit_allocation.proofs.SplitLemmas.{one_split, many_split}
use Rattle.bit_allocation.proofs.splitting.coded_split.Goals as goal

pub returns-then-size-eq1 : goal.returns-then-size-eq1
returns-then-size-eq1 c =
    let k = c.args.bands.now.request.kind in
    c.topped.ensures
    ∙ ap (topped k c.args.before) c.single_split.ensures.value
    ∙ one_split k c.args.stereo c.args.band c.args.bits c.args.before (sym c.size.ensures.value ∙ c.if-size-eq1.true)

pub returns : goal.returns
returns c =
    let k = c.args.bands.now.request.kind in
    c.topped-2.ensures
    ∙ ap (topped k c.args.before) c.wide_split.ensures.value
    ∙ many_split k c.args.stereo c.args.band c.args.bits c.args.before (λ e. c.if-size-eq1.false (c.size.ensures.value ∙ e))
