use Rattle.std.proofs.Common.{◌∙◌, ◌-◌, ap}
use Rattle.std.specs.Prelude.{min}
use Rattle.bit_allocation.specs.Shares.{single_split}
use Rattle.bit_allocation.proofs.SplitLemmas.{single_with}
use Rattle.bit_allocation.proofs.splitting.single_split.Goals as goal

pub returns-clause-value : goal.returns-clause-value
unfolding single_split
returns-clause-value c =
    ap (λ k. single_with k c.saturating_sub.result) c.min.ensures
    ∙ ap (single_with (min c.args.bits c.each-bit.result)) c.saturating_sub.ensures
    ∙ ap (λ n. single_with (min c.args.bits n) (c.args.bits - n)) c.each-bit.ensures.value
