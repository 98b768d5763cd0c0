use Rattle.std.proofs.Common.{ap, ◌/◌}
use Rattle.bit_allocation.specs.Shares.{skipped_split}
use Rattle.bit_allocation.proofs.SplitLemmas.{skipped_with}
use Rattle.bit_allocation.proofs.splitting.skipped_split.Goals as goal

pub returns : goal.returns
unfolding skipped_split
returns c = ap (λ n. skipped_with (c.args.bits / n) c.args.before) c.each.ensures.value
