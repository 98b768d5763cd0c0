use Rattle.std.proofs.Common.{refl}
use Rattle.bit_allocation.specs.Shares.{share_of}
use Rattle.bit_allocation.proofs.SplitLemmas.{share_within}
use Rattle.bit_allocation.proofs.splitting.share.Goals as goal

pub returns-clause-value : goal.returns-clause-value
unfolding share_of
returns-clause-value c = rw (c.min.ensures, c.saturating_sub-beyond.ensures, c.edge-all.ensures, c.edge.ensures, c.width-wide.ensures.value) refl

pub returns-clause-within : goal.returns-clause-within
returns-clause-within c =
    let w = share_within c.args.bits c.args.left c.args.coded c.args.band c.requires.band c.requires.coded in
    rw (returns-clause-value c) w
