use Rattle.celt_encode.proofs.UnitLemmas.{whole_or_none}
use Rattle.celt_encode.proofs.spreads.spread.Goals as goal

pub counts_of-left-requires-clause-count : goal.counts_of-left-requires-clause-count
counts_of-left-requires-clause-count c = whole_or_none c.args.a.now.kind c.args.kind 0 c.spectrum.result.now c.requires c.spectrum.ensures.count

pub counts_of-right-requires-clause-count : goal.counts_of-right-requires-clause-count
counts_of-right-requires-clause-count c = whole_or_none c.args.a.now.kind c.args.kind 1 c.spectrum-2.result.now c.requires c.spectrum-2.ensures.count
