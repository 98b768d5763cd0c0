use Rattle.std.proofs.Common.{length}
use Rattle.celt_analysis.proofs.SignalLemmas.{copied_values, copied_sizes}
use Rattle.celt_analysis.proofs.prefilter.filter_from.Goals as goal

pub returns-then-are_off-clause-value : goal.returns-then-are_off-clause-value
returns-then-are_off-clause-value c =
    let off = c.are_off.ensures c.if-are_off.true in
    copied_values c.args.from c.args.to c.args.fade c.args.p.now c.args.at (length c.args.out.now) c.copy_from.new.out off.0 off.1 c.requires.start c.requires.room c.copy_from.ensures

pub returns-then-are_off-clause-sizes : goal.returns-then-are_off-clause-sizes
returns-then-are_off-clause-sizes c = copied_sizes c.args.p.now c.args.at (length c.args.out.now) c.copy_from.new.out c.copy_from.ensures c.requires.values
