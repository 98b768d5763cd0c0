use Rattle.std.proofs.Common.{refl}
use Rattle.post_filter.specs.Comb.{far_tap}
use Rattle.post_filter.proofs.TapLemmas.{far_later}
use Rattle.post_filter.proofs.taps.far_of.Goals as goal

pub returns-then-tapset-eq0-clause-value : goal.returns-then-tapset-eq0-clause-value
unfolding far_tap
returns-then-tapset-eq0-clause-value c = rw c.if-tapset-eq0.true refl

pub returns-else-tapset-eq0-clause-value : goal.returns-else-tapset-eq0-clause-value
returns-else-tapset-eq0-clause-value c = far_later c.args.tapset c.if-tapset-eq0.false
