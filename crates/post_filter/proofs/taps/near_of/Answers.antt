use Rattle.std.proofs.Common.{refl}
use Rattle.post_filter.specs.Comb.{near_tap}
use Rattle.post_filter.proofs.TapLemmas.{near_third}
use Rattle.post_filter.proofs.taps.near_of.Goals as goal

pub returns-then-tapset-eq0-clause-value : goal.returns-then-tapset-eq0-clause-value
unfolding near_tap
returns-then-tapset-eq0-clause-value c = rw c.if-tapset-eq0.true refl

pub returns-then-tapset-eq1-clause-value : goal.returns-then-tapset-eq1-clause-value
unfolding near_tap
returns-then-tapset-eq1-clause-value c = rw c.if-tapset-eq1.true refl

pub returns-else-tapset-eq1-clause-value : goal.returns-else-tapset-eq1-clause-value
returns-else-tapset-eq1-clause-value c = near_third c.args.tapset c.if-tapset-eq0.false c.if-tapset-eq1.false
