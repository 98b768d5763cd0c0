use Rattle.std.proofs.Common.{arith, sym, ◌∙◌}
use Rattle.celt_tables.proofs.Entries.{window_most}
use Rattle.post_filter.proofs.TapLemmas.{fade_inside}
use Rattle.post_filter.proofs.taps.fade_at.Goals as goal

pub share_of-requires-clause-first : goal.share_of-requires-clause-first
share_of-requires-clause-first c = omega (arith, window_most c.args.i c.requires)

pub share_of-requires-clause-second : goal.share_of-requires-clause-second
share_of-requires-clause-second c = omega (arith, window_most c.args.i c.requires)

pub returns-clause-value : goal.returns-clause-value
returns-clause-value c = c.share_of.ensures.value ∙ sym (fade_inside c.args.i c.requires)

pub returns-clause-size : goal.returns-clause-size
returns-clause-size c = omega (arith, window_most c.args.i c.requires, c.share_of.ensures.size)
