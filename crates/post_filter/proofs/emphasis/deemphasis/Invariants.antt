use Rattle.std.specs.Prelude.{◌*◌}
use Rattle.post_filter.proofs.DeemphasisLemmas.{Filtered}
use Rattle.post_filter.proofs.emphasis.deemphasis.Given as goal

abbrev pub invariant-loop-four : goal.invariant-loop-four
invariant-loop-four l = Filtered l.fn.memory l.fn.x l.x (4 * l.four) l.y

abbrev pub invariant-loop-i : goal.invariant-loop-i
invariant-loop-i l = Filtered l.fn.memory l.fn.x l.x l.i l.y
