use Rattle.std.specs.Prelude.{pos}
use Rattle.post_filter.specs.Samples.{ArePut}
use Rattle.post_filter.proofs.conversion.put_alternate.Given as goal

abbrev pub invariant-loop-i : goal.invariant-loop-i
invariant-loop-i l = ArePut (pos 0) l.x l.start 2 l.i l.fn.out l.out
