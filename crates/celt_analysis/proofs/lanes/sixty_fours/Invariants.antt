use Rattle.std.proofs.Common.{◌≡◌, ◌*◌}
use Rattle.std.specs.Int.{w32, int_wrap}
use Rattle.fixed_math.specs.Items.{item}
use Rattle.celt_analysis.specs.Sums.{correlation}
use Rattle.celt_analysis.proofs.lanes.sixty_fours.Given as goal

abbrev pub invariant-loop-k : goal.invariant-loop-k
invariant-loop-k l = l.sum ≡ int_wrap w32 (correlation (item l.s) (item l.s) l.i l.j (64 * l.k))
