use Rattle.std.specs.Prelude.{suc}
use Rattle.fixed_math.specs.Items.{item}
use Rattle.spread_fold.specs.Noise.{seed_after, folded_item}
use Rattle.spread_fold.proofs.NoiseLemmas.{Filled}
use Rattle.spread_fold.proofs.noise_items.fold.Given as goal

-- the first items are folded
abbrev pub invariant-loop-i : goal.invariant-loop-i
invariant-loop-i l = Filled l.i l.fn.seed l.state (λ j. folded_item (seed_after (suc j) l.fn.seed) (item l.source j)) l.out
