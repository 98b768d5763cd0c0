use Rattle.std.specs.Prelude.{suc}
use Rattle.spread_fold.specs.Noise.{seed_after, noise_item}
use Rattle.spread_fold.proofs.NoiseLemmas.{Filled}
use Rattle.spread_fold.proofs.noise_items.noise_fill.Given as goal

-- the first items are noise
abbrev pub invariant-loop-i : goal.invariant-loop-i
invariant-loop-i l = Filled l.i l.fn.seed l.state (λ j. noise_item (seed_after (suc j) l.fn.seed)) l.out
