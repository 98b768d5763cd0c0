use Rattle.std.specs.Prelude.{true, false}
use Rattle.fixed_math.specs.Items.{item}
use Rattle.spread_fold.specs.Stereo.{channel_item}
use Rattle.spread_fold.proofs.StereoLemmas.{Summed}
use Rattle.spread_fold.proofs.stereo.energies_of.Given as goal

-- the first squares are added
abbrev pub invariant-loop-i : goal.invariant-loop-i
invariant-loop-i l = record {
  lefts : Summed l.i l.left (λ j. channel_item l.mid false (item l.x j) (item l.y j));
  rights : Summed l.i l.right (λ j. channel_item l.mid true (item l.x j) (item l.y j));
}
