use Rattle.std.proofs.Common.{◌≡◌, ◌+◌, ◌-◌, ◌*◌, true}
use Rattle.fixed_math.specs.Items.{item}
use Rattle.celt_analysis.specs.Pitch.{correlations, energies}
use Rattle.celt_analysis.specs.Search.{reaches, IsNext, IsBest}
use Rattle.celt_analysis.proofs.search.best_from.Given as goal

-- the place is the best so far, and next is the first that is better
abbrev pub invariant-loop-next : goal.invariant-loop-next
invariant-loop-next l =
    let c = correlations (item l.d) 1022 l.e.n in
    let e = energies (item l.d) 1022 l.e.n in
    record {
      best : IsBest c e (l.place + 1) l.place;
      next : IsNext c e 0 (c l.place * c l.place) (e l.place) (l.place + 1) 1008 l.next;
      met : reaches 1 l.fn.ratio.square l.fn.ratio.energy (c l.place) (e l.place) ≡ true;
    }

abbrev pub decreases-loop-next : goal.decreases-loop-next
decreases-loop-next l = 1008 - l.next
