use Rattle.std.proofs.Common.{ℕ, ◌<◌, arith}
use Rattle.fixed_math.specs.Items.{item}
use Rattle.celt_analysis.specs.Pitch.{correlations, energies}
use Rattle.celt_analysis.proofs.SearchLemmas.{best-first, best-next, next-of-equal, met-next, searched, not-found}
use Rattle.celt_analysis.proofs.search.best_from.Goals as goal

pub returns-then-place-eq-LAGS : goal.returns-then-place-eq-LAGS
returns-then-place-eq-LAGS c =
    not-found (correlations (item c.args.d.now) 1022 c.args.e.n) (energies (item c.args.d.now) 1022 c.args.e.n) c.args.ratio.square c.args.ratio.energy 1008 c.next_reaching-place.result (omega arith) (next-of-equal (correlations (item c.args.d.now) 1022 c.args.e.n) (energies (item c.args.d.now) 1022 c.args.e.n) c.args.ratio.square c.args.ratio.energy 1008 c.next_reaching-place.result c.args.ratio.slack c.requires.slack c.next_reaching-place.ensures)

pub loop-next-init : goal.loop-next-init
loop-next-init c =
    let m = correlations (item c.args.d.now) 1022 c.args.e.n in
    let e = energies (item c.args.d.now) 1022 c.args.e.n in
    let r : ℕ = c.next_reaching-place.result in
    let first = next-of-equal (correlations (item c.args.d.now) 1022 c.args.e.n) (energies (item c.args.d.now) 1022 c.args.e.n) c.args.ratio.square c.args.ratio.energy 1008 c.next_reaching-place.result c.args.ratio.slack c.requires.slack c.next_reaching-place.ensures in
    let p : r < 1008 = omega (arith, first.high) in
    record {
      best = best-first m e c.args.ratio.square c.args.ratio.energy 1008 r first p;
      next = c.next_better-next.ensures;
      met = first.met p;
    }

pub loop-next-preserved : goal.loop-next-preserved
loop-next-preserved c =
    let m = correlations (item c.args.d.now) 1022 c.args.e.n in
    let e = energies (item c.args.d.now) 1022 c.args.e.n in
    let i = c.loop-next.invariant in
    record {
      best = best-next m e 1008 c.loop-next.place c.loop-next.next i.best i.next c.loop-next-test.true;
      next = c.next_better-next-in-loop-next.ensures;
      met = met-next m e c.args.ratio.square c.args.ratio.energy 1008 c.loop-next.place c.loop-next.next i.met i.next c.loop-next-test.true;
    }

pub returns : goal.returns
returns c =
    let i = c.loop-next.invariant in
    searched (correlations (item c.args.d.now) 1022 c.args.e.n) (energies (item c.args.d.now) 1022 c.args.e.n) c.args.ratio.square c.args.ratio.energy 1008 c.loop-next.place c.loop-next.next i.best i.next i.met (omega arith)
