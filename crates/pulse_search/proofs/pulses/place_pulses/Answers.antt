use Rattle.std.proofs.Common.{◌≡◌, ℕ, ◌+◌, ◌*◌, ◌<◌, ◌^◌, arith, sym, ap, ◌∙◌, List, length}
use Rattle.std.specs.Prelude.{replicate, slice_index}
use Rattle.std.proofs.lemmas.Bool.{ltb-true}
use Rattle.pulse_search.specs.Pulses.{dot, best_place, one_more, pulses_by}
use Rattle.pulse_search.proofs.PulseSteps.{total, item-le-total, pulses-length, pulses-total, pulses-start, pulses-next, dot-zeros, dot-more, energy-more, best-found, correlations_within, energies_within, narrow_within}
use Rattle.pulse_search.proofs.pulses.place_pulses.Goals as goal

pub loop-init : goal.loop-init
loop-init c =
    let xs : List ℕ = c.args.sizes.now in
    let z = c.requires.zeros in
    record {
      pulses = z ∙ pulses-start xs;
      correlation = sym (ap (dot xs) z ∙ dot-zeros xs (length xs));
      energy = sym (ap (λ ys. dot ys ys) z ∙ dot-zeros (replicate (length xs) 0) (length xs));
    }

pub best-place-requires-clause-correlations : goal.best-place-requires-clause-correlations
best-place-requires-clause-correlations c =
    let xs : List ℕ = c.args.sizes.now in
    let ys : List ℕ = c.loop.pulses in
    let n : ℕ = c.loop.counter in
    let t : total ys ≡ n = ap total c.loop.invariant.pulses ∙ pulses-total xs n (omega (arith, c.requires.count.0)) in
    correlations_within xs ys n t (omega arith) c.requires.sizes

pub best-place-requires-clause-energies : goal.best-place-requires-clause-energies
best-place-requires-clause-energies c =
    let xs : List ℕ = c.args.sizes.now in
    let ys : List ℕ = c.loop.pulses in
    let n : ℕ = c.loop.counter in
    let t : total ys ≡ n = ap total c.loop.invariant.pulses ∙ pulses-total xs n (omega (arith, c.requires.count.0)) in
    energies_within ys n t (omega arith)

pub best-place-requires-clause-narrow : goal.best-place-requires-clause-narrow
best-place-requires-clause-narrow c =
    let xs : List ℕ = c.args.sizes.now in
    let ys : List ℕ = c.loop.pulses in
    let n : ℕ = c.loop.counter in
    let t : total ys ≡ n = ap total c.loop.invariant.pulses ∙ pulses-total xs n (omega (arith, c.requires.count.0)) in
    λ b i j p q.
    let s = ltb-true _ _ b in
    let r : c.args.k * c.args.k * c.largest.result < 2 ^ 32 = omega arith in
    narrow_within xs ys n c.args.k c.largest.result t (omega arith) c.largest.ensures.bound r i j

pub with_pulse-sums-requires-clause-correlation : goal.with_pulse-sums-requires-clause-correlation
with_pulse-sums-requires-clause-correlation c =
    let xs : List ℕ = c.args.sizes.now in
    let ys : List ℕ = c.loop.pulses in
    let n : ℕ = c.loop.counter in
    let t : total ys ≡ n = ap total c.loop.invariant.pulses ∙ pulses-total xs n (omega (arith, c.requires.count.0)) in
    omega (arith, c.loop.invariant.correlation, correlations_within xs ys n t (omega arith) c.requires.sizes c.best-place.result 0 c.best-place.ensures.within)

pub with_pulse-sums-requires-clause-energy : goal.with_pulse-sums-requires-clause-energy
with_pulse-sums-requires-clause-energy c =
    let xs : List ℕ = c.args.sizes.now in
    let ys : List ℕ = c.loop.pulses in
    let n : ℕ = c.loop.counter in
    let t : total ys ≡ n = ap total c.loop.invariant.pulses ∙ pulses-total xs n (omega (arith, c.requires.count.0)) in
    let l : length ys ≡ length xs = ap length c.loop.invariant.pulses ∙ pulses-length xs n in
    let p : c.best-place.result < length ys = omega (arith, c.best-place.ensures.within) in
    omega (arith, c.loop.invariant.energy, energies_within ys n t (omega arith) c.best-place.result 0 p)

pub overflow_add-pulses : goal.overflow_add-pulses
overflow_add-pulses c =
    let xs : List ℕ = c.args.sizes.now in
    let ys : List ℕ = c.loop.pulses in
    let n : ℕ = c.loop.counter in
    let t : total ys ≡ n = ap total c.loop.invariant.pulses ∙ pulses-total xs n (omega (arith, c.requires.count.0)) in
    omega (arith, item-le-total ys c.best-place.result)

pub loop-preserved : goal.loop-preserved
loop-preserved c =
    let xs : List ℕ = c.args.sizes.now in
    let ys : List ℕ = c.loop.pulses in
    let n : ℕ = c.loop.counter in
    let j : ℕ = c.best-place.result in
    let i = c.loop.invariant in
    let l : length ys ≡ length xs = ap length i.pulses ∙ pulses-length xs n in
    let e : j ≡ best_place xs (pulses_by xs n) = best-found xs ys j c.best-place.ensures ∙ ap (best_place xs) i.pulses in
    record {
      pulses = ap (λ zs. one_more zs j) i.pulses ∙ pulses-next xs n j e;
      correlation = c.with_pulse-sums.ensures.correlation ∙ ap (λ r. r + slice_index xs j) i.correlation ∙ sym (dot-more xs ys j l c.best-place.ensures.within);
      energy = c.with_pulse-sums.ensures.energy ∙ ap (λ q. q + (2 * slice_index ys j + 1)) i.energy ∙ sym (energy-more ys j (omega (arith, c.best-place.ensures.within)));
    }
