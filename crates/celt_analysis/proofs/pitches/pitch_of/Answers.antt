use Rattle.std.proofs.Common.{◌≡◌, ℕ, ◌*◌, ◌<◌, refl, sym, ap, arith, ◌∙◌}
use Rattle.std.specs.Prelude.{ℤ}
use Rattle.fixed_math.specs.Items.{item}
use Rattle.celt_analysis.specs.Pitch.{correlations, energies, gain_steps}
use Rattle.celt_analysis.proofs.PitchLemmas.{gain-none, gain-found, pitch-off, pitch-on, best-carried}
use Rattle.celt_analysis.proofs.pitches.pitch_of.Goals as goal

pub returns-then-i-eq-LAGS : goal.returns-then-i-eq-LAGS
returns-then-i-eq-LAGS c =
    let s : ℕ → ℤ = item c.args.d.now in
    let n : ℕ = c.args.n in
    let b = best-carried s _ n _ c.best-i.result c.estimate_all-e.ensures.n c.all_energies-own.ensures.own c.best-i.ensures in
    pitch-off s 1022 n _ (gain-none s 1022 n c.best-i.result (omega arith) b) refl refl refl

pub returns-then-k-eq0 : goal.returns-then-k-eq0
returns-then-k-eq0 c =
    let s : ℕ → ℤ = item c.args.d.now in
    let n : ℕ = c.args.n in
    let r : ℕ = c.best-i.result in
    let b = best-carried s _ n _ r c.estimate_all-e.ensures.n c.all_energies-own.ensures.own c.best-i.ensures in
    let p : r < 1008 = omega (arith, b.high) in
    let g = gain-found s 1022 n r p b in
    let k : c.gain_of-k.result ≡ gain_steps (correlations s 1022 n r) (energies s 1022 n r) 8 = c.gain_of-k.ensures.value ∙ ap (λ m. gain_steps (correlations s 1022 m r) (energies s 1022 m r) 8) c.estimate_all-e.ensures.n in
    let z : c.gain_of-k.result ≡ 0 = omega arith in
    pitch-off s 1022 n _ (g.1 ∙ ap (λ m. 3072 * m) (sym k ∙ z)) refl refl refl

pub returns : goal.returns
returns c =
    let s : ℕ → ℤ = item c.args.d.now in
    let n : ℕ = c.args.n in
    let r : ℕ = c.best-i.result in
    let b = best-carried s _ n _ r c.estimate_all-e.ensures.n c.all_energies-own.ensures.own c.best-i.ensures in
    let p : r < 1008 = omega (arith, b.high) in
    let g = gain-found s 1022 n r p b in
    let k : c.gain_of-k.result ≡ gain_steps (correlations s 1022 n r) (energies s 1022 n r) 8 = c.gain_of-k.ensures.value ∙ ap (λ m. gain_steps (correlations s 1022 m r) (energies s 1022 m r) 8) c.estimate_all-e.ensures.n in
    pitch-on s 1022 n r c.gain_of-k.result _ g.0 (g.1 ∙ ap (λ m. 3072 * m) (sym k)) (omega arith) refl refl refl
