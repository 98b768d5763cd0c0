use Rattle.std.proofs.Common.{◌≡◌, ℕ, ◌+◌, ◌-◌, ◌*◌, ◌/◌, ◌^◌, ◌<◌, ◌≤◌, inl, inr, sym, ap, subst, arith, rules, ◌∙◌}
use Rattle.std.specs.Prelude.{ℤ, pos, unsigned_abs, FitsSigned}
use Rattle.std.specs.Int.{w32, w64}
use Rattle.std.proofs.lemmas.Int.{to_z-of_z}
use Rattle.fixed_math.specs.Items.{item}
use Rattle.celt_analysis.specs.Sums.{magnitude}
use Rattle.celt_analysis.proofs.EstimateLemmas.{cut_of, near-over}
use Rattle.celt_analysis.proofs.PlaceLemmas.{item-zeros}
use Rattle.celt_analysis.proofs.estimate.estimate_all.Goals as goal

pub quantize-requires-clause-old_sizes : goal.quantize-requires-clause-old_sizes
quantize-requires-clause-old_sizes c = λ i. subst (λ z. unsigned_abs z ≤ 1448) (sym (item-zeros 8192 i)) (omega arith)

pub correlations-requires-clause-ahead : goal.correlations-requires-clause-ahead
correlations-requires-clause-ahead c = λ i p q. c.quantize-2.ensures.others (2048 + i) (inr (omega arith)) ∙ c.quantize.ensures.others (2048 + i) (inr (omega (arith, c.requires.count))) ∙ item-zeros 8192 (2048 + i)

pub returns-clause-near : goal.returns-clause-near
returns-clause-near c = λ i p.
    let s : ℕ → ℤ = item c.args.d.now in
    let x1 : ℕ → ℤ = item c.quantize.new.s in
    let x : ℕ → ℤ = item c.quantize-2.new.s in
    let t = c.quantizer_for-q.result in
    let n : ℕ = c.args.n in
    let k : ℕ = t.shift in
    let all : ℕ = magnitude s 1022 n + magnitude s 0 (1022 + n) in
    let fh : FitsSigned w32 t.half = search rules in
    let h : c.unsigned_abs.result ≡ unsigned_abs t.half = simp to_z-of_z at c.unsigned_abs.ensures.value in
    let eh : c.unsigned_abs.result ≡ 2 ^ k / 2 = h ∙ ap unsigned_abs c.quantizer_for-q.ensures.half in
    let ep : c.error_of.result ≡ pos (2 ^ k / 2 * all + n * (2 ^ k / 2 * (2 ^ k / 2))) = c.error_of.ensures.value ∙ ap (λ u. pos (u * all + n * (u * u))) eh in
    let first : (j : ℕ) → j < 1022 + n → x j ≡ cut_of k (s j) = λ j q.
    let plain : 0 + j ≡ j = omega arith in
    c.quantize-2.ensures.others j (inl (omega (arith, c.requires.count))) ∙ subst (λ m. x1 m ≡ cut_of k (s m)) plain (c.quantize.ensures.items j q) in
    let fs : FitsSigned w64 t.scale = search rules in
    let fe : FitsSigned w64 c.error_of.result = search rules in
    simp to_z-of_z (near-over s x k n i (item c.correlations.new.out (1022 - (15 + i))) t.scale c.error_of.result p c.quantizer_for-q.ensures.scale ep (c.correlations.ensures.items (1022 - (15 + i)) (omega arith)) first c.quantize-2.ensures.items)
