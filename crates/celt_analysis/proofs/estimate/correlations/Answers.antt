use Rattle.std.proofs.Common.{◌≡◌, ℕ, ◌+◌, ◌-◌, ◌*◌, ◌<◌, ◌≤◌, inl, inr, refl, sym, ap, subst, arith, ◌∙◌}
use Rattle.std.specs.Prelude.{ℤ, unsigned_abs}
use Rattle.std.specs.Int.{w32, int_wrap}
use Rattle.std.proofs.lemmas.Nat.{mul-le}
use Rattle.std.proofs.lemmas.Bool.{cases_lt}
use Rattle.fixed_math.specs.Items.{item}
use Rattle.celt_analysis.specs.Sums.{correlation}
use Rattle.celt_analysis.proofs.EstimateLemmas.{wrapped-exact}
use Rattle.celt_analysis.proofs.SumLemmas.{correlation-moved}
use Rattle.celt_analysis.proofs.estimate.correlations.Goals as goal

pub loop-b-init : goal.loop-b-init
loop-b-init c = record {
  items = λ t p. absurd (omega arith);
  kept = λ k p. refl;
  s_length = c.requires.s_length;
  out_length = c.requires.length;
}

pub correlate-requires-clause-sizes : goal.correlate-requires-clause-sizes
correlate-requires-clause-sizes c = λ i p.
    let h : ℕ = c.blocks_for-run.result.places in
    let k : unsigned_abs (item c.loop-b.s i) ≤ 1448 = subst (λ z. unsigned_abs z ≤ 1448) (sym (c.loop-b.invariant.kept i p)) (c.requires.sizes i) in
    let m : unsigned_abs (item c.loop-b.s i) * h ≤ 1448 * 1024 = mul-le (unsigned_abs (item c.loop-b.s i)) h 1448 1024 k c.blocks_for-run.ensures.most in
    omega arith

pub loop-b-preserved : goal.loop-b-preserved
loop-b-preserved c =
    let h : ℕ = c.blocks_for-run.result.places in
    let at : ℕ = c.loop-b.b * h in
    let s0 : ℕ → ℤ = item c.args.s.now in
    let s : ℕ → ℤ = item c.loop-b.s in
    let j = c.loop-b.invariant in
    let r = c.correlate.ensures in
    let end : (c.loop-b.b + 1) * h ≤ c.blocks_for-run.result.count * h = mul-le (c.loop-b.b + 1) h c.blocks_for-run.result.count h (omega arith) (omega arith) in
    let room : at + h ≤ 1024 = omega (arith, c.blocks_for-run.ensures.whole) in
    let most : h ≤ 1024 = c.blocks_for-run.ensures.most in
    let moved : (t : ℕ) → t < h → correlation s s (at + t) 2048 h ≡ correlation s0 s0 (at + t) 2048 h = λ t p. correlation-moved s s s0 s0 (at + t) 2048 (at + t) 2048 h (λ i q. j.kept (at + t + i) (omega arith)) (λ i q. j.kept (2048 + i) (omega arith)) in
    record {
      items = λ t p. (elim (cases_lt t at) [
        | inl q ↦ r.below t q ∙ j.items t q
        | inr q ↦ (let e : at + (t - at) ≡ t = omega arith in
            let l : t - at < h = omega arith in
            subst (λ k. item c.correlate.new.out k ≡ int_wrap w32 (correlation s0 s0 k 2048 h)) e (r.items (t - at) l ∙ ap (int_wrap w32) (moved (t - at) l)))
      ]);
      kept = λ k p. r.kept k p ∙ j.kept k p;
      s_length = r.s_length ∙ j.s_length;
      out_length = r.length ∙ j.out_length;
    }

pub returns-clause-items : goal.returns-clause-items
returns-clause-items c = λ t p.
    let h : ℕ = c.blocks_for-run.result.places in
    let b : c.loop-b.b ≡ c.blocks_for-run.result.count = omega (arith, c.loop-b.auto) in
    let e : c.loop-b.b * h ≡ 1024 = ap (λ k. k * h) b ∙ c.blocks_for-run.ensures.whole in
    let q : t < c.loop-b.b * h = omega arith in
    c.loop-b.invariant.items t q ∙ wrapped-exact (item c.args.s.now) t 2048 h c.args.n c.blocks_for-run.ensures.enough c.blocks_for-run.ensures.most c.requires.sizes (λ i l m. c.requires.ahead i l (omega (arith, c.blocks_for-run.ensures.most)))
