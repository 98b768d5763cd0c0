use Rattle.std.proofs.Common.{◌≡◌, ℕ, ◌+◌, ◌*◌, arith, rules, subst, List}
use Rattle.std.specs.Prelude.{ℤ, FitsSigned}
use Rattle.std.specs.Int.{int_shr, w64}
use Rattle.std.proofs.lemmas.Int.{to_z-of_z}
use Rattle.fixed_math.specs.Items.{item}
use Rattle.celt_analysis.specs.Sums.{energy, squared}
use Rattle.celt_analysis.specs.Transients.{block_energy}
use Rattle.celt_analysis.proofs.TransientLemmas.{energy_none, energy_next}
use Rattle.celt_analysis.proofs.transients.energy_of.Goals as goal

pub loop-t-init : goal.loop-t-init
loop-t-init c = record {
  value = energy_none (λ t. int_shr (item c.args.values.now t) 12) (120 * c.args.b);
  size = omega arith;
}

pub loop-t-preserved : goal.loop-t-preserved
loop-t-preserved c =
    let v : List ℤ = c.args.values.now in
    let a : ℕ = 120 * c.args.b in
    let t : ℕ = c.loop-t.t in
    let x : ℤ = item v (a + t) in
    let fx : FitsSigned w64 x = search rules in
    let e : c.square-sum.result ≡ squared (int_shr x 12) = simp to_z-of_z at c.square-sum.ensures.value in
    record {
      value = energy_next (λ k. int_shr (item v k) 12) a t c.loop-t.sum c.square-sum.result c.loop-t.invariant.value e;
      size = omega (arith, c.loop-t.invariant.size, c.square-sum.ensures.size);
    }

pub returns-clause-value : goal.returns-clause-value
unfolding block_energy
returns-clause-value c =
    let last : c.loop-t.t ≡ 120 = omega (arith, c.loop-t-test.false, c.loop-t.auto.t-end) in
    subst (λ k. c.loop-t.sum ≡ energy (λ t. int_shr (item c.args.values.now t) 12) (120 * c.args.b) k) last c.loop-t.invariant.value
