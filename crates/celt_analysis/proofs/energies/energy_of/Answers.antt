use Rattle.std.proofs.Common.{◌≡◌, ℕ, ◌+◌, arith, rules, List}
use Rattle.std.specs.Prelude.{ℤ, FitsSigned}
use Rattle.std.specs.Int.{w64}
use Rattle.std.proofs.lemmas.Int.{to_z-of_z}
use Rattle.fixed_math.specs.Items.{item}
use Rattle.celt_analysis.specs.Sums.{squared}
use Rattle.celt_analysis.proofs.TransientLemmas.{energy_none, energy_next}
use Rattle.celt_analysis.proofs.energies.energy_of.Goals as goal

pub loop-i-init : goal.loop-i-init
loop-i-init c = record {
  value = energy_none (item c.args.spectrum.now) c.args.from;
  size = omega arith;
}

pub loop-i-preserved : goal.loop-i-preserved
loop-i-preserved c =
    let v : List ℤ = c.args.spectrum.now in
    let a : ℕ = c.args.from in
    let t : ℕ = c.loop-i.i in
    let x : ℤ = item v (a + t) in
    let fx : FitsSigned w64 x = search rules in
    let e : c.square-sum.result ≡ squared x = simp to_z-of_z at c.square-sum.ensures.value in
    record {
      value = energy_next (item v) a t c.loop-i.sum c.square-sum.result c.loop-i.invariant.value e;
      size = omega (arith, c.loop-i.invariant.size, c.square-sum.ensures.size);
    }
