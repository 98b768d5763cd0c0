use Rattle.std.proofs.Common.{ℕ, refl}
use Rattle.celt_analysis.specs.Transients.{energies_in, rises_within}
use Rattle.celt_analysis.proofs.TransientLemmas.{found_next}
use Rattle.celt_analysis.proofs.transients.rises.Goals as goal

pub loop-b-init : goal.loop-b-init
unfolding rises_within
loop-b-init c = record {
  found = refl;
  before = c.energies_of-before.ensures.value;
  size = c.energies_of-before.ensures.size;
}

pub loop-b-preserved : goal.loop-b-preserved
loop-b-preserved c =
    let e : ℕ → ℕ = energies_in c.args.stereo c.args.left.now c.args.right.now in
    let b : ℕ = c.loop-b.b in
    record {
      found = found_next e b c.loop-b.found c.loop-b.before c.energies_of-next.result c.found_rise-found.result c.loop-b.invariant.found c.loop-b.invariant.before c.energies_of-next.ensures.value c.found_rise-found.ensures;
      before = c.energies_of-next.ensures.value;
      size = c.energies_of-next.ensures.size;
    }
