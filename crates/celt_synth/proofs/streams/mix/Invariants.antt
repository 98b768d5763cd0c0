use Rattle.celt_synth.proofs.StreamLemmas.{Mixing}
use Rattle.celt_synth.proofs.streams.mix.Given as goal

abbrev pub invariant-loop-p : goal.invariant-loop-p
invariant-loop-p l = Mixing l.fn.left l.right l.left l.p
