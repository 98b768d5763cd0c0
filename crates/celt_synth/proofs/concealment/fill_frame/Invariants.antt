use Rattle.celt_synth.specs.Concealment.{AreNoise}
use Rattle.celt_synth.proofs.concealment.fill_frame.Given as goal

abbrev pub invariant-loop-band : goal.invariant-loop-band
invariant-loop-band l = AreNoise l.kind l.band l.fn.seed l.left l.right l.state
