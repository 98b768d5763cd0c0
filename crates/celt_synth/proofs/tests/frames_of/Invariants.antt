use Rattle.std.specs.Prelude.{◌≡◌}
use Rattle.celt_synth.proofs.tests.frames_of.Given as goal

abbrev pub invariant-loop-k : goal.invariant-loop-k
invariant-loop-k l = l.channels ≡ l.decoder.channels
