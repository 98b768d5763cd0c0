use Rattle.celt_synth.proofs.StepLemmas.{off_is}
use Rattle.celt_encode.proofs.EncoderSteps.{new_is}
use Rattle.celt_encode.proofs.encoder.Encoder.new.Goals as goal

pub returns-in-Ok : goal.returns-in-Ok
returns-in-Ok c =
    let s = c.start.ensures in
    new_is c.args.kind _ _ _ _ _ s.range s.energies s.seed (off_is _ s.before) (off_is _ s.now)
