use Rattle.std.specs.Prelude.{None, Some}
use Rattle.frame_symbols.proofs.FrameSteps.{silent_walked, frame_walked}
use Rattle.frame_symbols.proofs.frame.walk_frame.Goals as goal

pub returns-then-ask_bit-clause-walked : goal.returns-then-ask_bit-clause-walked
returns-then-ask_bit-clause-walked g c =
    record { value = None; walked = silent_walked c.args.kind c.args.len c.ask_bit.result c.if-ask_bit.true c.ask_bit.ensures.walked; holds = record { silent = c.silence.ensures.silent; blank = c.silence.ensures.blank } }

pub returns-clause-walked : goal.returns-clause-walked
returns-clause-walked g c =
    let w = c.walk_sound.ensures.walked in
    record {
      value = Some w.sound;
      walked = frame_walked c.args.kind c.args.len c.ask_bit.result w.sound c.if-ask_bit.false c.ask_bit.ensures.walked w.walked;
      holds = w.holds c.walk_sound.ensures.silent;
    }
