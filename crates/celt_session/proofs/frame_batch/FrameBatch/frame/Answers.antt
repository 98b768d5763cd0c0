use Rattle.std.proofs.Common.{ap}
use Rattle.std.specs.Prelude.{slice_range}
use Rattle.celt_session.proofs.Gathering.{held_frame}
use Rattle.celt_session.proofs.frame_batch.FrameBatch.frame.Goals as goal

pub returns : goal.returns
returns c =
    let slot = c.index-slot.result.now in
    held_frame c.args.self.now c.args.i slot (slice_range c.deref.result.now slot.from slot.to) c.requires.rooms c.requires.read c.requires.inside c.index-slot.ensures
    (ap (λ l. slice_range l slot.from slot.to) c.deref.ensures.value)
