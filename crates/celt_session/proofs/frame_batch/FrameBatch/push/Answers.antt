use Rattle.std.proofs.Common.{◌+◌, ◌++◌, refl, ◌∙◌, ap}
use Rattle.std.specs.Prelude.{if◌then◌else◌}
use Rattle.std.specs.Result.{is_ok}
use Rattle.std.specs.Vec.{with_item}
use Rattle.celt_session.specs.declared.frame_batch.FrameBatch.{FrameBatch}
use Rattle.celt_session.proofs.Gathering.{pushed_frames}
use Rattle.celt_session.proofs.frame_batch.FrameBatch.push.Goals as goal

pub returns-clause-frames : goal.returns-clause-frames
returns-clause-frames c =
    let w = c.args.self.now in
    let frame = c.args.frame.now in
    let now : FrameBatch = record { bytes = c.extend_from_slice.new.self; slots = with_item w.slots w.count c.set_slot.new.slot; count = w.count + 1 } in
    pushed_frames w now c.args.kind frame c.set_slot.new.slot c.requires.rooms
    (record {
      bytes = c.extend_from_slice.ensures.items ∙ ap (λ r. if is_ok r then w.bytes.items ++ frame else w.bytes.items) c.unwrap.ensures;
      room = c.extend_from_slice.ensures.capacity;
      slots = refl;
      from = c.set_slot.ensures.from ∙ c.len-from.ensures ∙ w.bytes.ok.0;
      to = c.set_slot.ensures.to ∙ c.len-to.ensures ∙ c.extend_from_slice.new.self.ok.0;
      kind_is = c.set_slot.ensures.kind;
      count = refl;
      short = c.requires.short;
      free = c.requires.free;
    })
