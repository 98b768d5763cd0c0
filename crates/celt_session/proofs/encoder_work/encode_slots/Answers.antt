use Rattle.std.proofs.Common.{◌≡◌, ◌*◌, length, arith, ◌∙◌, ap}
use Rattle.std.specs.Prelude.{slice_index_or}
use Rattle.celt_encode.specs.Encoders.{after_frame, encoded}
use Rattle.celt_session.specs.EncoderWorks.{encoder_after}
use Rattle.celt_session.proofs.Rows.{made_all, part_len}
use Rattle.celt_session.proofs.EncoderWorkSteps.{encoding_none, encoding_more, frame_of_slots}
use Rattle.celt_session.proofs.encoder_work.encode_slots.Goals as goal

pub loop-made-init : goal.loop-made-init
loop-made-init c = encoding_none c.args.encoder.now c.args.slots.now c.args.bytes c.args.out.now

pub loop-made-preserved : goal.loop-made-preserved
loop-made-preserved c =
    let room : length c.loop-made.out ≡ length c.args.slots.now * c.args.bytes = c.loop-made.auto.out ∙ c.requires.room in
    let part = part_len c.loop-made.made c.args.bytes (length c.args.slots.now) c.loop-made.out c.loop-made-test.true (omega (arith, room)) in
    let slot = c.index-slots-made.result in
    let now = c.loop-made.encoder in
    encoding_more c.args.encoder.now now c.frame.new.self c.args.slots.now c.args.bytes c.loop-made.made c.loop-made.out c.frame.new.room slot c.loop-made-test.true
    (omega (arith, room)) (c.frame.ensures.len ∙ part)
    (c.frame.ensures.state ∙ ap (after_frame now (slice_index_or c.args.slots.now c.loop-made.made slot).analysis) part) c.frame.ensures.kind
    (c.frame.ensures.bytes ∙ ap (encoded now (slice_index_or c.args.slots.now c.loop-made.made slot).analysis) part) c.loop-made.invariant

pub returns-clause-encoder : goal.returns-clause-encoder
returns-clause-encoder c = λ analyses hold.
    let few = c.loop-made.invariant.few in
    let test = c.loop-made-test.false in
    let e : c.loop-made.made ≡ length c.args.slots.now = omega (arith, few, test) in
    c.loop-made.invariant.encoder analyses hold ∙ ap (encoder_after c.args.encoder.now analyses c.args.bytes) e

pub returns-clause-frames : goal.returns-clause-frames
returns-clause-frames c = λ analyses hold.
    let few = c.loop-made.invariant.few in
    let test = c.loop-made-test.false in
    let room : length c.loop-made.out ≡ length c.args.slots.now * c.args.bytes = c.loop-made.auto.out ∙ c.requires.room in
    made_all (frame_of_slots c.args.encoder.now analyses c.args.bytes) c.args.bytes c.loop-made.made (length c.args.slots.now) c.loop-made.out
    (c.loop-made.invariant.frames analyses hold) few (omega (arith, test)) room
