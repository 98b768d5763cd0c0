use Rattle.std.proofs.Common.{◌≡◌, ℕ, length, take, drop, refl, sym, ap, subst, ◌∙◌, arith}
use Rattle.std.specs.List.{concat}
use Rattle.std.proofs.lemmas.List.Elements.{All-same}
use Rattle.celt_analysis.specs.Batches.{IsWindow}
use Rattle.celt_session.specs.EncodedFrames.{encoded_frames}
use Rattle.celt_session.specs.EncoderWorks.{IsOn, encoder_after}
use Rattle.celt_session.specs.FrameFunctions.{state_before, frame_at, frames_from}
use Rattle.celt_session.specs.Hearings.{window_at, heard_at, HoldHeard}
use Rattle.celt_session.proofs.EncoderWorkSteps.{heard_kinds, batch_left, frame_of_slots, row_at, all_left}
use Rattle.celt_session.proofs.encoder_work.EncoderWork.frames.Goals as goal

pub encode_slots-requires-clause-kinds : goal.encode_slots-requires-clause-kinds
encode_slots-requires-clause-kinds g c = λ k d less.
    let w = c.args.self.now in
    let len = c.as_mut_slice.ensures.len in
    let same = ap length c.as_mut_slice.ensures.value in
    let heard_len = c.hear-self.ensures.len in
    let size : length c.hear-self.new.slots ≡ w.slots.len = omega (arith, len, same, heard_len) in
    let front = c.split_at.ensures.front ∙ ap (take c.args.batch.count) (c.as_slice.ensures.value ∙ all_left c.hear-self.new.slots (drop (length c.hear-self.new.slots) w.slots.items) w.slots.len size) in
    heard_kinds w.kind (window_at w.kind c.args.samples.now) w.trail c.split_at.result.0.now w.encoder c.requires.kind.encoder
    (subst (HoldHeard w.kind (window_at w.kind c.args.samples.now) w.trail) (sym front) c.hear-self.ensures.heard) k d less

pub returns-clause-works : goal.returns-clause-works
returns-clause-works g c = λ s shown.
    let w = c.args.self.now in
    let samples = c.args.samples.now in
    let bytes : ℕ = c.args.batch.bytes in
    let count : ℕ = c.args.batch.count in
    let len = c.as_mut_slice.ensures.len in
    let same = ap length c.as_mut_slice.ensures.value in
    let heard_len = c.hear-self.ensures.len in
    let size : length c.hear-self.new.slots ≡ w.slots.len = omega (arith, len, same, heard_len) in
    let items = c.as_slice.ensures.value ∙ all_left c.hear-self.new.slots (drop (length c.hear-self.new.slots) w.slots.items) w.slots.len size in
    let front = c.split_at.ensures.front ∙ ap (take count) items in
    let slots = c.split_at.result.0.now in
    let many : length slots ≡ count = c.split_at.ensures.front_len in
    let hold = subst (HoldHeard w.kind (window_at w.kind samples) w.trail) (sym front) c.hear-self.ensures.heard in
    let analyses = heard_at w.kind (window_at w.kind samples) w.trail in
    let kind = c.requires.kind.kind_is in
    let left =
    batch_left (row_at s samples bytes w.kind) bytes count w.encoder c.encode_slots.new.encoder w.trail c.hear-self.result c.encode_slots.new.out (λ k. refl) shown.encoder
    (record { earlier = shown.earlier; last = shown.last }) c.hear-self.ensures.trail
    (c.encode_slots.ensures.encoder analyses hold ∙ ap (encoder_after w.encoder analyses bytes) many)
    (c.encode_slots.ensures.frames analyses hold ∙ ap (λ n. concat (frames_from (frame_of_slots w.encoder analyses bytes) 0 n)) many) in
    record {
      shows = record {
        encoder = subst (λ k. IsOn w.kind c.encode_slots.new.encoder (state_before encoded_frames (row_at s samples bytes k) count)) kind left.on;
        earlier = subst (λ k. c.hear-self.result.earlier ≡ (state_before encoded_frames (row_at s samples bytes k) count).earlier) kind left.follows.earlier;
        last = subst (λ k. c.hear-self.result.last ≡ (state_before encoded_frames (row_at s samples bytes k) count).last) kind left.follows.last;
      };
      frames = subst (λ k. c.encode_slots.new.out ≡ concat (frames_from (frame_at encoded_frames (row_at s samples bytes k)) 0 count)) kind left.frames_are;
    }

pub returns-clause-kinds : goal.returns-clause-kinds
returns-clause-kinds g c =
    let makes = c.requires.kind in
    let w = c.args.self.now in
    let len = c.as_mut_slice.ensures.len in
    let same = ap length c.as_mut_slice.ensures.value in
    let heard_len = c.hear-self.ensures.len in
    let size : length c.hear-self.new.slots ≡ w.slots.len = omega (arith, len, same, heard_len) in
    let whole = all_left c.hear-self.new.slots (drop (length c.hear-self.new.slots) w.slots.items) w.slots.len size in
    record {
      kind_is = makes.kind_is;
      encoder = c.encode_slots.ensures.kind ∙ makes.encoder;
      slots = let m = makes.slots in let e = ap length whole in omega (arith, m, e, size, len, same);
      windows = All-same (IsWindow w.kind) _ c.hear-self.new.slots whole c.hear-self.ensures.sizes;
    }
