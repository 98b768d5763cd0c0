use Rattle.celt_session.specs.EncoderPairs.{pair_work}
use Rattle.std.proofs.Common.{◌≡◌, ◌+◌, ◌-◌, ◌*◌, ◌++◌, take, ap, sym, subst, ◌∙◌, arith, length}
use borrow.Rule.Slice.PartMut.{post_of, mid_of, same_len_mid}
use Rattle.wav_edge.specs.Samples.{samples_of}
use Rattle.std.proofs.lemmas.Nat.{mul-le}
use Rattle.celt_session.specs.FrameWorks.{Framed, batch_len}
use Rattle.celt_session.proofs.PacketLemmas.{lent_whole, lent_front, front_len}
use Rattle.celt_session.proofs.batching.make_batch.Goals as goal

pub returns-clause-works : goal.returns-clause-works
returns-clause-works g c = λ s shown.
    let b = c.args.batch in
    let held = c.args.framer.now.held.items in
    let n = b.count * b.bytes in
    let out = c.frames.new.out in
    let size_is : c.from.result * (1145 + b.count * c.samples_in.result) ≡ batch_len b.kind b.count = ap (λ k. k * (1145 + b.count * c.samples_in.result)) c.from.ensures ∙ ap (λ k. b.kind.channels * (1145 + b.count * k)) c.samples_in.ensures.value in
    let size = c.from.result * (1145 + b.count * c.samples_in.result) in
    let samples =
    c.split_at.ensures.front ∙ ap (take size) (c.deref-2.ensures.value ∙ lent_whole c.args.framer.now.samples c.read_samples.new.samples (c.read_samples.ensures.len ∙ ap length c.deref_mut.ensures.value))
    ∙ c.read_samples.ensures.samples ∙ ap (λ l. samples_of (take (2 * size) l)) c.deref.ensures.value ∙ ap (λ k. samples_of (take (2 * k) held)) size_is in
    let len : length out ≡ length (mid_of 0 (n - 0) c.deref_mut-2.result.now) = c.frames.auto.out in
    let all : length (out ++ post_of 0 (n - 0) c.deref_mut-2.result.now) ≡ length c.args.framer.now.frames.items = same_len_mid 0 (n - 0) c.deref_mut-2.result.now out len ∙ ap length c.deref_mut-2.ensures.value in
    let short : length out ≡ n =
    let m = mul-le b.count b.bytes 16 1275 b.few b.most in
    let r = c.requires.rooms.frames in
    let e = ap length c.deref_mut-2.ensures.value in
    len ∙ front_len n c.deref_mut-2.result.now (omega arith) in
    let front = lent_front c.args.framer.now.frames n out (post_of 0 (n - 0) c.deref_mut-2.result.now) short all in
    subst (Framed pair_work s b (samples_of (take (2 * batch_len b.kind b.count) held)) c.frames.new.self) (sym front)
    (subst (λ l. Framed pair_work s b l c.frames.new.self out) samples (c.frames.ensures.works s shown))

pub returns-clause-rooms : goal.returns-clause-rooms
returns-clause-rooms g c =
    let b = c.args.batch in
    let n = b.count * b.bytes in
    let out = c.frames.new.out in
    let len : length out ≡ length (mid_of 0 (n - 0) c.deref_mut-2.result.now) = c.frames.auto.out in
    let all : length (out ++ post_of 0 (n - 0) c.deref_mut-2.result.now) ≡ length c.args.framer.now.frames.items = same_len_mid 0 (n - 0) c.deref_mut-2.result.now out len ∙ ap length c.deref_mut-2.ensures.value in
    let read = c.read_samples.ensures.len ∙ ap length c.deref_mut.ensures.value in
    record {
      held = c.requires.rooms.held;
      samples = ap length (lent_whole c.args.framer.now.samples c.read_samples.new.samples read) ∙ read ∙ c.requires.rooms.samples;
      frames = ap length (lent_whole c.args.framer.now.frames (out ++ post_of 0 (n - 0) c.deref_mut-2.result.now) all) ∙ all ∙ c.requires.rooms.frames;
    }
