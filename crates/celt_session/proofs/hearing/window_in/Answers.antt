use Rattle.std.proofs.Common.{◌*◌, length, take, drop, ap, ◌∙◌, arith}
use Rattle.celt_session.specs.FrameWorks.{batch_len}
use Rattle.celt_session.specs.Frames.{duration}
use Rattle.celt_session.proofs.SlotSteps.{window_inside, window_start}
use Rattle.celt_session.proofs.hearing.window_in.Goals as goal

pub overflow_mul-k : goal.overflow_mul-k
overflow_mul-k c =
    let inside = window_inside c.args.kind.channels (duration c.args.kind) c.args.k c.args.count (length c.args.samples.now) c.requires.samples c.requires.inside in
    let step = ap (λ n. c.args.k * n) c.frame_len.ensures in
    omega (arith, inside, step)

pub split_at-requires : goal.split_at-requires
split_at-requires c =
    let inside = window_inside c.args.kind.channels (duration c.args.kind) c.args.k c.args.count (length c.args.samples.now) c.requires.samples c.requires.inside in
    let step = ap (λ n. c.args.k * n) c.frame_len.ensures in
    omega (arith, inside, step)

pub split_at-requires-2 : goal.split_at-requires-2
split_at-requires-2 c =
    let inside = window_inside c.args.kind.channels (duration c.args.kind) c.args.k c.args.count (length c.args.samples.now) c.requires.samples c.requires.inside in
    let step = ap (λ n. c.args.k * n) c.frame_len.ensures in
    let size = c.window_len.ensures.value in
    let back = c.split_at.ensures.back_len in
    omega (arith, inside, step, size, back)

pub returns-clause-value : goal.returns-clause-value
returns-clause-value c =
    c.split_at-2.ensures.front ∙ ap (λ n. take n c.split_at.result.1.now) c.window_len.ensures.value
    ∙ ap (take (batch_len c.args.kind 1)) c.split_at.ensures.back
    ∙ ap (λ n. take (batch_len c.args.kind 1) (drop n c.args.samples.now)) (ap (λ n. c.args.k * n) c.frame_len.ensures ∙ window_start c.args.kind.channels (duration c.args.kind) c.args.k)
