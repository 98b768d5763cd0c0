use Rattle.std.proofs.Common.{◌≡◌, length, take, drop, arith}
use Rattle.std.proofs.lemmas.List.Elements.{All-same, All-take, All-drop, All-append}
use Rattle.celt_analysis.specs.Batches.{IsWindow}
use Rattle.celt_session.proofs.HearingSteps.{heard_in_front}
use Rattle.celt_session.proofs.hearing.hear.Goals as goal

pub hear_all-requires-clause-windows : goal.hear_all-requires-clause-windows
hear_all-requires-clause-windows g c = λ κs lives.
    All-same (IsWindow c.args.before.kind) c.split_at_mut-front.result.0.now (take c.args.before.count c.args.slots.now) c.split_at_mut-front.ensures.front
    (All-take (IsWindow c.args.before.kind) c.args.before.count c.args.slots.now c.requires.windows)

pub returns-clause-sizes : goal.returns-clause-sizes
returns-clause-sizes g c =
    All-append (IsWindow c.args.before.kind) c.hear_all.new.slots c.split_at_mut-front.result.1.now c.hear_all.ensures.sizes
    (All-same (IsWindow c.args.before.kind) c.split_at_mut-front.result.1.now (drop c.args.before.count c.args.slots.now) c.split_at_mut-front.ensures.back
    (All-drop (IsWindow c.args.before.kind) c.args.before.count c.args.slots.now c.requires.windows))

pub returns-clause-heard : goal.returns-clause-heard
returns-clause-heard g c =
    let front = c.split_at_mut-front.ensures.front_len in
    let few = c.requires.few in
    let len = c.hear_all.ensures.len in
    let count : length c.hear_all.new.slots ≡ c.args.before.count = omega (arith, front, few, len) in
    heard_in_front c.args.before.kind _ c.args.before.trail c.hear_all.new.slots c.split_at_mut-front.result.1.now c.args.before.count count c.hear_all.ensures.heard
