use Rattle.celt_session.specs.EncoderPairs.{pair_work}
use Rattle.std.proofs.Common.{◌≡◌, ◌+◌, ◌-◌, ◌*◌, ◌/◌, ◌<◌, ◌≤◌, ℕ, length, ap, sym, subst, ◌∙◌, arith}
use Rattle.celt_session.proofs.PairSteps.{few_held}
use Rattle.celt_session.specs.Windows.{lead}
use Rattle.celt_session.specs.Makers.{group_bytes, settled_for}
use Rattle.celt_session.proofs.PacketLemmas.{wrote_none}
use Rattle.celt_session.proofs.MakerLemmas.{plan_sizes, plan_long, then_full}
use Rattle.celt_session.proofs.LastFrames.{rest_of, rest_held, settled_is, settles, settles_front, settles_all, packed_of}
use Rattle.celt_session.proofs.ending.settle.Goals as goal

pub make_frames-requires-clause-held : goal.make_frames-requires-clause-held
make_frames-requires-clause-held g c κs within =
    let p = c.args.plan in
    let s = plan_sizes p in
    let t = s.0 in
    let n = c.if-count-eq0.false in
    let count = c.held_groups.result / p.samples in
    let len = c.len.ensures ∙ c.args.maker.now.framer.held.ok.0 in
    let e = ap (λ k. k / p.samples) (c.held_groups.ensures ∙ ap (λ k. (k - group_bytes p.kind.channels lead) / (2 * p.kind.channels)) len) in
    let h = rest_held p.kind.channels p.samples (length c.args.maker.now.framer.held.items) count p.kind.some_channel (omega arith) (omega arith) e in
    subst (λ k. 2 * (p.kind.channels * (lead + count * k)) ≤ length c.args.maker.now.framer.held.items) p.samples_is h

pub returns-then-count-eq0-clause-settled : goal.returns-then-count-eq0-clause-settled
returns-then-count-eq0-clause-settled g c = λ heard batches h.
    let w = pair_work in
    let p = c.args.plan in
    let m = c.args.maker.now in
    let len = c.len.ensures ∙ m.framer.held.ok.0 in
    let none : 16 * batches + (length m.framer.held.items - group_bytes p.kind.channels lead) / (2 * p.kind.channels) / p.samples ≡ 16 * batches =
    let e = ap (λ k. k / p.samples) (c.held_groups.ensures ∙ ap (λ k. (k - group_bytes p.kind.channels lead) / (2 * p.kind.channels)) len) in let z = c.if-count-eq0.true in omega arith in
    let is = settled_is p heard (16 * batches) ((rest_of w p heard (16 * batches) m h).whole ∙ none) in
    settles p _ (16 * batches) m.packer.packets (settled_for p heard) is m.packer (g.K.Sink.held c.args.output.now) (g.K.Sink.held c.args.output.now) (wrote_none p _ (g.K.Sink.held c.args.output.now) (16 * batches) m.packer h.packs) c.requires.going.less

pub returns-in_default-clause-settled : goal.returns-in_default-clause-settled
returns-in_default-clause-settled g c = λ heard batches h.
    let w = pair_work in
    let p = c.args.plan in
    let m = c.args.maker.now in
    let len = c.len.ensures ∙ m.framer.held.ok.0 in
    let count = c.held_groups.result / p.samples in
    let e = ap (λ k. k / p.samples) (c.held_groups.ensures ∙ ap (λ k. (k - group_bytes p.kind.channels lead) / (2 * p.kind.channels)) len) in
    let is = settled_is p heard (16 * batches + count) ((rest_of w p heard (16 * batches) m h).whole ∙ ap (λ k. 16 * batches + k) (sym e)) in
    settles_front p _ (16 * batches + count) m.packer.packets (settled_for p heard) is (g.K.Sink.held c.args.output.now) (g.K.Sink.held c.make_frames.new.output) (c.in_default.ensures.made heard (16 * batches) h)

pub returns-clause-settled : goal.returns-clause-settled
returns-clause-settled g c = λ heard batches h.
    let w = pair_work in
    let p = c.args.plan in
    let m = c.args.maker.now in
    let len = c.len.ensures ∙ m.framer.held.ok.0 in
    let count = c.held_groups.result / p.samples in
    let e = ap (λ k. k / p.samples) (c.held_groups.ensures ∙ ap (λ k. (k - group_bytes p.kind.channels lead) / (2 * p.kind.channels)) len) in
    let is = settled_is p heard (16 * batches + count) ((rest_of w p heard (16 * batches) m h).whole ∙ ap (λ k. 16 * batches + k) (sym e)) in
    let made = c.in-Ok.ensures.made heard (16 * batches) h in
    let old = g.K.Sink.held c.args.output.now in
    let mid = g.K.Sink.held c.make_frames.new.output in
    let new = g.K.Sink.held c.write_full.new.output in
    let full = then_full w p heard (16 * batches + count) m.packer.packets c.make_frames.new.maker c.write_full.new.packer old mid new c.write_full.result made (c.write_full.ensures.packed _ _ (plan_long w.function p heard) made.made.packs) in
    settles_all p _ (16 * batches + count) m.packer.packets (settled_for p heard) is c.write_full.new.packer old new c.write_full.result (packed_of w p heard (16 * batches + count) m.packer.packets _ old new c.write_full.result full) c.write_full.ensures.less

pub make_frames-requires-clause-few : goal.make_frames-requires-clause-few
make_frames-requires-clause-few g c κs within =
    let p = c.args.plan in
    let n : ℕ = length c.args.maker.now.framer.held.items in
    let t = (plan_sizes p).0 in
    let len = c.len.ensures ∙ c.args.maker.now.framer.held.ok.0 in
    let e = ap (λ k. k / p.samples) (c.held_groups.ensures ∙ ap (λ k. (k - group_bytes p.kind.channels lead) / (2 * p.kind.channels)) len) in
    let room : n < 2 * (p.kind.channels * (1145 + 16 * p.samples)) = subst (λ k. n < 2 * (p.kind.channels * (1145 + 16 * k))) (sym p.samples_is) c.requires.going.held in
    let few = few_held p.kind.channels p.samples n p.kind.some_channel (omega arith) room in
    omega (arith, e, few)
