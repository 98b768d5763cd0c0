use Rattle.celt_session.specs.EncoderPairs.{pair_work}
use Rattle.std.proofs.Common.{◌+◌, ◌-◌, ◌*◌, ◌/◌, ◌<◌, length, ap, sym, subst, ◌∙◌, refl}
use Rattle.celt_session.specs.Windows.{lead}
use Rattle.celt_session.specs.Makers.{group_bytes}
use Rattle.celt_session.proofs.MakerLemmas.{plan_sizes, plan_long}
use Rattle.celt_session.proofs.LastFrames.{rest_of, ends_all, ends_front, few_groups, few_last, least_last, granule_small, even_of}
use Rattle.celt_session.proofs.ending.end_samples.Goals as goal

pub make_last-requires-clause-few : goal.make_last-requires-clause-few
make_last-requires-clause-few g c κs within =
    let p = c.args.plan in
    let len = c.len.ensures ∙ c.args.maker.now.framer.held.ok.0 in
    let is = c.held_groups-groups.ensures ∙ ap (λ k. (k - group_bytes p.kind.channels lead) / (2 * p.kind.channels)) len in
    few_last p.samples c.held_groups-groups.result (plan_sizes p).0 (subst (λ n. n < 16 * p.samples) (sym is) (few_groups p (length c.args.maker.now.framer.held.items) c.requires.going.held))

pub write_packet-requires-clause-granule : goal.write_packet-requires-clause-granule
write_packet-requires-clause-granule g c =
    let p = c.args.plan in
    let m = c.args.maker.now in
    let len = c.len.ensures ∙ m.framer.held.ok.0 in
    let is = c.held_groups-groups.ensures ∙ ap (λ k. (k - group_bytes p.kind.channels lead) / (2 * p.kind.channels)) len in
    granule_small p m.packer.packets m.packer.count c.held_groups-groups.result c.requires.packets (subst (λ n. n < 16 * p.samples) (sym is) (few_groups p (length m.framer.held.items) c.requires.going.held))

pub returns-in_default-clause-ends : goal.returns-in_default-clause-ends
returns-in_default-clause-ends g c = λ heard batches even h.
    let w = pair_work in
    let p = c.args.plan in
    let m = c.args.maker.now in
    let groups = c.held_groups-groups.result in
    let frames = (120 + groups + p.samples - 1) / p.samples in
    let len = c.len.ensures ∙ m.framer.held.ok.0 in
    let is = c.held_groups-groups.ensures ∙ ap (λ k. (k - group_bytes p.kind.channels lead) / (2 * p.kind.channels)) len in
    let all = (rest_of w p heard (16 * batches) m h).all ∙ ap (λ n. 16 * batches * p.samples + n) (sym is) in
    ends_front p _ heard (16 * batches) m.packer.packets frames groups all refl (g.K.Sink.held c.args.output.now) (g.K.Sink.held c.make_last.new.output) (least_last p.samples groups (plan_sizes p).0)
    (c.in_default.ensures.failed heard (16 * batches) (even_of p.kind.channels (length heard) p.kind.some_channel p.kind.two_channels even) h)

pub returns-clause-ends : goal.returns-clause-ends
returns-clause-ends g c = λ heard batches even h.
    let w = pair_work in
    let p = c.args.plan in
    let m = c.args.maker.now in
    let groups = c.held_groups-groups.result in
    let frames = (120 + groups + p.samples - 1) / p.samples in
    let len = c.len.ensures ∙ m.framer.held.ok.0 in
    let is = c.held_groups-groups.ensures ∙ ap (λ k. (k - group_bytes p.kind.channels lead) / (2 * p.kind.channels)) len in
    let all = (rest_of w p heard (16 * batches) m h).all ∙ ap (λ n. 16 * batches * p.samples + n) (sym is) in
    let e = c.in-Ok.ensures in
    let full = e.last heard (16 * batches) (even_of p.kind.channels (length heard) p.kind.some_channel p.kind.two_channels even) h in
    ends_all p _ heard (16 * batches) m.packer.packets frames groups all refl c.make_last.new.maker.packer _ (g.K.Sink.held c.args.output.now) (g.K.Sink.held c.make_last.new.output) (g.K.Sink.held c.write_packet.new.output) c.write_packet.result full e.some
    e.maker.few (ap (λ n. 120 + n * p.samples + groups) h.packs.place) (c.write_packet.ensures.page _ (16 * batches + frames) (plan_long w.function p heard) full.packs)
