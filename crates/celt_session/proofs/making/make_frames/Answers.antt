use Rattle.celt_session.specs.EncoderPairs.{pair_work}
use Rattle.std.proofs.Common.{◌≡◌, ◌+◌, ◌*◌, ◌≤◌, take, drop, ap, sym, subst, ◌∙◌, refl, length, length-drop, arith}
use Rattle.celt_session.proofs.PairSteps.{used_within}
use Rattle.celt_session.specs.Makers.{group_bytes}
use Rattle.celt_session.proofs.WindowLemmas.{used-is}
use Rattle.celt_session.proofs.MakerLemmas.{plan_long, batch_frames, batch_shows, batch_made}
use Rattle.celt_session.proofs.making.make_frames.Goals as goal

pub returns-clause-made : goal.returns-clause-made
returns-clause-made g c = λ heard done h.
    let w = pair_work in
    let plan = c.args.plan in
    let m = c.args.maker.now in
    let f = c.make_batch.ensures.works _ h.shows in
    let used : 2 * c.from.result * c.args.count * plan.samples ≡ group_bytes plan.kind.channels (c.args.count * plan.samples) = ap (λ n. 2 * n * c.args.count * plan.samples) c.from.ensures ∙ used-is plan.kind.channels c.args.count plan.samples in
    let frames = batch_frames w plan heard m.framer.held.items done _ _ _ refl refl h.held c.requires.held f in
    let shows = batch_shows w plan heard m.framer.held.items done _ _ _ refl refl h.held c.requires.held f in
    let given = c.split_at.ensures.front ∙ ap (take (c.args.count * plan.bytes)) c.deref.ensures.value ∙ frames in
    batch_made w plan heard m.framer.held.items done c.args.count m.packer.packets _ (g.K.Sink.held c.args.output.now) (g.K.Sink.held c.add_frames.new.output) c.add_frames.result h.held h.within c.requires.held
    (c.drop_front.ensures.bytes ∙ ap (λ v. drop (2 * c.from.result * c.args.count * plan.samples) v.items) c.make_batch.ensures.held ∙ ap (λ n. drop n m.framer.held.items) used) shows
    (c.add_frames.ensures.packed _ done (plan_long w.function plan heard) h.packs given)

pub returns-clause-held : goal.returns-clause-held
returns-clause-held g c =
    let plan = c.args.plan in
    let used : 2 * c.from.result * c.args.count * plan.samples ≡ group_bytes plan.kind.channels (c.args.count * plan.samples) = ap (λ n. 2 * n * c.args.count * plan.samples) c.from.ensures ∙ used-is plan.kind.channels c.args.count plan.samples in
    ap length (c.drop_front.ensures.bytes ∙ ap (λ v. drop (2 * c.from.result * c.args.count * plan.samples) v.items) c.make_batch.ensures.held ∙ ap (λ n. drop n c.args.maker.now.framer.held.items) used)
    ∙ length-drop (group_bytes plan.kind.channels (c.args.count * plan.samples)) c.args.maker.now.framer.held.items

pub returns-clause-failed : goal.returns-clause-failed
returns-clause-failed g c = λ heard done h.
    let w = pair_work in
    let plan = c.args.plan in
    let m = c.args.maker.now in
    let f = c.make_batch.ensures.works _ h.shows in
    let frames = batch_frames w plan heard m.framer.held.items done _ _ _ refl refl h.held c.requires.held f in
    c.add_frames.ensures.failed _ done (plan_long w.function plan heard) h.packs (c.split_at.ensures.front ∙ ap (take (c.args.count * plan.bytes)) c.deref.ensures.value ∙ frames)

pub drop_front-requires : goal.drop_front-requires
drop_front-requires g c =
    let plan = c.args.plan in
    let used : 2 * c.from.result * c.args.count * plan.samples ≡ group_bytes plan.kind.channels (c.args.count * plan.samples) = ap (λ n. 2 * n * c.args.count * plan.samples) c.from.ensures ∙ used-is plan.kind.channels c.args.count plan.samples in
    let held : 2 * (plan.kind.channels * (1145 + c.args.count * plan.samples)) ≤ length c.args.maker.now.framer.held.items =
    subst (λ k. 2 * (plan.kind.channels * (1145 + c.args.count * k)) ≤ length c.args.maker.now.framer.held.items) (sym plan.samples_is) c.requires.held in
    let within = used_within plan.kind.channels c.args.count plan.samples (length c.args.maker.now.framer.held.items) held in
    let same = ap (λ v. length v.items) c.make_batch.ensures.held in
    omega (arith, used, within, same)
