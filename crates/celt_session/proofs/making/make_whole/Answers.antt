use Rattle.celt_session.specs.EncoderPairs.{pair_work}
use Rattle.celt_session.proofs.MakerLemmas.{plan_long, then_full}
use Rattle.celt_session.proofs.making.make_whole.Goals as goal

pub returns-clause-made : goal.returns-clause-made
returns-clause-made g c = λ heard done h.
    let w = pair_work in
    let made = c.in-Ok.ensures.made heard done h in
    then_full w c.args.plan heard _ c.args.maker.now.packer.packets c.make_frames.new.maker c.write_full.new.packer (g.K.Sink.held c.args.output.now) (g.K.Sink.held c.make_frames.new.output) (g.K.Sink.held c.write_full.new.output)
    c.write_full.result made (c.write_full.ensures.packed _ _ (plan_long w.function c.args.plan heard) made.made.packs)
