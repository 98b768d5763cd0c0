use Rattle.celt_session.specs.EncoderPairs.{pair_work}
use Rattle.std.proofs.Common.{◌≡◌, ◌+◌, ◌-◌, ◌<◌, min, arith}
use Rattle.celt_session.proofs.MakerLemmas.{with_held}
use Rattle.celt_session.proofs.LastFrames.{fills_none, fills_held, fills_more, fills_failed, fills_before, fills_all}
use Rattle.celt_session.proofs.ending.make_last.Goals as goal

pub loop-made-init : goal.loop-made-init
loop-made-init g c = record {
  made_few = omega arith;
  maker = c.requires.maker;
  some = λ h. absurd (omega arith);
  sum = omega arith;
  fills = λ heard done h. fills_none pair_work c.args.plan heard done c.args.maker.now (g.K.Sink.held c.args.output.now) h;
  kept = omega arith;
}

pub loop-made-preserved : goal.loop-made-preserved
loop-made-preserved g c =
    let w = pair_work in
    let i = c.loop-made.invariant in
    let e = c.in-Ok.ensures in
    let p = c.args.plan in
    let old = g.K.Sink.held c.args.output.now in
    let mid = g.K.Sink.held c.loop-made.output in
    let new = g.K.Sink.held c.make_frames.new.output in
    let few : c.min-count.result ≡ min (c.args.frames - c.loop-made.made) 16 = c.min-count.ensures in
    let less : c.loop-made.made < c.args.frames = c.loop-made-test.true in
    record {
      made_few = omega arith;
      maker = e.maker;
      some = λ h. e.some;
      sum = let a = i.sum in let b = e.sum in omega arith;
      fills = λ heard done h.
          let f = fills_held w p heard done (done + c.loop-made.made) c.args.maker.now.packer.packets _ c.loop-made.maker c.fill_up.new.held old mid (i.fills heard done h) c.fill_up.ensures.held in
          fills_more w p heard done c.loop-made.made c.min-count.result c.args.maker.now.packer.packets (with_held w p c.loop-made.maker c.fill_up.new.held) c.make_frames.new.maker old mid new f (e.made _ (done + c.loop-made.made) f.makes.made);
      kept = let a = i.kept in let b = e.cause in omega arith;
    }

pub returns-in_default-clause-last : goal.returns-in_default-clause-last
returns-in_default-clause-last g c = λ heard done even h.
    let w = pair_work in
    let i = c.loop-made.invariant in
    let p = c.args.plan in
    let old = g.K.Sink.held c.args.output.now in
    let mid = g.K.Sink.held c.loop-made.output in
    let new = g.K.Sink.held c.make_frames.new.output in
    let few : c.min-count.result ≡ min (c.args.frames - c.loop-made.made) 16 = c.min-count.ensures in
    let less : c.loop-made.made < c.args.frames = c.loop-made-test.true in
    let f = fills_held w p heard done (done + c.loop-made.made) c.args.maker.now.packer.packets _ c.loop-made.maker c.fill_up.new.held old mid (i.fills heard done h) c.fill_up.ensures.held in
    fills_failed w p heard done c.loop-made.made c.min-count.result c.args.frames (done + c.loop-made.made + c.min-count.result) c.args.maker.now.packer.packets (with_held w p c.loop-made.maker c.fill_up.new.held) old mid new even (omega arith) f
    (c.in_default.ensures.made _ (done + c.loop-made.made) f.makes.made)

pub returns-in_default-clause-failed : goal.returns-in_default-clause-failed
returns-in_default-clause-failed g c = λ heard done even h.
    let w = pair_work in
    let i = c.loop-made.invariant in
    let p = c.args.plan in
    let old = g.K.Sink.held c.args.output.now in
    let mid = g.K.Sink.held c.loop-made.output in
    let new = g.K.Sink.held c.make_frames.new.output in
    let few : c.min-count.result ≡ min (c.args.frames - c.loop-made.made) 16 = c.min-count.ensures in
    let less : c.loop-made.made < c.args.frames = c.loop-made-test.true in
    let f = fills_held w p heard done (done + c.loop-made.made) c.args.maker.now.packer.packets _ c.loop-made.maker c.fill_up.new.held old mid (i.fills heard done h) c.fill_up.ensures.held in
    fills_before w p heard done c.loop-made.made c.min-count.result c.args.frames c.args.maker.now.packer.packets (with_held w p c.loop-made.maker c.fill_up.new.held) old mid new even (omega arith) (omega arith) f
    (c.in_default.ensures.failed _ (done + c.loop-made.made) f.makes.made)

pub returns-clause-last : goal.returns-clause-last
returns-clause-last g c = λ heard done even h.
    let i = c.loop-made.invariant in
    let all : c.loop-made.made ≡ c.args.frames = let a = i.made_few in let b = c.loop-made-test.false in omega arith in
    fills_all pair_work c.args.plan heard done c.loop-made.made c.args.frames c.args.maker.now.packer.packets c.loop-made.maker (g.K.Sink.held c.args.output.now) (g.K.Sink.held c.loop-made.output) even all (i.fills heard done h)
