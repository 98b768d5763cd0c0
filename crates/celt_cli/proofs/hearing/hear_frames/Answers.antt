use Rattle.std.proofs.Common.{◌≡◌, subst, ap, arith}
use Rattle.celt_synth.specs.Decoders.{Decoder}
use Rattle.celt_cli.specs.Hearings.{HasHeard}
use Rattle.celt_cli.proofs.HearingLemmas.{none_heard, next_heard}
use Rattle.celt_cli.proofs.hearing.hear_frames.Goals as goal

pub loop-init : goal.loop-init
loop-init g c =
    let count = c.new.ensures.count in
    record {
      windows = c.new-windows.ensures;
      channels = ap (λ (d : Decoder). d.channels) c.requires.decoder;
      few = omega arith;
      some = omega arith;
      goes = λ shows. none_heard g.M.FrameMaker.makes c.args.settings c.args.maker.now c.args.decoder.now c.new.result c.requires.decoder c.new.ensures.tallied shows;
    }

pub loop-preserved : goal.loop-preserved
loop-preserved g c =
    let few = c.loop.invariant.few in
    let some = c.loop.invariant.some in
    let few_more = c.hear_frame-heard.ensures.few in
    let some_more = c.hear_frame-heard.ensures.some in
    record {
      windows = c.next.ensures.gave c.args.settings c.loop.counter c.loop.invariant.windows;
      channels = c.hear_frame-heard.ensures.channels;
      few = omega arith;
      some = omega arith;
      goes = λ shows.
          next_heard g.M.FrameMaker.makes c.args.settings c.loop.counter c.loop.maker c.hear_frame-heard.new.maker c.loop.decoder c.hear_frame-heard.new.decoder
          c.loop.heard c.hear_frame-heard.result c.next.new.out (c.loop.invariant.goes shows) (c.next.ensures.window c.args.settings c.loop.counter c.loop.invariant.windows) c.hear_frame-heard.ensures.frame;
    }

pub returns : goal.returns
returns g c = λ shows.
    let past = c.loop-test.false in
    let end = c.loop.auto.counter-end in
    let e : c.loop.counter ≡ c.args.settings.frames = omega arith in
    let h = c.loop.invariant.goes shows in
    subst (λ n. HasHeard g.M.FrameMaker.makes c.args.settings n c.loop.heard) e h.has
