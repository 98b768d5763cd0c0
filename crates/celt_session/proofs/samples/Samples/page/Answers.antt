use Rattle.std.proofs.Common.{◌+◌, refl, sym, ◌∙◌, ap}
use Rattle.celt_session.specs.Playing.{playing_in}
use Rattle.celt_session.proofs.PlayingPages.{played, failed, said, text_failed, head_failed}
use Rattle.celt_session.proofs.samples.Samples.page.Goals as goal

pub returns-in_default-clause-works : goal.returns-in_default-clause-works
returns-in_default-clause-works g c = λ s heard shows is.
    head_failed c.args.self.now s heard shows c.playing_of-playing.result (g.K.Sink.held c.args.output.now) (g.K.Sink.held c.write_opening.new.output) (c.playing_of-playing.ensures.value heard is) c.in_default.ensures.bytes

pub returns-in_default-play-clause-works : goal.returns-in_default-play-clause-works
returns-in_default-play-clause-works g c = λ s heard shows is.
    let q = c.playing_of-playing.result in
    let e = c.playing_of-playing.ensures.value heard is in
    let f = sym c.playing_of-playing.ensures.is ∙ e in
    text_failed c.args.self.now s heard shows q (g.K.Sink.held c.args.output.now) (g.K.Sink.held c.write_opening.new.output) (g.K.Sink.held c.play.new.output) e c.in-Ok.ensures.bytes
    (failed c.args.self.now s heard shows (playing_in c.args.reader.now) c.play.new.self _ (g.K.Sink.held c.write_opening.new.output) (g.K.Sink.held c.play.new.output) f (c.in_default-play.ensures.plays heard is))

pub returns-clause-works : goal.returns-clause-works
returns-clause-works g c = λ s heard shows is.
    let q = c.playing_of-playing.result in
    let e = c.playing_of-playing.ensures.value heard is in
    let f = sym c.playing_of-playing.ensures.is ∙ e in
    let all = played c.args.self.now s heard shows (playing_in c.args.reader.now) c.play.new.self _ (g.K.Sink.held c.write_opening.new.output) (g.K.Sink.held c.play.new.output) f (c.in-Ok-play.ensures.plays heard is) in (
      record { pages = ap (λ n. n + 1) (c.in-Ok-play.ensures.pages ∙ shows.pages); awaits_header = refl; mono = all.mono; stereo = all.stereo },
      said c.args.self.now s heard shows q (g.K.Sink.held c.args.output.now) (g.K.Sink.held c.write_opening.new.output) (g.K.Sink.held c.play.new.output) e c.in-Ok.ensures.bytes all.goes,
    )
