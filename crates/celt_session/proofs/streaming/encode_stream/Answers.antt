use Rattle.std.proofs.Common.{subst}
use Rattle.std.specs.Prelude.{IfSome}
use Rattle.celt_session.specs.EncodedFrames.{encoded_frames}
use Rattle.celt_session.specs.Encodings.{encoding_by}
use Rattle.celt_session.specs.Outcomes.{wanted, Answers, WritesFront}
use Rattle.celt_session.proofs.DoneLemmas.{done_in_step, done_kept}
use Rattle.celt_session.proofs.streaming.encode_stream.Goals as goal

pub returns-clause-status : goal.returns-clause-status
returns-clause-status g c =
    let e = c.in-Ok-new_session.ensures in
    subst (λ s. IfSome (g.S.Source.left c.args.input.now) (λ bytes. Answers (wanted (encoding_by encoded_frames s) c.args.limit bytes) c.encode_all.result)) e.settings (c.encode_all.ensures.status e.stands)

pub returns-clause-output : goal.returns-clause-output
returns-clause-output g c =
    let e = c.in-Ok-new_session.ensures in
    subst (λ s. IfSome (g.S.Source.left c.args.input.now) (λ bytes. WritesFront (encoding_by encoded_frames s) c.args.limit bytes (g.K.Sink.held c.args.output.now) (g.K.Sink.held c.encode_all.new.output) c.encode_all.result)) e.settings
    (c.encode_all.ensures.output e.stands)

pub returns-clause-in_step : goal.returns-clause-in_step
returns-clause-in_step g c = done_in_step c.args.settings (g.S.Source.left c.args.input.now) c.encode_all.result c.requires.settings

pub returns-clause-samples_kept : goal.returns-clause-samples_kept
returns-clause-samples_kept g c =
    done_kept c.args.settings c.args.limit (g.S.Source.left c.args.input.now) c.encode_all.result c.requires.settings c.requires.limit (returns-clause-status g c)
