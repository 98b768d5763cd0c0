use Rattle.std.proofs.Common.{length, ◌∙◌, ap, sym, Some, is_some}
use Rattle.celt_analysis.specs.Analyses.{Analysis}
use Rattle.celt_base.specs.declared.kind.Kind.{Kind}
use Rattle.celt_encode.specs.Encoders.{encoded, after_frame}
use Rattle.celt_session.specs.EncodedFrames.{pitch_of, analysis_by}
use Rattle.celt_session.proofs.EncodedSteps.{pitch_is}
use Rattle.celt_cli.specs.Makers.{gen_kind, gen_bytes}
use Rattle.celt_cli.proofs.EncodingLemmas.{kept_read, window_is, kind_kept, analysis_is, encoded_is, after_is, frame_is, footing_is, replaced_is}
use Rattle.celt_cli.proofs.encoding_maker.EncodingMakerFrameMaker.frame.Goals as goal

pub pitch-now-requires : goal.pitch-now-requires
pitch-now-requires c = window_is c.kind-of.result (length c.args.window.now) c.kind-of.ensures c.requires.window

pub analyse-requires : goal.analyse-requires
analyse-requires c = window_is c.kind-of.result (length c.args.window.now) c.kind-of.ensures c.requires.window

pub frame-requires-clause-kind : goal.frame-requires-clause-kind
frame-requires-clause-kind c =
    ap (λ (a : Analysis). a.kind) c.analyse.ensures ∙ kind_kept c.kind-of.result _ c.args.window.now ∙ ap Some (c.kind-of.ensures ∙ sym c.args.self.now.of_kind)

pub returns-clause-read : goal.returns-clause-read
returns-clause-read c =
    kept_read c.args.self.now.encoder.kind c.frame.new.room (length c.args.room.now) c.frame.new.s c.args.self.now.of_kind c.frame.ensures.len c.frame.ensures.symbols c.frame.ensures.read

pub returns-clause-makes : goal.returns-clause-makes
returns-clause-makes c = λ s shows.
    let w = c.args.window.now in
    let e = c.args.self.now.encoder in
    let a = c.analyse.new.out in
    let by = analysis_by s gen_kind w in
    let k = c.args.self.now.of_kind in
    let pitch = pitch_is c.kind-of.result w c.pitch-now.result c.pitch-now.ensures ∙ ap (λ (x : Kind). pitch_of x w) c.kind-of.ensures in
    let same = analysis_is s c.kind-of.result w c.args.self.now.earlier c.args.self.now.last c.pitch-now.result a c.kind-of.ensures shows.earlier shows.last pitch c.analyse.ensures in
    let state = c.frame.ensures.state ∙ ap (after_frame e a) c.requires.room ∙ ap (λ x. after_frame e x gen_bytes) same ∙ after_is e s by gen_bytes k shows.shared shows.made in
    let f = footing_is s w c.frame.new.self c.args.self.now.last c.pitch-now.result state shows.last pitch in
    record {
      shows = record { shared = f.0; made = f.1; earlier = f.2; last = f.3 };
      frame_is = c.frame.ensures.bytes ∙ ap (encoded e a) c.requires.room ∙ ap (λ x. encoded e x gen_bytes) same ∙ encoded_is e s by gen_bytes k shows.shared shows.made ∙ frame_is s w;
      replaced_is = c.is_some.ensures ∙ ap is_some c.fell_back.ensures ∙ replaced_is s w c.frame.new.self state;
    }
