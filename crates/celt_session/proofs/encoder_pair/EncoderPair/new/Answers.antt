use Rattle.std.proofs.Common.{inl, inr, refl, sym, ap, subst, ◌∙◌}
use Rattle.std.specs.Prelude.{None}
use Rattle.celt_encode.specs.Encoders.{new_encoder}
use Rattle.celt_session.specs.declared.encoder_pair.EncoderPair.{EncoderPair}
use Rattle.celt_session.specs.EncoderPairs.{MakesEither}
use Rattle.celt_session.specs.Encoding.{coding_of, toc_of}
use Rattle.celt_session.specs.Frames.{kind_of, duration}
use Rattle.celt_session.proofs.PairSteps.{makes_mono, makes_stereo, can_turn}
use Rattle.celt_session.proofs.Planned.{duration_for}
use Rattle.celt_session.proofs.encoder_pair.EncoderPair.new.Goals as goal

pub returns-clause-makes : goal.returns-clause-makes
unfolding new_encoder
returns-clause-makes c = λ channels either.
    let p : EncoderPair = record { work = c.in-Ok.work; mono = c.in-Ok-new.mono; begun = None } in
    let stereo = c.plan_of.result.kind_is ∙ ap kind_of c.plan_of.ensures.toc in
    let mono = c.plan_of-2.result.kind_is ∙ ap kind_of c.plan_of-2.ensures.toc in
    let same = ap duration mono ∙ (duration_for c.args.settings 1 c.requires (inl refl) ∙ sym (duration_for c.args.settings 2 c.requires (inr refl)) ∙ sym (ap duration stereo)) in
    let can = can_turn c.in-Ok.work c.in-Ok-new.mono c.plan_of-2.result.kind c.plan_of.result.kind (ap (λ e. e.kind) c.in-Ok-new.ensures) c.plan_of-2.ensures.channels c.plan_of.ensures.channels same c.in-Ok.ensures.makes in
    elim either [
      | inl one ↦
          subst (λ n. MakesEither p (kind_of (toc_of (coding_of c.args.settings) n))) (sym one)
          (subst (MakesEither p) mono (makes_mono p c.plan_of-2.result.kind refl c.plan_of-2.ensures.channels can))
      | inr two ↦
          subst (λ n. MakesEither p (kind_of (toc_of (coding_of c.args.settings) n))) (sym two)
          (subst (MakesEither p) stereo (makes_stereo p c.plan_of.result.kind refl c.plan_of.ensures.channels c.in-Ok.ensures.makes))
    ]

pub returns-clause-shows : goal.returns-clause-shows
unfolding new_encoder
returns-clause-shows c = record {
  work = c.in-Ok.ensures.shows;
  other = λ new. record { kind_is = refl; shared = ap (λ e. e.shared) c.in-Ok-new.ensures; made = ap (λ e. e.made) c.in-Ok-new.ensures };
}
