use Rattle.std.proofs.Common.{◌≡◌, ◌-◌, ◌^◌, ◌≤◌, w32, w64, unsigned_abs, sym, ◌∙◌, ap, subst, arith}
use Rattle.std.proofs.lemmas.Int.{to_z-of_z, fits_signed_from_abs}
use Rattle.celt_base.specs.Paces.{tell_of}
use Rattle.band_energy.specs.EnergyScripts.{question_for}
use Rattle.band_energy.proofs.CoarseSteps.{value_asked, value_unasked, heard_within, same_value}
use Rattle.band_energy.proofs.coarse_walk.ask_energy.Goals as goal

pub overflow_cast-result : goal.overflow_cast-result
overflow_cast-result g c =
    let small : unsigned_abs c.ask_value_at.result ≤ 2 ^ 14 =
    heard_within c.args.terms.kind.lm c.args.terms.intra c.args.band c.saturating_sub-left.result c.args.band c.args.channel c.in-Some.question
    c.ask_value_at.result (sym c.question_for.ensures.value ∙ c.in-Some.is) c.in-Some.ensures.valid c.ask_value_at.ensures.is_value in
    rw (to_z-of_z w64 c.ask_value_at.result (record { sfits = c.ask_value_at.type_inv }))
    (fits_signed_from_abs w32 c.ask_value_at.result (omega arith))

pub returns-in-Some-clause-size : goal.returns-in-Some-clause-size
returns-in-Some-clause-size g c =
    let small : unsigned_abs c.ask_value_at.result ≤ 2 ^ 14 =
    heard_within c.args.terms.kind.lm c.args.terms.intra c.args.band c.saturating_sub-left.result c.args.band c.args.channel c.in-Some.question
    c.ask_value_at.result (sym c.question_for.ensures.value ∙ c.in-Some.is) c.in-Some.ensures.valid c.ask_value_at.ensures.is_value in
    subst (λ v. unsigned_abs v ≤ 2 ^ 14) (sym (same_value c.ask_value_at.result (record { sfits = c.ask_value_at.type_inv }) small)) small

pub returns-in-Some-clause-walked : goal.returns-in-Some-clause-walked
returns-in-Some-clause-walked g c =
    let terms = c.args.terms in
    let small : unsigned_abs c.ask_value_at.result ≤ 2 ^ 14 =
    heard_within terms.kind.lm terms.intra c.args.band c.saturating_sub-left.result c.args.band c.args.channel c.in-Some.question
    c.ask_value_at.result (sym c.question_for.ensures.value ∙ c.in-Some.is) c.in-Some.ensures.valid c.ask_value_at.ensures.is_value in
    let left : c.saturating_sub-left.result ≡ terms.budget - tell_of (g.C.Coder.calls.pace c.args.coder.now) =
    c.saturating_sub-left.ensures ∙ ap (λ n. terms.budget - n) c.tell.ensures.value in
    rw (same_value c.ask_value_at.result (record { sfits = c.ask_value_at.type_inv }) small)
    (value_asked terms.kind.lm terms.intra terms.budget c.args.band c.args.channel c.in-Some.question
    (ap (question_for terms.kind.lm terms.intra c.args.band) (sym left) ∙ sym c.question_for.ensures.value ∙ c.in-Some.is)
    c.ask_value_at.ensures.walked)

pub returns-in-None-clause-walked : goal.returns-in-None-clause-walked
returns-in-None-clause-walked g c =
    let terms = c.args.terms in
    let left : c.saturating_sub-left.result ≡ terms.budget - tell_of (g.C.Coder.calls.pace c.args.coder.now) =
    c.saturating_sub-left.ensures ∙ ap (λ n. terms.budget - n) c.tell.ensures.value in
    value_unasked terms.kind.lm terms.intra terms.budget c.args.band c.args.channel
    (ap (question_for terms.kind.lm terms.intra c.args.band) (sym left) ∙ sym c.question_for.ensures.value ∙ c.in-None.is)
