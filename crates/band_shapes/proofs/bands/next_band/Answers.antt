use Rattle.std.proofs.Common.{◌≤◌, ◌^◌, ◌∙◌, sym, subst, arith, length, refl, List}
use Rattle.band_plan.specs.declared.symbols.Node.{Node}
use Rattle.band_shapes.proofs.NextLemmas.{start_fits, before_small, can_band, form_as, step_here, made_next, sound_next, fills_are, joined_as, walked_as}
use Rattle.band_shapes.specs.Frames.{symbols_of}
use Rattle.band_shapes.proofs.bands.next_band.Goals as goal

pub layout_for-layout-requires-clause-tf : goal.layout_for-layout-requires-clause-tf
layout_for-layout-requires-clause-tf c = c.requires.can.tf

pub plan_for-plan-requires-clause-before : goal.plan_for-plan-requires-clause-before
plan_for-plan-requires-clause-before c = c.requires.sound.low

pub join_norms-requires-clause-left : goal.join_norms-requires-clause-left
join_norms-requires-clause-left c =
    let b = start_fits c.args.frame.now.kind (symbols_of c.args.frame.now.symbols.now) c.args.i c.layout_for-layout.result c.plan_for-plan.result _ c.requires.band c.layout_for-layout.ensures.value c.plan_for-plan.ensures.value in
    omega (arith, b)

pub join_norms-requires-clause-right : goal.join_norms-requires-clause-right
join_norms-requires-clause-right c =
    let b = start_fits c.args.frame.now.kind (symbols_of c.args.frame.now.symbols.now) c.args.i c.layout_for-layout.result c.plan_for-plan.result _ c.requires.band c.layout_for-layout.ensures.value c.plan_for-plan.ensures.value in
    omega (arith, b)

pub join_norms-requires-clause-left_size : goal.join_norms-requires-clause-left_size
join_norms-requires-clause-left_size c =
    before_small c.args.frame.now.kind (symbols_of c.args.frame.now.symbols.now) c.args.i c.layout_for-layout.result c.plan_for-plan.result _ (2 ^ 19) _ c.plan_for-plan.ensures.value c.requires.sound.left_norm

pub join_norms-requires-clause-right_size : goal.join_norms-requires-clause-right_size
join_norms-requires-clause-right_size c =
    before_small c.args.frame.now.kind (symbols_of c.args.frame.now.symbols.now) c.args.i c.layout_for-layout.result c.plan_for-plan.result _ (2 ^ 19) _ c.plan_for-plan.ensures.value c.requires.sound.right_norm

pub band-made-requires-clause-can : goal.band-made-requires-clause-can
band-made-requires-clause-can c =
    can_band c.args.frame.now.kind (symbols_of c.args.frame.now.symbols.now) c.args.i c.layout_for-layout.result c.plan_for-plan.result c.args.lines.now _ c.args.walked.now _ c.requires.band c.requires.can c.layout_for-layout.ensures.value c.layout_for-layout.ensures.count
    c.plan_for-plan.ensures.value c.plan_for-plan.ensures.low c.requires.sound c.join_norms.ensures.size refl (fills_are _ _ _ _ c.fill_of.ensures c.fill_of-2.ensures)

pub band-made-requires-clause-at : goal.band-made-requires-clause-at
band-made-requires-clause-at c = subst (λ (ns : List Node). c.args.walked.now.at ≤ length ns) (sym c.as_slice.ensures.value) c.requires.sound.at

pub band-made-requires-clause-form : goal.band-made-requires-clause-form
band-made-requires-clause-form c = form_as c.args.frame.now.kind (symbols_of c.args.frame.now.symbols.now) c.args.i c.layout_for-layout.result c.args.walked.now.at c.as_slice.result.now c.layout_for-layout.ensures.value c.as_slice.ensures.value c.requires.form

pub returns-clause-made : goal.returns-clause-made
returns-clause-made c =
    made_next c.args.frame.now.kind (symbols_of c.args.frame.now.symbols.now) c.args.frame.now.invert c.args.i c.layout_for-layout.result c.plan_for-plan.result c.args.lines.now _ _ c.args.walked.now _ _ c.requires.band c.layout_for-layout.ensures.value c.plan_for-plan.ensures.value
    (step_here c.args.frame.now.kind (symbols_of c.args.frame.now.symbols.now) c.args.frame.now.invert c.args.i _ c.layout_for-layout.result c.plan_for-plan.result c.args.lines.now _ _ c.args.walked.now _ c.band-made.result _ c.as_slice.result.now c.layout_for-layout.ensures.value c.plan_for-plan.ensures.value c.as_slice.ensures.value
    (fills_are _ _ _ _ c.fill_of.ensures c.fill_of-2.ensures) refl refl refl (c.join_norms.ensures.value ∙ joined_as _ _ _ _ c.joins.ensures) c.join_norms.ensures.size c.band-made.ensures.made c.band-made.ensures.rest c.band-made.ensures.at (walked_as _ _ _ _ _ _ _ c.is_rich-walked.ensures))

pub returns-clause-sound : goal.returns-clause-sound
returns-clause-sound c =
    sound_next c.args.frame.now.kind (symbols_of c.args.frame.now.symbols.now) c.args.frame.now.invert c.args.i c.layout_for-layout.result c.plan_for-plan.result c.args.lines.now _ _ c.args.walked.now _ _ c.requires.band c.layout_for-layout.ensures.value c.plan_for-plan.ensures.low c.requires.sound
    (step_here c.args.frame.now.kind (symbols_of c.args.frame.now.symbols.now) c.args.frame.now.invert c.args.i _ c.layout_for-layout.result c.plan_for-plan.result c.args.lines.now _ _ c.args.walked.now _ c.band-made.result _ c.as_slice.result.now c.layout_for-layout.ensures.value c.plan_for-plan.ensures.value c.as_slice.ensures.value
    (fills_are _ _ _ _ c.fill_of.ensures c.fill_of-2.ensures) refl refl refl (c.join_norms.ensures.value ∙ joined_as _ _ _ _ c.joins.ensures) c.join_norms.ensures.size c.band-made.ensures.made c.band-made.ensures.rest c.band-made.ensures.at (walked_as _ _ _ _ _ _ _ c.is_rich-walked.ensures))
