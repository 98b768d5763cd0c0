use Rattle.std.proofs.Common.{◌≡◌, ◌∙◌, ◌≤◌, ap, ◌*◌, subst, sym, refl, arith, w32, FitsSigned}
use Rattle.std.proofs.lemmas.Int.{to_z-of_z, fits_signed_from_abs}
use Rattle.celt_synth.specs.declared.signals.Form.{Form}
use Rattle.mdct_fixed.specs.Mdct.{IsSize}
use Rattle.celt_synth.specs.Decoders.{with_state, state_ended, state_sounded, samples_sounded}
use Rattle.celt_synth.proofs.StepLemmas.{blocks_size, form_is, state_finished, samples_finished}
use Rattle.celt_synth.proofs.decoder.Decoder.finish.Goals as goal

pub sound-requires-clause-size : goal.sound-requires-clause-size
sound-requires-clause-size c = subst (λ m. IsSize (120 * m)) (sym c.blocks-2.ensures.value) (blocks_size c.args.kind)

pub returns-clause-state : goal.returns-clause-state
returns-clause-state c = λ made r.
    let d = c.args.self.now in
    let kind = c.args.kind in
    let some : 1 ≤ d.channels = subst (λ x. 1 ≤ x.channels) c.self.view_is c.self.invariant.some in
    let form = form_is kind c.args.ending d.state _ c.blocks-2.ensures.value refl (ap (λ x. x.state.before) c.self.view_is) (ap (λ x. x.state.now) c.self.view_is) refl in
    c.end.ensures ∙ ap (λ x. with_state x (state_ended kind c.args.ending x.state)) c.sound.ensures.state
    ∙ ap (with_state d) (ap (λ f. state_ended kind c.args.ending (state_sounded d.channels kind.channels f c.args.left.now c.args.right.now d.state)) form ∙ state_finished d.channels kind c.args.ending c.args.left.now c.args.right.now made d.state some r)

pub returns-clause-samples : goal.returns-clause-samples
returns-clause-samples c = λ made r.
    let d = c.args.self.now in
    let kind = c.args.kind in
    let fg : FitsSigned w32 c.args.gain = fits_signed_from_abs w32 _ (let g = c.requires.gain in omega (arith, g)) in
    let some : 1 ≤ d.channels = subst (λ x. 1 ≤ x.channels) c.self.view_is c.self.invariant.some in
    let f : Form = record { blocks = c.blocks-2.result; transient = c.args.ending.transient; before = c.self.inside.before; now = c.self.inside.now; frame = c.args.ending.setting } in
    let form = form_is kind c.args.ending d.state f c.blocks-2.ensures.value refl (ap (λ x. x.state.before) c.self.view_is) (ap (λ x. x.state.now) c.self.view_is) refl in
    let e : c.sound.new.out ≡ samples_sounded d.channels kind.channels c.args.gain f c.args.left.now c.args.right.now d.state = simp to_z-of_z at c.sound.ensures.samples in
    e ∙ ap (λ x. samples_sounded d.channels kind.channels c.args.gain x c.args.left.now c.args.right.now d.state) form
    ∙ samples_finished d.channels kind c.args.gain c.args.ending c.args.left.now c.args.right.now made d.state some r
