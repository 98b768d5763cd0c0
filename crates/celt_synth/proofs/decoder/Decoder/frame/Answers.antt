use Rattle.std.proofs.Common.{◌≡◌, ◌∙◌, ap, sym, subst, false, true, get_or, pos, w32, FitsSigned, arith}
use Rattle.std.specs.Prelude.{◌<ℤ◌}
use Rattle.std.proofs.lemmas.Int.{to_z-of_z, fits_signed_from_abs}
use Rattle.frame_symbols.specs.Readings.{reading_of}
use Rattle.celt_synth.specs.Decoders.{with_state}
use Rattle.celt_synth.specs.Readings.{heard_of, shaped_of}
use Rattle.celt_synth.specs.Rows.{greater}
use Rattle.celt_synth.specs.Shared.{energies_in, silent_energies}
use Rattle.celt_synth.specs.Steps.{made_silent, made_sounding, shapes_in, state_after, samples_of}
use Rattle.celt_synth.proofs.FrameLemmas.{step_read}
use Rattle.celt_synth.proofs.ReadingLemmas.{suits_held, hears_held, not_silent, step_silent, step_sounding, pulses_most}
use Rattle.celt_synth.proofs.SharingLemmas.{changed_in}
use Rattle.celt_synth.proofs.decoder.Decoder.frame.Goals as goal

pub returns-then-silent-clause-state : goal.returns-then-silent-clause-state
returns-then-silent-clause-state c = λ value h.
    let d = c.args.self.now in
    let kind = c.args.kind in
    let f = c.args.s.now.fields in
    let e : f.silent ≡ true = sym c.silent.ensures ∙ c.if-silent.true in
    c.rest.ensures.state
    ∙ ap (λ n. with_state d (state_after d.channels kind (made_silent kind n (silent_energies kind d.state.energies)) d.state)) c.range.ensures
    ∙ ap (λ p. with_state d p.state) (step_silent d.channels kind f c.args.s.now.range value (shaped_of kind value d.invert) c.args.gain d.state h e)

pub returns-then-silent-clause-samples : goal.returns-then-silent-clause-samples
returns-then-silent-clause-samples c = λ value h.
    let d = c.args.self.now in
    let kind = c.args.kind in
    let f = c.args.s.now.fields in
    let fg : FitsSigned w32 c.args.gain = fits_signed_from_abs w32 _ (let g = c.requires.gain in omega (arith, g)) in
    let e : f.silent ≡ true = sym c.silent.ensures ∙ c.if-silent.true in
    let r : c.rest.new.out ≡ samples_of d.channels kind c.args.gain (made_silent kind c.range.result (silent_energies kind d.state.energies)) d.state = simp to_z-of_z at c.rest.ensures.samples in
    r ∙ ap (λ n. samples_of d.channels kind c.args.gain (made_silent kind n (silent_energies kind d.state.energies)) d.state) c.range.ensures
    ∙ ap (λ p. p.samples) (step_silent d.channels kind f c.args.s.now.range value (shaped_of kind value d.invert) c.args.gain d.state h e)

pub sound_shapes-requires-clause-most : goal.sound_shapes-requires-clause-most
sound_shapes-requires-clause-most c = λ b l.
    let kind = c.args.kind in
    let f = c.args.s.now.fields in
    let e : f.silent ≡ false = sym c.silent.ensures ∙ c.if-silent.false in
    let suits = suits_held kind f c.requires.held.0 c.requires.held.1 e in
    subst (λ xs. get_or xs b (pos 0) <ℤ pos 1048576) (sym c.shape-shaping.ensures.shaped.pulses_are) (pulses_most kind f.allocation suits.allocation b l)

pub returns-clause-state : goal.returns-clause-state
unfolding state_after made_sounding shapes_in
returns-clause-state c = λ value h.
    let d = c.args.self.now in
    let kind = c.args.kind in
    let f = c.args.s.now.fields in
    let range = c.args.s.now.range in
    let e : f.silent ≡ false = sym c.silent.ensures ∙ c.if-silent.false in
    let v = c.self.view_is ∙ c.shape-shaping.ensures.same in
    let heard = heard_of kind range value in
    let shaped = shaped_of kind value d.invert d.state.seed in
    let hears = hears_held kind f range d.invert d.state.seed c.shape-shaping.result c.shape-shaping.new.left c.shape-shaping.new.right value c.shape-shaping.ensures.shaped h e in
    let es : c.hear_energies.new.energies ≡ heard.changed (greater kind.channels d.state.energies) =
    c.hear_energies.ensures.value value h ∙ ap (λ x. energies_in kind heard x.state.energies) v ∙ sym (changed_in kind f range value d.state.energies h e) in
    c.sound_shapes.ensures.state heard shaped hears
    ∙ (λ k. with_state (v k) (state_after (v k).channels kind (made_sounding kind heard shaped c.hear_energies.new.energies (v k).state) (v k).state))
    ∙ ap (λ p. with_state d p.state) (step_sounding d.channels kind heard (shaped_of kind value d.invert) c.args.gain d.state c.hear_energies.new.energies (not_silent kind f range value h e) es)

pub returns-clause-samples : goal.returns-clause-samples
unfolding samples_of made_sounding shapes_in
returns-clause-samples c = λ value h.
    let d = c.args.self.now in
    let kind = c.args.kind in
    let f = c.args.s.now.fields in
    let range = c.args.s.now.range in
    let fg : FitsSigned w32 c.args.gain = fits_signed_from_abs w32 _ (let n = c.requires.gain in omega (arith, n)) in
    let e : f.silent ≡ false = sym c.silent.ensures ∙ c.if-silent.false in
    let v = c.self.view_is ∙ c.shape-shaping.ensures.same in
    let heard = heard_of kind range value in
    let shaped = shaped_of kind value d.invert d.state.seed in
    let hears = hears_held kind f range d.invert d.state.seed c.shape-shaping.result c.shape-shaping.new.left c.shape-shaping.new.right value c.shape-shaping.ensures.shaped h e in
    let es : c.hear_energies.new.energies ≡ heard.changed (greater kind.channels d.state.energies) =
    c.hear_energies.ensures.value value h ∙ ap (λ x. energies_in kind heard x.state.energies) v ∙ sym (changed_in kind f range value d.state.energies h e) in
    let r = simp to_z-of_z at (c.sound_shapes.ensures.samples heard shaped hears) in
    r
    ∙ (λ k. samples_of (v k).channels kind c.args.gain (made_sounding kind heard shaped c.hear_energies.new.energies (v k).state) (v k).state)
    ∙ ap (λ p. p.samples) (step_sounding d.channels kind heard (shaped_of kind value d.invert) c.args.gain d.state c.hear_energies.new.energies (not_silent kind f range value h e) es)

pub returns-then-silent-clause-read_state : goal.returns-then-silent-clause-read_state
returns-then-silent-clause-read_state c = λ frame some r.
    let d = c.args.self.now in
    returns-then-silent-clause-state c (reading_of c.args.kind frame).value r.holds ∙ ap (λ p. with_state d p.state) (step_read d.channels d.invert c.args.kind frame c.args.gain d.state c.args.s.now.range some r.range_is)

pub returns-then-silent-clause-read_samples : goal.returns-then-silent-clause-read_samples
returns-then-silent-clause-read_samples c = λ frame some r.
    let d = c.args.self.now in
    returns-then-silent-clause-samples c (reading_of c.args.kind frame).value r.holds ∙ ap (λ p. p.samples) (step_read d.channels d.invert c.args.kind frame c.args.gain d.state c.args.s.now.range some r.range_is)

pub returns-clause-read_state : goal.returns-clause-read_state
returns-clause-read_state c = λ frame some r.
    let d = c.args.self.now in
    returns-clause-state c (reading_of c.args.kind frame).value r.holds ∙ ap (λ p. with_state d p.state) (step_read d.channels d.invert c.args.kind frame c.args.gain d.state c.args.s.now.range some r.range_is)

pub returns-clause-read_samples : goal.returns-clause-read_samples
returns-clause-read_samples c = λ frame some r.
    let d = c.args.self.now in
    returns-clause-samples c (reading_of c.args.kind frame).value r.holds ∙ ap (λ p. p.samples) (step_read d.channels d.invert c.args.kind frame c.args.gain d.state c.args.s.now.range some r.range_is)
