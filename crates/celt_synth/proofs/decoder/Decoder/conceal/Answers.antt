use Rattle.std.proofs.Common.{◌≡◌, ◌∙◌, ap, refl, w32, FitsSigned, arith}
use Rattle.std.proofs.lemmas.Int.{to_z-of_z, fits_signed_from_abs}
use Rattle.celt_synth.specs.Concealment.{noise_shapes}
use Rattle.celt_synth.specs.Decoders.{with_state}
use Rattle.celt_synth.specs.Rows.{greater}
use Rattle.celt_synth.specs.Steps.{conceal, made_concealed, state_after, samples_of, spectrum_in}
use Rattle.celt_synth.proofs.StepLemmas.{concealed_made}
use Rattle.celt_synth.proofs.decoder.Decoder.conceal.Goals as goal

pub returns-clause-state : goal.returns-clause-state
unfolding conceal state_after
returns-clause-state c =
    let kind = c.args.kind in
    let v = c.self.view_is in
    let made = made_concealed kind c.args.self.now.state in
    let seed = ap (λ x. x.state.seed) v in
    let noise = c.noise_spectra-seed.ensures in
    c.finish.ensures.state made
    (concealed_made kind c.args.self.now.state _ _ _ _ _ (c.take_greater.ensures.value ∙ ap (λ x. greater kind.channels x.state.energies) v) c.lower.ensures.value
    (noise.left ∙ ap (λ n. spectrum_in kind c.lower.new.energies 0 (noise_shapes kind kind.end n).left) seed)
    (λ two. noise.right two ∙ ap (λ n. spectrum_in kind c.lower.new.energies 1 (noise_shapes kind kind.end n).right) seed)
    refl c.off.ensures refl (noise.seed ∙ ap (λ n. (noise_shapes kind kind.end n).seed) seed))
    ∙ (λ k. with_state (v k) (state_after (v k).channels kind made (v k).state))

pub returns-clause-samples : goal.returns-clause-samples
unfolding conceal samples_of
returns-clause-samples c =
    let kind = c.args.kind in
    let v = c.self.view_is in
    let fg : FitsSigned w32 c.args.gain = fits_signed_from_abs w32 _ (let g = c.requires.gain in omega (arith, g)) in
    let made = made_concealed kind c.args.self.now.state in
    let seed = ap (λ x. x.state.seed) v in
    let noise = c.noise_spectra-seed.ensures in
    let e = simp to_z-of_z at (c.finish.ensures.samples made
    (concealed_made kind c.args.self.now.state _ _ _ _ _ (c.take_greater.ensures.value ∙ ap (λ x. greater kind.channels x.state.energies) v) c.lower.ensures.value
    (noise.left ∙ ap (λ n. spectrum_in kind c.lower.new.energies 0 (noise_shapes kind kind.end n).left) seed)
    (λ two. noise.right two ∙ ap (λ n. spectrum_in kind c.lower.new.energies 1 (noise_shapes kind kind.end n).right) seed)
    refl c.off.ensures refl (noise.seed ∙ ap (λ n. (noise_shapes kind kind.end n).seed) seed))) in
    e ∙ (λ k. samples_of (v k).channels kind c.args.gain made (v k).state)
