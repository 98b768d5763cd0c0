use Rattle.std.proofs.Common.{◌≡◌, ◌∙◌, ◌*◌, ℕ, ℤ, List, ap, refl, replicate, length, pos, w32, FitsSigned, arith}
use Rattle.std.proofs.lemmas.Int.{to_z-of_z, fits_signed_from_abs}
use Rattle.celt_synth.specs.Blocks.{blocks_of}
use Rattle.celt_synth.specs.Decoders.{with_state}
use Rattle.celt_synth.specs.Rows.{greater}
use Rattle.celt_synth.specs.Shared.{silent_energies}
use Rattle.celt_synth.specs.Steps.{no_spectrum, made_silent, state_after, samples_of}
use Rattle.celt_synth.proofs.StepLemmas.{silent_made}
use Rattle.celt_synth.proofs.decoder.Decoder.rest.Goals as goal

pub returns-clause-state : goal.returns-clause-state
unfolding state_after
returns-clause-state c =
    let kind = c.args.kind in
    let v = c.self.view_is in
    let s = c.args.self.now.state in
    let made = made_silent kind c.args.range (silent_energies kind s.energies) in
    let count : c.blocks-count.result ≡ blocks_of kind = c.blocks-count.ensures.value in
    let left : c.fill.new.self ≡ no_spectrum kind = c.fill.ensures.after (λ y h. h) ∙ ap (λ n. replicate n (pos 0)) (c.split_at_mut-left.ensures.front_len ∙ ap (λ n. 120 * n) count) in
    let right : c.fill-2.new.self ≡ no_spectrum kind = c.fill-2.ensures.after (λ y h. h) ∙ ap (λ n. replicate n (pos 0)) (c.split_at_mut-right.ensures.front_len ∙ ap (λ n. 120 * n) count) in
    c.finish.ensures.state made
    (silent_made kind _ _ s.energies c.args.range _ _ _ (c.take_greater.ensures.value ∙ ap (λ x. greater kind.channels x.state.energies) v) c.silence.ensures.value left right refl c.off.ensures refl refl)
    ∙ (λ k. with_state (v k) (state_after (v k).channels kind made (v k).state))

pub returns-clause-samples : goal.returns-clause-samples
unfolding samples_of
returns-clause-samples c =
    let kind = c.args.kind in
    let v = c.self.view_is in
    let s = c.args.self.now.state in
    let fg : FitsSigned w32 c.args.gain = fits_signed_from_abs w32 _ (let g = c.requires.gain in omega (arith, g)) in
    let made = made_silent kind c.args.range (silent_energies kind s.energies) in
    let count : c.blocks-count.result ≡ blocks_of kind = c.blocks-count.ensures.value in
    let left : c.fill.new.self ≡ no_spectrum kind = c.fill.ensures.after (λ y h. h) ∙ ap (λ n. replicate n (pos 0)) (c.split_at_mut-left.ensures.front_len ∙ ap (λ n. 120 * n) count) in
    let right : c.fill-2.new.self ≡ no_spectrum kind = c.fill-2.ensures.after (λ y h. h) ∙ ap (λ n. replicate n (pos 0)) (c.split_at_mut-right.ensures.front_len ∙ ap (λ n. 120 * n) count) in
    let e = simp to_z-of_z at (c.finish.ensures.samples made
    (silent_made kind _ _ s.energies c.args.range _ _ _ (c.take_greater.ensures.value ∙ ap (λ x. greater kind.channels x.state.energies) v) c.silence.ensures.value left right refl c.off.ensures refl refl)) in
    e ∙ (λ k. samples_of (v k).channels kind c.args.gain made (v k).state)
