use Rattle.std.proofs.Common.{◌≡◌, ◌∙◌, ◌^◌, ◌≤◌, ap, refl, take, replicate, pos, w32, FitsSigned, arith}
use Rattle.std.specs.Prelude.{unsigned_abs}
use Rattle.std.proofs.lemmas.Int.{to_z-of_z, fits_signed_from_abs}
use Rattle.std.proofs.lemmas.List.Elements.{All-same, All-take, All-replicate}
use Rattle.celt_synth.specs.Steps.{made_sounding, spectrum_in}
use Rattle.celt_synth.specs.declared.anti_collapse.Grounds.{Grounds}
use Rattle.celt_synth.proofs.StepLemmas.{sounding_made}
use Rattle.celt_synth.proofs.decoder.Decoder.sound_shapes.Goals as goal

pub amplify_second-requires-clause-old_sizes : goal.amplify_second-requires-clause-old_sizes
amplify_second-requires-clause-old_sizes c =
    All-same (λ v. unsigned_abs v ≤ 2 ^ 30) _ (take _ (replicate 960 (pos 0))) c.split_at_mut-right_spectrum.ensures.front
    (All-take (λ v. unsigned_abs v ≤ 2 ^ 30) _ (replicate 960 (pos 0)) (All-replicate (λ v. unsigned_abs v ≤ 2 ^ 30) 960 (pos 0) (omega arith)))

pub returns-clause-state : goal.returns-clause-state
returns-clause-state c = λ heard shaped r.
    let kind = c.args.kind in
    let s = c.args.self.now.state in
    let v = c.self.view_is in
    let p = c.args.shaping.now in
    let e = ap (λ x. x.state.energies) v in
    let g : Grounds = record { kind = kind; pulses = p.pulses; masks = p.masks; energies = c.self.inside.energies; older1 = c.self.inside.older1; older2 = c.self.inside.older2 } in
    c.finish.ensures.state (made_sounding kind heard shaped s.energies s)
    (sounding_made kind p heard shaped s g _ c.args.left.now c.args.right.now _ _ _ _ r
    (λ k. record { kind = kind; pulses = p.pulses; masks = p.masks; energies = (v k).state.energies; older1 = (v k).state.older1; older2 = (v k).state.older2 })
    c.fill_if.ensures.left c.fill_if.ensures.right
    (c.amplify_channel.ensures.value ∙ ap (λ es. spectrum_in kind es 0 c.fill_if.new.left) e) (λ two. c.amplify_second.ensures.value two ∙ ap (λ es. spectrum_in kind es 1 c.fill_if.new.right) e)
    refl refl refl refl)

pub returns-clause-samples : goal.returns-clause-samples
returns-clause-samples c = λ heard shaped r.
    let kind = c.args.kind in
    let s = c.args.self.now.state in
    let v = c.self.view_is in
    let p = c.args.shaping.now in
    let fg : FitsSigned w32 c.args.gain = fits_signed_from_abs w32 _ (let h = c.requires.gain in omega (arith, h)) in
    let e = ap (λ x. x.state.energies) v in
    let g : Grounds = record { kind = kind; pulses = p.pulses; masks = p.masks; energies = c.self.inside.energies; older1 = c.self.inside.older1; older2 = c.self.inside.older2 } in
    simp to_z-of_z at (c.finish.ensures.samples (made_sounding kind heard shaped s.energies s)
    (sounding_made kind p heard shaped s g _ c.args.left.now c.args.right.now _ _ _ _ r
    (λ k. record { kind = kind; pulses = p.pulses; masks = p.masks; energies = (v k).state.energies; older1 = (v k).state.older1; older2 = (v k).state.older2 })
    c.fill_if.ensures.left c.fill_if.ensures.right
    (c.amplify_channel.ensures.value ∙ ap (λ es. spectrum_in kind es 0 c.fill_if.new.left) e) (λ two. c.amplify_second.ensures.value two ∙ ap (λ es. spectrum_in kind es 1 c.fill_if.new.right) e)
    refl refl refl refl))
