use Rattle.std.proofs.Common.{ap, ◌∙◌, rules, ◌∷◌, []}
use Rattle.std.specs.Prelude.{ℤ, FitsSigned}
use Rattle.std.specs.Int.{w64}
use Rattle.std.proofs.lemmas.Int.{to_z-of_z}
use Rattle.band_shapes.specs.Bands.{sign_of}
use Rattle.band_shapes.specs.Forms.{sign_in}
use Rattle.band_shapes.proofs.SideLemmas.{one_set}
use Rattle.band_shapes.proofs.sides.signed.Goals as goal

pub returns-clause-value : goal.returns-clause-value
returns-clause-value c =
    let f : FitsSigned w64 c.sign_of.result = search rules in
    let e = c.sign_of.ensures ∙ ap sign_of (c.sign_in.ensures ∙ ap sign_in c.node_at.ensures) in
    one_set c.args.x.now _ c.requires.count ∙ ap (λ (z : ℤ). z ∷ []) (to_z-of_z w64 c.sign_of.result f ∙ e)
