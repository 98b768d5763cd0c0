use Rattle.std.proofs.Common.{◌≡◌, arith, rules, get_or, ap, ◌∙◌}
use Rattle.std.specs.Prelude.{ℤ, pos, FitsSigned}
use Rattle.std.specs.Int.{w64}
use Rattle.std.proofs.lemmas.Int.{to_z-of_z}
use Rattle.fixed_math.proofs.ItemLemmas.{put_next}
use Rattle.fixed_math.specs.Bitexact.{product}
use Rattle.fixed_math.specs.Items.{item}
use Rattle.band_shapes.proofs.CopyLemmas.{copy_end, copy_size}
use Rattle.band_shapes.proofs.copies.copy_shape.Goals as goal

pub loop-i-preserved : goal.loop-i-preserved
loop-i-preserved c =
    let x : ℤ = get_or c.args.x.now c.loop-i.i (pos 0) in
    let f : FitsSigned w64 x = search rules in
    let g : FitsSigned w64 c.times.result = search rules in
    let e : c.times.result ≡ product (pos c.root_of-f.result) x = c.times.ensures ∙ ap (product (pos c.root_of-f.result)) (to_z-of_z w64 x f) in
    put_next c.loop-i.out c.loop-i.i (λ p. product (pos c.root_of-f.result) (item c.args.x.now p)) _ (omega arith) (to_z-of_z w64 c.times.result g ∙ e) c.loop-i.invariant

pub returns-clause-value : goal.returns-clause-value
returns-clause-value c = copy_end c.args.x.now c.loop-i.out c.root_of-f.result (omega arith) c.root_of-f.ensures.value (λ p h. c.loop-i.invariant p (omega arith))

pub returns-clause-size : goal.returns-clause-size
returns-clause-size c = copy_size c.args.x.now c.loop-i.out c.root_of-f.result (omega arith) c.root_of-f.ensures.size c.requires.items (λ p h. c.loop-i.invariant p (omega arith))
