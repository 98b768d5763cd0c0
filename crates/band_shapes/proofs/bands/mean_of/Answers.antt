use Rattle.std.proofs.Common.{◌≡◌, ◌≤◌, ◌<◌, ◌^◌, ℕ, get_or, length, ◌∙◌, arith, rules}
use Rattle.std.specs.Prelude.{ℤ, pos, ◌+ℤ◌, FitsSigned, unsigned_abs}
use Rattle.std.specs.Int.{w64, int_shr}
use Rattle.std.proofs.lemmas.Int.{to_z-of_z, fits_signed_from_abs}
use Rattle.std.proofs.lemmas.List.Elements.{All-set}
use Rattle.band_shapes.proofs.BandLemmas.{means_start, means_step, means_all}
use Rattle.band_shapes.proofs.bands.mean_of.Goals as goal

pub mean-requires : goal.mean-requires
mean-requires c =
    let i : ℕ = c.loop-i.i in
    let f : FitsSigned w64 (get_or c.loop-i.left i (pos 0)) = search rules in
    let g : FitsSigned w64 (get_or c.args.right.now i (pos 0)) = search rules in
    simp to_z-of_z (record { x = c.loop-i.invariant.1 i (pos 0) (omega arith); y = c.requires.right i (pos 0) (omega (arith, c.requires.lengths)) })

pub loop-i-init : goal.loop-i-init
loop-i-init c = (means_start c.args.left.now c.args.right.now, c.requires.left)

pub loop-i-preserved : goal.loop-i-preserved
loop-i-preserved c =
    let i : ℕ = c.loop-i.i in
    let x : ℤ = get_or c.loop-i.left i (pos 0) in
    let y : ℤ = get_or c.args.right.now i (pos 0) in
    let f : FitsSigned w64 x = search rules in
    let g : FitsSigned w64 y = search rules in
    let s : unsigned_abs c.mean.result ≤ 2 ^ 19 = c.mean.ensures.size in
    let h : FitsSigned w64 c.mean.result = fits_signed_from_abs w64 c.mean.result (omega (arith, s)) in
    let e : c.mean.result ≡ int_shr (x +ℤ y) 1 = simp to_z-of_z at c.mean.ensures.value in
    let less : i < length c.args.left.now = omega arith in
    simp to_z-of_z (means_step i c.args.left.now c.args.right.now c.loop-i.left c.mean.result c.requires.lengths less c.loop-i.invariant.0 e, All-set (λ v. unsigned_abs v ≤ 2 ^ 19) c.loop-i.left i c.mean.result s c.loop-i.invariant.1)

pub returns-clause-value : goal.returns-clause-value
returns-clause-value c = c.loop-i.invariant.0 ∙ means_all c.args.left.now c.args.right.now c.loop-i.i c.requires.lengths (omega arith)

pub returns-clause-size : goal.returns-clause-size
returns-clause-size c = c.loop-i.invariant.1
