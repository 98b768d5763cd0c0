use Rattle.std.proofs.Common.{◌≡◌, ◌<◌, ℕ, ℤ, List, arith, subst, w64, FitsSigned, length}
use Rattle.std.specs.Prelude.{◌+ℤ◌, unsigned_abs}
use Rattle.std.specs.Int.{int_shr}
use Rattle.std.proofs.lemmas.Int.{to_z-of_z, fits_signed_from_abs}
use Rattle.fixed_math.specs.Items.{item}
use Rattle.fixed_math.proofs.ItemLemmas.{item_within}
use Rattle.celt_synth.proofs.StreamLemmas.{Mixing, mixing_begun, mixing_more, mixed}
use Rattle.celt_synth.proofs.streams.mix.Goals as goal

pub loop-p-init : goal.loop-p-init
loop-p-init c = mixing_begun c.args.left.now c.args.right.now c.requires.left_sizes

pub loop-p-preserved : goal.loop-p-preserved
loop-p-preserved c =
    let inv = c.loop-p.invariant in
    let a = item_within c.loop-p.left 1073741824 c.loop-p.p inv.sizes in
    let b = item_within c.args.right.now 1073741824 c.loop-p.p c.requires.right_sizes in
    let fa : FitsSigned w64 (item c.loop-p.left c.loop-p.p) = fits_signed_from_abs w64 _ (omega (arith, a)) in
    let fb : FitsSigned w64 (item c.args.right.now c.loop-p.p) = fits_signed_from_abs w64 _ (omega (arith, b)) in
    let fv : FitsSigned w64 c.half_sum.result = record { sfits = c.half_sum.type_inv } in
    let v : c.half_sum.result ≡ int_shr (item c.loop-p.left c.loop-p.p +ℤ item c.args.right.now c.loop-p.p) 1 = simp to_z-of_z at c.half_sum.ensures.value in
    let count = inv.count in
    simp to_z-of_z (mixing_more c.args.left.now c.args.right.now c.loop-p.left c.loop-p.p c.half_sum.result (omega (arith, count, c.loop-p-test.true)) v c.half_sum.ensures.size inv)

pub returns-clause-value : goal.returns-clause-value
returns-clause-value c =
    let inv = c.loop-p.invariant in
    let count = inv.count in
    let e : c.loop-p.p ≡ length c.args.left.now = (let a = c.loop-p-test.false in let b = c.loop-p.auto.p-end in omega (arith, a, b)) in
    mixed c.args.left.now c.args.right.now c.loop-p.left (subst (Mixing c.args.left.now c.args.right.now c.loop-p.left) e inv)
