use Rattle.std.proofs.Common.{◌≡◌, ℕ, ◌-◌, ◌*◌, ◌∙◌, sym, refl, arith, length}
use Rattle.std.specs.Prelude.{ℤ, FitsSigned}
use Rattle.std.specs.Int.{w64}
use Rattle.std.proofs.lemmas.Int.{to_z-of_z, fits_signed_from_abs}
use Rattle.fixed_math.specs.Items.{item}
use Rattle.mdct_fixed.specs.Numbers.{at, spun}
use Rattle.mdct_fixed.specs.Mdct.{turned_pairs, turn_angle}
use Rattle.mdct_fixed.proofs.MdctLemmas.{pairs_next, size_facts}
use Rattle.mdct_fixed.proofs.RowLemmas.{turned_none}
use Rattle.mdct_fixed.proofs.turns.turn_pairs.Goals as goal

pub loop-i-preserved : goal.loop-i-preserved
unfolding turned_pairs
loop-i-preserved c =
    let n : ℕ = length c.args.items.now in
    let i : ℕ = c.loop-i.i in
    let f = size_facts n c.requires.size in
    let even = f.even in
    let x : ℤ = item c.args.items.now (2 * i) in
    let y : ℤ = item c.args.items.now (n - 1 - 2 * i) in
    let sx = c.requires.small (2 * i) (omega arith) in
    let sy = c.requires.small (n - 1 - 2 * i) (omega arith) in
    let fx : FitsSigned w64 x = fits_signed_from_abs w64 x (omega arith) in
    let fy : FitsSigned w64 y = fits_signed_from_abs w64 y (omega arith) in
    let e : c.turn.result ≡ spun (record { re = x; im = y }) c.turn_angle_of.result.cosine c.turn_angle_of.result.sine = simp to_z-of_z at c.turn.ensures.value in
    pairs_next i (turned_pairs n (item c.args.items.now)) (at c.loop-i.re c.loop-i.im) (at c.put.new.re c.put.new.im) c.turn.result
    (e ∙ sym (turned_none (record { re = x; im = y }) c.turn_angle_of.result (turn_angle n i) (turn_angle n i) c.turn_angle_of.ensures.value refl)) c.put.ensures c.loop-i.invariant
