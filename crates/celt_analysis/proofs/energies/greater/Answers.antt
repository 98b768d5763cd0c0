use Rattle.std.proofs.Common.{◌≡◌, ◌∙◌, ℕ, ◌<◌, ◌^◌, arith, rules, subst, sym, List, length}
use Rattle.std.specs.Prelude.{ℤ, unsigned_abs, FitsSigned}
use Rattle.std.specs.Int.{w64, int_max}
use Rattle.std.proofs.lemmas.Int.{to_z-of_z}
use Rattle.std.proofs.lemmas.List.{length-set}
use Rattle.fixed_math.specs.Items.{item}
use Rattle.fixed_math.proofs.ItemLemmas.{item_below}
use Rattle.celt_analysis.specs.Energies.{height_of}
use Rattle.celt_analysis.proofs.EnergyLemmas.{height_is, max_within}
use Rattle.celt_analysis.proofs.FillLemmas.{filled_next, filled_list, filled_sizes}
use Rattle.celt_analysis.proofs.energies.greater.Goals as goal

pub loop-b-preserved : goal.loop-b-preserved
loop-b-preserved c =
    let xs : List ℤ = c.args.left.now in
    let ys : List ℤ = c.args.right.now in
    let b : ℕ = c.loop-b.b in
    let x : ℤ = item xs b in
    let y : ℤ = item ys b in
    let fx : FitsSigned w64 x = search rules in
    let fy : FitsSigned w64 y = search rules in
    let r : ℤ = c.max.result in
    let fr : FitsSigned w64 r = record { sfits = c.max.type_inv } in
    let m : r ≡ int_max x y = simp to_z-of_z at c.max.ensures.value in
    let s : unsigned_abs r < 2 ^ 15 = subst (λ z. unsigned_abs z < 2 ^ 15) (sym m) (max_within x y (2 ^ 15) (item_below xs (2 ^ 15) b (omega arith) c.requires.left) (item_below ys (2 ^ 15) b (omega arith) c.requires.right)) in
    let room : b < length c.loop-b.row = omega (arith, c.loop-b.invariant.count, c.loop-b-test.true) in
    record {
      count = length-set c.loop-b.row b _ ∙ c.loop-b.invariant.count;
      filled = simp to_z-of_z (filled_next (height_of xs ys) (2 ^ 15) b c.loop-b.row r room (m ∙ height_is xs ys b) s c.loop-b.invariant.filled);
    }

pub returns-clause-value : goal.returns-clause-value
returns-clause-value c =
    filled_list (height_of c.args.left.now c.args.right.now) (2 ^ 15) c.loop-b.b 21 c.loop-b.row c.loop-b.invariant.count (omega (arith, c.loop-b-test.false)) c.loop-b.invariant.filled

pub returns-clause-sizes : goal.returns-clause-sizes
returns-clause-sizes c =
    filled_sizes (height_of c.args.left.now c.args.right.now) (2 ^ 15) c.loop-b.b c.loop-b.row (omega (arith, c.loop-b-test.false, c.loop-b.invariant.count)) c.loop-b.invariant.filled
