use Rattle.std.proofs.Common.{◌≡◌, ℕ, ◌+◌, ◌^◌, ◌<◌, ◌∙◌, arith, subst, sym, length, List}
use Rattle.std.specs.Prelude.{ℤ, pos, ◌+ℤ◌, ◌-ℤ◌, ◌*ℤ◌, unsigned_abs, slice_set, FitsSigned}
use Rattle.std.specs.Int.{w64, cast_signed as to_z}
use Rattle.std.proofs.lemmas.Int.{ints, to_z-of_z, fits_signed_from_abs}
use Rattle.std.proofs.lemmas.List.Elements.{All-set}
use Rattle.fixed_math.specs.Items.{item}
use Rattle.fixed_math.specs.Rounding.{rounded}
use Rattle.fixed_math.proofs.ItemLemmas.{item_below}
use Rattle.spread_fold.specs.Calm.{IsCalm}
use Rattle.spread_fold.specs.Spreading.{clamped, turned_second, turned_up}
use Rattle.spread_fold.proofs.CarryLemmas.{first_is, up_start, up_carried, none_up}
use Rattle.spread_fold.proofs.CalmLemmas.{calm_up, calm_fewer, up_needs}
use Rattle.spread_fold.proofs.neighbours.neighbours_up.Goals as goal

pub loop-i-init : goal.loop-i-init
loop-i-init c =
    let fc = c.ranges.c in
    let fs = c.ranges.s in
    let xs : List ℤ = c.args.x.now in
    let v : ℤ = item xs 0 in
    let b : unsigned_abs v < 2 ^ 20 = item_below xs (2 ^ 20) 0 (omega arith) c.requires.items in
    let fv : FitsSigned w64 v = fits_signed_from_abs w64 v (omega arith) in
    record {
      turned = simp to_z-of_z (up_start c.args.c c.args.s xs (omega (arith, c.requires.within, c.if-k-gt0.true)));
      carried = simp to_z-of_z b;
      small = c.requires.items;
    }

pub turned_number-requires-clause-first : goal.turned_number-requires-clause-first
turned_number-requires-clause-first c = c.loop-i.invariant.carried

pub turned_number-requires-clause-second : goal.turned_number-requires-clause-second
turned_number-requires-clause-second c =
    let w : ℤ = item c.loop-i.x (c.loop-i.i + 1) in
    let b : unsigned_abs w < 2 ^ 20 = item_below c.loop-i.x (2 ^ 20) (c.loop-i.i + 1) (omega arith) c.loop-i.invariant.small in
    let f : FitsSigned w64 w = fits_signed_from_abs w64 w (omega arith) in
    simp to_z-of_z b

pub turned_number-carried-requires-clause-first : goal.turned_number-carried-requires-clause-first
turned_number-carried-requires-clause-first c =
    let w : ℤ = item c.loop-i.x (c.loop-i.i + 1) in
    let b : unsigned_abs w < 2 ^ 20 = item_below c.loop-i.x (2 ^ 20) (c.loop-i.i + 1) (omega arith) c.loop-i.invariant.small in
    let f : FitsSigned w64 w = fits_signed_from_abs w64 w (omega arith) in
    simp to_z-of_z b

pub turned_number-carried-requires-clause-second : goal.turned_number-carried-requires-clause-second
turned_number-carried-requires-clause-second c = c.loop-i.invariant.carried

pub turned_number-requires-clause-calm : goal.turned_number-requires-clause-calm
turned_number-requires-clause-calm c = λ q.
    let fc = c.ranges.c in
    let fs = c.ranges.s in
    let old : List ℤ = c.args.x.now in
    let xs : List ℤ = c.loop-i.x in
    let i : ℕ = c.loop-i.i in
    let v : ℤ = to_z w64 c.loop-i.carried-bits in
    let y : ℤ = item xs (i + 1) in
    let small : unsigned_abs y < 2 ^ 20 = item_below xs (2 ^ 20) (i + 1) (omega arith) c.loop-i.invariant.small in
    let fy : FitsSigned w64 y = fits_signed_from_abs w64 y (omega arith) in
    let fn : FitsSigned w64 (pos 0 -ℤ c.args.s) = fits_signed_from_abs w64 (pos 0 -ℤ c.args.s) (omega (arith, ints)) in
    let r : slice_set xs i v ≡ turned_up 1 c.args.c c.args.s i old = simp to_z-of_z at c.loop-i.invariant.turned in
    let room = c.requires.within in
    let h : IsCalm 1 c.args.c c.args.s (turned_up 1 c.args.c c.args.s i old) =
    calm_up 1 c.args.c c.args.s i 1 old (omega arith) (λ e. omega (arith, room (omega (arith, c.if-k-gt0.true)), c.loop-i-test.true)) (calm_fewer c.args.k (i + 1) c.args.c c.args.s old (omega (arith, c.loop-i-test.true)) (c.requires.calm q)) in
    let inside : i + 1 < length xs = omega (arith, room (omega (arith, c.if-k-gt0.true)), c.loop-i.auto.x, c.loop-i-test.true) in
    simp to_z-of_z (up_needs c.args.c c.args.s i 0 xs v inside (subst (IsCalm 1 c.args.c c.args.s) (sym r) h)).first

pub turned_number-carried-requires-clause-calm : goal.turned_number-carried-requires-clause-calm
turned_number-carried-requires-clause-calm c = λ q.
    let fc = c.ranges.c in
    let fs = c.ranges.s in
    let old : List ℤ = c.args.x.now in
    let xs : List ℤ = c.loop-i.x in
    let i : ℕ = c.loop-i.i in
    let v : ℤ = to_z w64 c.loop-i.carried-bits in
    let y : ℤ = item xs (i + 1) in
    let small : unsigned_abs y < 2 ^ 20 = item_below xs (2 ^ 20) (i + 1) (omega arith) c.loop-i.invariant.small in
    let fy : FitsSigned w64 y = fits_signed_from_abs w64 y (omega arith) in
    let fn : FitsSigned w64 (pos 0 -ℤ c.args.s) = fits_signed_from_abs w64 (pos 0 -ℤ c.args.s) (omega (arith, ints)) in
    let r : slice_set xs i v ≡ turned_up 1 c.args.c c.args.s i old = simp to_z-of_z at c.loop-i.invariant.turned in
    let room = c.requires.within in
    let h : IsCalm 1 c.args.c c.args.s (turned_up 1 c.args.c c.args.s i old) =
    calm_up 1 c.args.c c.args.s i 1 old (omega arith) (λ e. omega (arith, room (omega (arith, c.if-k-gt0.true)), c.loop-i-test.true)) (calm_fewer c.args.k (i + 1) c.args.c c.args.s old (omega (arith, c.loop-i-test.true)) (c.requires.calm q)) in
    let inside : i + 1 < length xs = omega (arith, room (omega (arith, c.if-k-gt0.true)), c.loop-i.auto.x, c.loop-i-test.true) in
    simp to_z-of_z (up_needs c.args.c c.args.s i 0 xs v inside (subst (IsCalm 1 c.args.c c.args.s) (sym r) h)).second

pub loop-i-preserved : goal.loop-i-preserved
loop-i-preserved c =
    let fc = c.ranges.c in
    let fs = c.ranges.s in
    let old : List ℤ = c.args.x.now in
    let xs : List ℤ = c.loop-i.x in
    let p : ℕ = c.loop-i.i in
    let v : ℤ = to_z w64 c.loop-i.carried-bits in
    let y : ℤ = item xs (p + 1) in
    let a : ℤ = c.turned_number.result in
    let b : ℤ = c.turned_number-carried.result in
    let small : unsigned_abs y < 2 ^ 20 = item_below xs (2 ^ 20) (p + 1) (omega arith) c.loop-i.invariant.small in
    let fy : FitsSigned w64 y = fits_signed_from_abs w64 y (omega arith) in
    let fa : FitsSigned w64 a = fits_signed_from_abs w64 a (omega (arith, c.turned_number.ensures.size)) in
    let fb : FitsSigned w64 b = fits_signed_from_abs w64 b (omega (arith, c.turned_number-carried.ensures.size)) in
    let fn : FitsSigned w64 (pos 0 -ℤ c.args.s) = fits_signed_from_abs w64 (pos 0 -ℤ c.args.s) (omega (arith, ints)) in
    let ea : a ≡ clamped (rounded (v *ℤ c.args.c +ℤ y *ℤ (pos 0 -ℤ c.args.s)) 15) = simp to_z-of_z at c.turned_number.ensures.value in
    let eb : b ≡ turned_second c.args.c c.args.s v y = simp to_z-of_z at c.turned_number-carried.ensures.value in
    let r : slice_set xs p v ≡ turned_up 1 c.args.c c.args.s c.loop-i.i old = simp to_z-of_z at c.loop-i.invariant.turned in
    let inside : p + 1 < length xs = omega (arith, c.requires.within, c.if-k-gt0.true, c.loop-i.auto.x, c.loop-i-test.true) in
    let sa : unsigned_abs a < 2 ^ 20 = omega (arith, c.turned_number.ensures.size) in
    let sb : unsigned_abs b < 2 ^ 20 = omega (arith, c.turned_number-carried.ensures.size) in
    record {
      turned = simp to_z-of_z (up_carried c.args.c c.args.s c.loop-i.i old xs v a b inside r (ea ∙ first_is v c.args.c y c.args.s) eb);
      carried = simp to_z-of_z sb;
      small = simp to_z-of_z (All-set (λ z. unsigned_abs z < 2 ^ 20) xs p a sa c.loop-i.invariant.small);
    }

pub returns-else-k-gt0 : goal.returns-else-k-gt0
returns-else-k-gt0 c = none_up c.args.c c.args.s c.args.k c.args.x.now (omega (arith, c.if-k-gt0.false))
