use Rattle.std.proofs.Common.{◌≡◌, ℕ, ◌+◌, ◌-◌, ◌^◌, ◌<◌, ◌∙◌, ap, subst, sym, arith, length, List}
use Rattle.std.specs.Prelude.{ℤ, pos, ◌+ℤ◌, ◌-ℤ◌, ◌*ℤ◌, unsigned_abs, slice_set, FitsSigned}
use Rattle.std.specs.Int.{w64, cast_signed as to_z}
use Rattle.std.proofs.lemmas.Int.{ints, to_z-of_z, fits_signed_from_abs}
use Rattle.std.proofs.lemmas.List.Elements.{All-set}
use Rattle.fixed_math.specs.Items.{item}
use Rattle.fixed_math.specs.Rounding.{rounded}
use Rattle.fixed_math.proofs.ItemLemmas.{item_below}
use Rattle.spread_fold.specs.Calm.{IsCalm}
use Rattle.spread_fold.specs.Spreading.{clamped, turned_second, turned_down}
use Rattle.std.proofs.lemmas.List.{length-set}
use Rattle.spread_fold.proofs.CalmLemmas.{calm_next, down_needs}
use Rattle.spread_fold.proofs.CarryLemmas.{first_is, put_back, second_carried, down_carried, none_down, down_end}
use Rattle.spread_fold.proofs.neighbours.neighbours_down.Goals as goal

pub loop-i-init : goal.loop-i-init
loop-i-init c =
    let fc = c.ranges.c in
    let fs = c.ranges.s in
    let xs : List ℤ = c.args.x.now in
    let p : ℕ = c.args.k in
    let v : ℤ = item xs p in
    let b : unsigned_abs v < 2 ^ 20 = item_below xs (2 ^ 20) p (omega arith) c.requires.items in
    let fv : FitsSigned w64 v = fits_signed_from_abs w64 v (omega arith) in
    record {
      left = simp to_z-of_z (ap (turned_down 1 c.args.c c.args.s c.args.k) (put_back xs p (omega (arith, c.requires.within, c.if-k-gt0.true))));
      carried = simp to_z-of_z b;
      small = c.requires.items;
      calm = λ q. simp to_z-of_z (subst (IsCalm c.args.k c.args.c c.args.s) (sym (put_back xs p (omega (arith, c.requires.within, c.if-k-gt0.true)))) (c.requires.calm q));
    }

pub turned_number-requires-clause-first : goal.turned_number-requires-clause-first
turned_number-requires-clause-first c = c.loop-i.invariant.carried

pub turned_number-requires-clause-second : goal.turned_number-requires-clause-second
turned_number-requires-clause-second c =
    let w : ℤ = item c.loop-i.x (c.loop-i.i - 1) in
    let b : unsigned_abs w < 2 ^ 20 = item_below c.loop-i.x (2 ^ 20) (c.loop-i.i - 1) (omega arith) c.loop-i.invariant.small in
    let f : FitsSigned w64 w = fits_signed_from_abs w64 w (omega arith) in
    simp to_z-of_z b

pub turned_number-carried-requires-clause-first : goal.turned_number-carried-requires-clause-first
turned_number-carried-requires-clause-first c =
    let w : ℤ = item c.loop-i.x (c.loop-i.i - 1) in
    let b : unsigned_abs w < 2 ^ 20 = item_below c.loop-i.x (2 ^ 20) (c.loop-i.i - 1) (omega arith) c.loop-i.invariant.small in
    let f : FitsSigned w64 w = fits_signed_from_abs w64 w (omega arith) in
    simp to_z-of_z b

pub turned_number-carried-requires-clause-second : goal.turned_number-carried-requires-clause-second
turned_number-carried-requires-clause-second c = c.loop-i.invariant.carried

pub turned_number-requires-clause-calm : goal.turned_number-requires-clause-calm
turned_number-requires-clause-calm c = λ q.
    let fc = c.ranges.c in
    let fs = c.ranges.s in
    let xs : List ℤ = c.loop-i.x in
    let i : ℕ = c.loop-i.i - 1 in
    let v : ℤ = to_z w64 c.loop-i.carried-bits in
    let y : ℤ = item xs i in
    let small : unsigned_abs y < 2 ^ 20 = item_below xs (2 ^ 20) i (omega arith) c.loop-i.invariant.small in
    let fy : FitsSigned w64 y = fits_signed_from_abs w64 y (omega arith) in
    let fn : FitsSigned w64 (pos 0 -ℤ c.args.s) = fits_signed_from_abs w64 (pos 0 -ℤ c.args.s) (omega (arith, ints)) in
    let w : c.loop-i.i ≡ i + 1 = omega (arith, c.loop-i-test.true) in
    let h : IsCalm c.loop-i.i c.args.c c.args.s (slice_set xs c.loop-i.i v) = simp to_z-of_z at c.loop-i.invariant.calm q in
    let g : IsCalm (i + 1) c.args.c c.args.s (slice_set xs (i + 1) v) = subst (λ n. IsCalm n c.args.c c.args.s (slice_set xs n v)) w h in
    let inside : i + 1 < length xs = omega (arith, c.requires.within, c.if-k-gt0.true, c.loop-i.auto.x, c.loop-i.auto.i, c.loop-i-test.true) in
    simp to_z-of_z (down_needs c.args.c c.args.s i i xs v inside g).second

pub turned_number-carried-requires-clause-calm : goal.turned_number-carried-requires-clause-calm
turned_number-carried-requires-clause-calm c = λ q.
    let fc = c.ranges.c in
    let fs = c.ranges.s in
    let xs : List ℤ = c.loop-i.x in
    let i : ℕ = c.loop-i.i - 1 in
    let v : ℤ = to_z w64 c.loop-i.carried-bits in
    let y : ℤ = item xs i in
    let small : unsigned_abs y < 2 ^ 20 = item_below xs (2 ^ 20) i (omega arith) c.loop-i.invariant.small in
    let fy : FitsSigned w64 y = fits_signed_from_abs w64 y (omega arith) in
    let fn : FitsSigned w64 (pos 0 -ℤ c.args.s) = fits_signed_from_abs w64 (pos 0 -ℤ c.args.s) (omega (arith, ints)) in
    let w : c.loop-i.i ≡ i + 1 = omega (arith, c.loop-i-test.true) in
    let h : IsCalm c.loop-i.i c.args.c c.args.s (slice_set xs c.loop-i.i v) = simp to_z-of_z at c.loop-i.invariant.calm q in
    let g : IsCalm (i + 1) c.args.c c.args.s (slice_set xs (i + 1) v) = subst (λ n. IsCalm n c.args.c c.args.s (slice_set xs n v)) w h in
    let inside : i + 1 < length xs = omega (arith, c.requires.within, c.if-k-gt0.true, c.loop-i.auto.x, c.loop-i.auto.i, c.loop-i-test.true) in
    simp to_z-of_z (down_needs c.args.c c.args.s i i xs v inside g).first

pub loop-i-preserved : goal.loop-i-preserved
loop-i-preserved c =
    let fc = c.ranges.c in
    let fs = c.ranges.s in
    let old : List ℤ = turned_down 1 c.args.c c.args.s c.args.k c.args.x.now in
    let xs : List ℤ = c.loop-i.x in
    let i : ℕ = c.loop-i.i - 1 in
    let p : ℕ = i in
    let v : ℤ = to_z w64 c.loop-i.carried-bits in
    let y : ℤ = item xs p in
    let b : ℤ = c.turned_number.result in
    let a : ℤ = c.turned_number-carried.result in
    let small : unsigned_abs y < 2 ^ 20 = item_below xs (2 ^ 20) p (omega arith) c.loop-i.invariant.small in
    let fy : FitsSigned w64 y = fits_signed_from_abs w64 y (omega arith) in
    let fb : FitsSigned w64 b = fits_signed_from_abs w64 b (omega (arith, c.turned_number.ensures.size)) in
    let fa : FitsSigned w64 a = fits_signed_from_abs w64 a (omega (arith, c.turned_number-carried.ensures.size)) in
    let fn : FitsSigned w64 (pos 0 -ℤ c.args.s) = fits_signed_from_abs w64 (pos 0 -ℤ c.args.s) (omega (arith, ints)) in
    let eb : b ≡ turned_second c.args.c c.args.s y v = simp to_z-of_z at c.turned_number.ensures.value in
    let ea : a ≡ clamped (rounded (y *ℤ c.args.c +ℤ v *ℤ (pos 0 -ℤ c.args.s)) 15) = simp to_z-of_z at c.turned_number-carried.ensures.value in
    let w : c.loop-i.i ≡ i + 1 = omega (arith, c.loop-i-test.true) in
    let l : turned_down 1 c.args.c c.args.s c.loop-i.i (slice_set xs c.loop-i.i v) ≡ old = simp to_z-of_z at c.loop-i.invariant.left in
    let r : turned_down 1 c.args.c c.args.s (i + 1) (slice_set xs (i + 1) v) ≡ old =
    subst (λ n. turned_down 1 c.args.c c.args.s n (slice_set xs n v) ≡ old) w l in
    let inside : p + 1 < length xs = omega (arith, c.requires.within, c.if-k-gt0.true, c.loop-i.auto.x, c.loop-i.auto.i, c.loop-i-test.true) in
    let sa : unsigned_abs a < 2 ^ 20 = omega (arith, c.turned_number-carried.ensures.size) in
    let sb : unsigned_abs b < 2 ^ 20 = omega (arith, c.turned_number.ensures.size) in
    record {
      left = simp to_z-of_z (down_carried c.args.c c.args.s i old xs v a b inside r (ea ∙ first_is y c.args.c v c.args.s) eb);
      carried = simp to_z-of_z sa;
      small = simp to_z-of_z (All-set (λ z. unsigned_abs z < 2 ^ 20) xs (p + 1) b sb c.loop-i.invariant.small);
      calm = λ q.
          let h : IsCalm c.loop-i.i c.args.c c.args.s (slice_set xs c.loop-i.i v) = simp to_z-of_z at c.loop-i.invariant.calm q in
          let g : IsCalm (i + 1) c.args.c c.args.s (slice_set xs (i + 1) v) = subst (λ n. IsCalm n c.args.c c.args.s (slice_set xs n v)) w h in
          simp to_z-of_z (calm_next 1 c.args.c c.args.s i (slice_set xs (i + 1) v) (slice_set (slice_set xs (i + 1) b) i a) (omega arith) (omega (arith, inside, length-set xs (i + 1) v)) g (second_carried c.args.c c.args.s i xs v a b inside (ea ∙ first_is y c.args.c v c.args.s) eb));
    }

pub returns-after-loop-i : goal.returns-after-loop-i
returns-after-loop-i c =
    let fc = c.ranges.c in
    let fs = c.ranges.s in
    let l = simp to_z-of_z at c.loop-i.invariant.left in
    down_end c.args.c c.args.s c.loop-i.i c.loop-i.x (turned_down 1 c.args.c c.args.s c.args.k c.args.x.now) (to_z w64 c.loop-i.carried-bits) (omega (arith, c.loop-i-test.false)) l

pub returns-else-k-gt0 : goal.returns-else-k-gt0
returns-else-k-gt0 c = none_down c.args.c c.args.s c.args.k c.args.x.now (omega (arith, c.if-k-gt0.false))
