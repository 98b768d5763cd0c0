use Rattle.std.proofs.Common.{◌≡◌, ℕ, ◌<◌, ◌≤◌, ◌^◌, arith, get_or, subst, List}
use Rattle.std.specs.Prelude.{ℤ, pos, ◌+ℤ◌, All, take, bit_or, FitsSigned, unsigned_abs}
use Rattle.std.specs.Int.{w64, cast_unsigned}
use Rattle.std.proofs.lemmas.Int.{ints, to_z-of_z, fits_signed_from_abs}
use Rattle.std.proofs.lemmas.Nat.{le_or_l, le_or_r}
use Rattle.std.proofs.lemmas.Bool.Decides.{nat_tests}
use Rattle.std.proofs.lemmas.List.{take_all}
use Rattle.std.proofs.lemmas.List.Elements.{All-more, All-weaker}
use Rattle.fixed_math.proofs.UnitLemmas.{small_item}
use Rattle.fixed_math.proofs.units.are_small.Goals as goal

pub loop-i-preserved : goal.loop-i-preserved
loop-i-preserved c =
    let v : List ℤ = c.args.v.now in
    let i : ℕ = c.loop-i.i in
    let bits : ℕ = c.loop-i.bits in
    let here : ℕ = c.cast_unsigned-bits.result in
    let x : ℤ = get_or v i (pos 0) in
    let size : unsigned_abs x < 2 ^ 40 = c.requires i (pos 0) (omega arith) in
    let fx : FitsSigned w64 x = fits_signed_from_abs w64 x (omega arith) in
    let fs : FitsSigned w64 (x +ℤ pos 131072) = fits_signed_from_abs w64 (x +ℤ pos 131072) (omega (arith, ints)) in
    let e : here ≡ cast_unsigned w64 (x +ℤ pos 131072) = simp to_z-of_z at c.cast_unsigned-bits.ensures in
    let l : bits ≤ bit_or bits here = le_or_l bits here in
    let r : here ≤ bit_or bits here = le_or_r bits here in
    All-more (λ x. cast_unsigned w64 (x +ℤ pos 131072) ≤ bit_or bits here) v i (pos 0) (omega arith)
    (All-weaker (λ x. cast_unsigned w64 (x +ℤ pos 131072) ≤ bits) (λ x. cast_unsigned w64 (x +ℤ pos 131072) ≤ bit_or bits here) (λ x p. omega arith) (take i v) c.loop-i.invariant)
    (omega arith)

pub returns : goal.returns
returns c = λ t k d h.
    let v : List ℤ = c.args.v.now in
    let bits : ℕ = c.loop-i.bits in
    let few : bits < 2 ^ 18 = grind (arith, nat_tests) in
    let all = subst (λ ys. All (λ x. cast_unsigned w64 (x +ℤ pos 131072) ≤ bits) ys) (take_all c.loop-i.i v (omega arith)) c.loop-i.invariant in
    let here : cast_unsigned w64 (get_or v k d +ℤ pos 131072) ≤ bits = all k d h in
    small_item (get_or v k d) (c.requires k d h) (omega arith)
