-- The walks of intensity and dual stereo.
use Rattle.std.proofs.Common.{◌≡◌, ◌≢◌, ℕ, ◌+◌, Bool, true, false, ◌||◌, nat_eq, refl, sym, subst, arith}
use Rattle.std.specs.Prelude.{ℤ, pos, negsuc, unsigned_abs}
use Rattle.std.proofs.lemmas.Bool.Decides.{nat_tests}
use Rattle.bit_allocation.specs.declared.plan.Plan.{Plan}
use Rattle.bit_allocation.specs.Amounts.{raised}
use Rattle.bit_allocation.specs.Scripts.{intensity_script, dual_script, stereo_script}
use Rattle.celt_base.specs.declared.coder.Place.TheVariants.{Intensity, Dual}
use Rattle.celt_base.specs.declared.question.Question.TheVariants.{Uniform}
use Rattle.celt_base.specs.Questions.{IsBelow}
use Rattle.celt_base.specs.WalkCalls.{CoderCalls, ChooserCalls}
use Rattle.celt_base.specs.WalkScripts.{Done, and_then, asks_at, asks_bit}
use Rattle.celt_base.specs.Walks.{Walked}
use Rattle.celt_base.proofs.WalkSteps.{start, walk, end, when_true, when_false, no_walk}

pub below_raised : (count : ℕ) (z : ℤ) → IsBelow count z → unsigned_abs z ≡ raised z
below_raised count (pos n) below = refl
below_raised count (negsuc n) below = absurd below

-- neither, or one of two
pub first_none : (a b : ℕ) → a ≡ 0 → (nat_eq a 0 || nat_eq b 0) ≡ true
first_none a b none = rw none refl

pub second_none : (a b : ℕ) → a ≢ 0 → b ≡ 0 → (nat_eq a 0 || nat_eq b 0) ≡ true
second_none a b some none = let t : nat_eq a 0 ≡ false = grind (arith, nat_tests) in rw (t, none) refl

pub both_some : (a b : ℕ) → a ≢ 0 → b ≢ 0 → (nat_eq a 0 || nat_eq b 0) ≡ false
both_some a b some more =
    let t : nat_eq a 0 ≡ false = grind (arith, nat_tests) in
    let u : nat_eq b 0 ≡ false = grind (arith, nat_tests) in
    rw (t, u) refl

module _ {C H : Type 0} {coder : CoderCalls C} {chooser : ChooserCalls H} where
  pub intensity_none : {c : C} {h : H} (p : Plan) (coded : ℕ) → p.reserves.intensity ≡ 0 → Walked coder chooser (intensity_script p coded) 0 c h c h
  unfolding intensity_script
  intensity_none p coded none =
      let t : nat_eq p.reserves.intensity 0 ≡ true = grind (arith, nat_tests) in
      when_true (nat_eq p.reserves.intensity 0) _ _ t no_walk

  pub intensity_asked : {c d : C} {h k : H} (p : Plan) (coded value : ℕ) (answer : ℤ) → p.reserves.intensity ≢ 0 → value ≡ raised answer
      → Walked coder chooser (asks_at (Intensity coded) (Uniform (coded + 1))) answer c h d k
      → Walked coder chooser (intensity_script p coded) value c h d k
  unfolding intensity_script
  intensity_asked {c = c} {d = d} {h = h} {k = k} p coded value answer some e w =
      let t : nat_eq p.reserves.intensity 0 ≡ false = grind (arith, nat_tests) in
      when_false (nat_eq p.reserves.intensity 0) _ _ t
      (subst (λ n. Walked coder chooser (and_then (asks_at (Intensity coded) (Uniform (coded + 1))) (λ answer. Done (raised answer))) n c h d k) (sym e)
      (end (walk _ start w)))

  pub dual_unasked : {c : C} {h : H} (p : Plan) (intensity : ℕ) → (nat_eq intensity 0 || nat_eq p.reserves.dual 0) ≡ true → Walked coder chooser (dual_script p intensity) false c h c h
  unfolding dual_script
  dual_unasked p intensity t = when_true (nat_eq intensity 0 || nat_eq p.reserves.dual 0) _ _ t no_walk

  pub dual_asked : {c d : C} {h k : H} {value : Bool} (p : Plan) (intensity : ℕ) → (nat_eq intensity 0 || nat_eq p.reserves.dual 0) ≡ false
      → Walked coder chooser (asks_bit Dual 1) value c h d k
      → Walked coder chooser (dual_script p intensity) value c h d k
  unfolding dual_script
  dual_asked p intensity t w = when_false (nat_eq intensity 0 || nat_eq p.reserves.dual 0) _ _ t w

  pub stereo_walked : {c d e : C} {h k m : H} (p : Plan) (coded intensity : ℕ) (dual : Bool)
      → Walked coder chooser (intensity_script p coded) intensity c h d k
      → Walked coder chooser (dual_script p intensity) dual d k e m
      → Walked coder chooser (stereo_script p coded) (record { intensity = intensity; dual = dual }) c h e m
  unfolding stereo_script
  stereo_walked p coded intensity dual v w = end (walk _ (walk _ start v) w)
