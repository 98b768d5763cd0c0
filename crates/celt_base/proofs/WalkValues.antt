-- The tests of a signed answer in code, and the words for them.
use Rattle.std.proofs.Common.{◌≡◌, ◌≢◌, ℕ, zero, suc, ℤ, pos, negsuc, w64, FitsSigned, to_z, of_z, false, nat_eq, refl, sym, ◌∙◌, ap, arith}
use Rattle.std.proofs.lemmas.Bool.Decides.{nat_tests}
use Rattle.std.proofs.lemmas.Int.{ints, to_z-of_z}
use Rattle.celt_base.specs.WalkCalls.{small_value, bit_value}
use Rattle.celt_base.specs.WalkScripts.{is_one}

pub is_one_by : (z : ℤ) → FitsSigned w64 z → of_z w64 z ≡ 1 → z ≡ pos 1
is_one_by z fits e = sym (to_z-of_z w64 z fits) ∙ ap (to_z w64) e

pub is_two_by : (z : ℤ) → FitsSigned w64 z → of_z w64 z ≡ 2 → z ≡ pos 2
is_two_by z fits e = sym (to_z-of_z w64 z fits) ∙ ap (to_z w64) e

pub other_small : (z : ℤ) → z ≢ pos 1 → z ≢ pos 2 → pos 0 ≡ small_value z
unfolding small_value
other_small (pos zero) one two = refl
other_small (pos (suc zero)) one two = absurd (one refl)
other_small (pos (suc (suc zero))) one two = absurd (two refl)
other_small (pos (suc (suc (suc n)))) one two = refl
other_small (negsuc n) one two = refl

pub other_bit : (z : ℤ) → z ≢ pos 1 → pos 0 ≡ bit_value z
unfolding bit_value
other_bit (pos zero) one = refl
other_bit (pos (suc zero)) one = absurd (one refl)
other_bit (pos (suc (suc n))) one = refl
other_bit (negsuc n) one = refl

pub not_one : (z : ℤ) → z ≢ pos 1 → false ≡ is_one z
unfolding is_one
not_one (pos zero) one = refl
not_one (pos (suc zero)) one = absurd (one refl)
not_one (pos (suc (suc n))) one = refl
not_one (negsuc n) one = refl

test_false : (n : ℕ) → n ≢ 1 → nat_eq n 1 ≡ false
test_false n ne = grind (arith, nat_tests)

pub is_one_test : (z : ℤ) → FitsSigned w64 z → nat_eq (of_z w64 z) 1 ≡ is_one z
unfolding is_one
is_one_test (pos zero) fits = refl
is_one_test (pos (suc zero)) fits = refl
is_one_test (pos (suc (suc n))) fits =
    test_false (of_z w64 (pos (suc (suc n)))) (λ e. let one = is_one_by (pos (suc (suc n))) fits e in absurd (omega (arith, ints)))
is_one_test (negsuc n) fits = test_false (of_z w64 (negsuc n)) (λ e. let one = is_one_by (negsuc n) fits e in absurd (omega (arith, ints)))
