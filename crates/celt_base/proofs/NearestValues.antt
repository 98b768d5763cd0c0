-- The answer of a coarse energy whose value is nearest to a wanted one.
use Rattle.std.proofs.Common.{◌≢◌, ℕ, zero, suc, ◌<◌, ℤ, pos, negsuc, refl, arith}
use Rattle.std.proofs.lemmas.Int.{ints}
use Rattle.celt_base.specs.declared.question.Question.TheVariants.{Bit, Table}
use Rattle.celt_base.specs.declared.question.TableId.TheVariants.{Small}
use Rattle.celt_base.specs.Questions.{IsAnswer}
use Rattle.celt_base.specs.WalkCalls.{small_value, small_answer, bit_value, bit_answer, coarse_value, coarse_answer, distance, IsNearestValue}

small_nearer : (wanted other : ℤ) → IsAnswer (Table Small) other → other ≢ small_answer wanted
    → distance (small_value (small_answer wanted)) wanted < distance (small_value other) wanted
unfolding small_value small_answer
small_nearer (pos zero) (pos zero) is other = absurd (other refl)
small_nearer (pos zero) (pos (suc zero)) is other = omega arith
small_nearer (pos zero) (pos (suc (suc zero))) is other = omega arith
small_nearer (pos (suc n)) (pos zero) is other = omega (arith, ints)
small_nearer (pos (suc n)) (pos (suc zero)) is other = omega (arith, ints)
small_nearer (pos (suc n)) (pos (suc (suc zero))) is other = absurd (other refl)
small_nearer (negsuc n) (pos zero) is other = omega (arith, ints)
small_nearer (negsuc n) (pos (suc zero)) is other = absurd (other refl)
small_nearer (negsuc n) (pos (suc (suc zero))) is other = omega (arith, ints)
small_nearer wanted (pos (suc (suc (suc n)))) is other = absurd (omega arith)
small_nearer wanted (negsuc n) is other = absurd is

small_is : (wanted : ℤ) → IsAnswer (Table Small) (small_answer wanted)
unfolding small_answer
small_is (pos zero) = omega arith
small_is (pos (suc n)) = omega arith
small_is (negsuc n) = omega arith

pub small_nearest : (wanted : ℤ) → IsNearestValue (Table Small) wanted (coarse_answer (Table Small) wanted)
unfolding coarse_value coarse_answer
small_nearest wanted = record { is_answer = small_is wanted; nearer = λ other is ne. small_nearer wanted other is ne }

bit_nearer : (p : ℕ) (wanted other : ℤ) → IsAnswer (Bit p) other → other ≢ bit_answer wanted
    → distance (bit_value (bit_answer wanted)) wanted < distance (bit_value other) wanted
unfolding bit_value bit_answer
bit_nearer p (pos n) (pos zero) is other = absurd (other refl)
bit_nearer p (pos n) (pos (suc zero)) is other = omega (arith, ints)
bit_nearer p (negsuc n) (pos zero) is other = omega (arith, ints)
bit_nearer p (negsuc n) (pos (suc zero)) is other = absurd (other refl)
bit_nearer p wanted (pos (suc (suc n))) is other = absurd (omega arith)
bit_nearer p wanted (negsuc n) is other = absurd is

bit_is : (p : ℕ) (wanted : ℤ) → IsAnswer (Bit p) (bit_answer wanted)
unfolding bit_answer
bit_is p (pos n) = omega arith
bit_is p (negsuc n) = omega arith

pub bit_nearest : (p : ℕ) (wanted : ℤ) → IsNearestValue (Bit p) wanted (coarse_answer (Bit p) wanted)
unfolding coarse_value coarse_answer
bit_nearest p wanted = record { is_answer = bit_is p wanted; nearer = λ other is ne. bit_nearer p wanted other is ne }
