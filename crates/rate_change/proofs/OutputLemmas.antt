-- Outputs: in a whole place, in a part, and from a window.
use Rattle.std.proofs.Common.{◌≡◌, ℕ, zero, suc, ◌+◌, ◌*◌, ◌/◌, ◌%◌, ◌<◌, sym, subst, ap, ◌∙◌, List, ◌++◌, length, refl, arith, inl, inr}
use Rattle.std.specs.Prelude.{ℤ, pos, negsuc, ◌+ℤ◌, ◌-ℤ◌, ◌*ℤ◌, ◌<ℤ◌, IsTrue}
use Rattle.std.proofs.lemmas.Bool.{cases_eq}
use Rattle.std.proofs.lemmas.Bool.Decides.{nat_tests}
use Rattle.std.proofs.lemmas.Int.{ints}
use Rattle.std.proofs.lemmas.List.{get_or_append_left}
use Rattle.fixed_math.specs.Items.{item}
use Rattle.fixed_math.proofs.ItemLemmas.{listed_from}
use Rattle.rate_change.specs.Rates.{is_ratio, outputs_of, AreReady}
use Rattle.rate_change.specs.Resampling.{between, weight, divisor, saturated, nearest, sum_around, in_window, input_at, output_at, resampled, IsWindow}
use Rattle.rate_change.proofs.SumLemmas.{same_sum, window_place}

pub between_whole : (up f : ℕ) (s : ℤ → ℤ) → f ≡ 0 → between up f s ≡ s (pos 0)
unfolding between
between_whole up zero s e = refl
between_whole up (suc f) s e = absurd (omega arith)

pub between_part : (up f : ℕ) (s : ℤ → ℤ) → (f ≡ 0 → ⊥) → between up f s ≡ saturated (nearest (sum_around (λ j. weight up f j *ℤ s j)) (divisor up f))
unfolding between
between_part up zero s n = absurd (n refl)
between_part up (suc f) s n = refl

-- what a product over a divisor comes to
pub value_from : (up f : ℕ) (window : List ℤ) (p n v : ℤ) → (f ≡ 0 → ⊥) → n ≡ divisor up f → p ≡ sum_around (λ j. weight up f j *ℤ in_window window j) → v ≡ saturated (nearest p n) → v ≡ between up f (in_window window)
value_from up f window p n v some d e g =
    g ∙ ap (λ z. saturated (nearest z n)) e ∙ ap (λ z. saturated (nearest (sum_around (λ j. weight up f j *ℤ in_window window j)) z)) d ∙ sym (between_part up f (in_window window) some)

-- signals that agree around a sample have one output there
pub same_between : (up f : ℕ) (s r : ℤ → ℤ) → ((t : ℕ) → t < 32 → s (pos t -ℤ pos 15) ≡ r (pos t -ℤ pos 15)) → between up f s ≡ between up f r
unfolding between
same_between up zero s r h = h 15 (omega arith)
same_between up (suc f) s r h =
    ap (λ z. saturated (nearest z (divisor up (suc f)))) (same_sum (λ j. weight up (suc f) j *ℤ s j) (λ j. weight up (suc f) j *ℤ r j) 32 (λ t l. ap (λ z. weight up (suc f) (pos t -ℤ pos 15) *ℤ z) (h t l)))

pub output_from : (up down k f : ℕ) (input window : List ℤ) → f ≡ k * down % up → IsWindow input (k * down / up) window → between up f (in_window window) ≡ output_at up down input k
output_from up down k f input window e h =
    same_between up f (in_window window) (λ j. input_at input (pos (k * down / up) +ℤ j)) (λ t l. window_place window t ∙ h.each t l)
    ∙ ap (λ x. between up x (λ j. input_at input (pos (k * down / up) +ℤ j))) e

-- ---- later input

input_kept : (input more : List ℤ) (z : ℤ) → z <ℤ pos (length input) → input_at (input ++ more) z ≡ input_at input z
input_kept input more (pos p) l = get_or_append_left input more (pos 0) p (omega (arith, ints))
input_kept input more (negsuc p) l = refl

window_kept : (input more : List ℤ) (i t : ℕ) → t < 32 → i + 16 < length input → input_at (input ++ more) (pos i +ℤ (pos t -ℤ pos 15)) ≡ input_at input (pos i +ℤ (pos t -ℤ pos 15))
window_kept input more i t l h = input_kept input more (pos i +ℤ (pos t -ℤ pos 15)) (omega (arith, ints))

at_whole : (input : List ℤ) (k : ℕ) → output_at 1 1 input k ≡ item input k
at_whole input k =
    between_whole 1 (k * 1 % 1) (λ j. input_at input (pos (k * 1 / 1) +ℤ j)) (none k)
    ∙ ap (input_at input) (place (k * 1 / 1))
    ∙ ap (item input) (same k)
  where
    none : (k : ℕ) → k * 1 % 1 ≡ 0
    none k = omega arith

    place : (i : ℕ) → pos i +ℤ pos 0 ≡ pos i
    place i = omega (arith, ints)

    same : (k : ℕ) → k * 1 / 1 ≡ k
    same k = omega arith

pub whole_kept : (input : List ℤ) → resampled 1 1 input ≡ input
whole_kept input = sym (listed_from input (outputs_of 1 1 (length input)) (output_at 1 1 input) (count (length input)) (λ p l. sym (at_whole input p)))
  where
    count : (m : ℕ) → m ≡ outputs_of 1 1 m
    count m = omega arith

kept_at : (down k : ℕ) (input more : List ℤ) (q : ℕ) → down ≡ 1 → q ≡ outputs_of 1 down (length input) → k < q → output_at 1 down (input ++ more) k ≡ output_at 1 down input k
kept_at down k input more q e g l =
    subst (λ d. output_at 1 d (input ++ more) k ≡ output_at 1 d input k) (sym e)
    (at_whole (input ++ more) k ∙ get_or_append_left input more (pos 0) k (below (length input) down q k e g l) ∙ sym (at_whole input k))
  where
    below : (m down q k : ℕ) → down ≡ 1 → q ≡ outputs_of 1 down m → k < q → k < m
    below m down q k e g l =
        let h : q ≡ outputs_of 1 1 m = g ∙ ap (λ d. outputs_of 1 d m) e in
        omega arith

pub ready_kept : (up down : ℕ) (input more : List ℤ) (q k : ℕ) → IsTrue (is_ratio up down) → AreReady up down (length input) q → k < q → output_at up down (input ++ more) k ≡ output_at up down input k
ready_kept up down input more q k h r l = elim (cases_eq up 1) [
  | inl e ↦
      let d : down ≡ 1 = one up down h e in
      let g : q ≡ outputs_of 1 down (length input) = r.whole e ∙ ap (λ u. outputs_of u down (length input)) e in
      subst (λ u. output_at u down (input ++ more) k ≡ output_at u down input k) (sym e) (kept_at down k input more q d g l)
  | inr n ↦
      let b : k * down / up + 16 < length input = r.first n k l in
      same_between up (k * down % up) (λ j. input_at (input ++ more) (pos (k * down / up) +ℤ j)) (λ j. input_at input (pos (k * down / up) +ℤ j)) (λ t s. window_kept input more (k * down / up) t s b)
]
  where
    one : (up down : ℕ) → IsTrue (is_ratio up down) → up ≡ 1 → down ≡ 1
    one up down h e = grind (arith, nat_tests)
