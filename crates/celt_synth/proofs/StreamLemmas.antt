-- The middle of two channels, item by item.
use Rattle.std.proofs.Common.{◌≡◌, ◌≢◌, ℕ, ◌+◌, ◌*◌, ◌^◌, ◌<◌, ◌≤◌, nat_lt, nat_eq, if◌then◌else◌, Bool, true, false, refl, sym, subst, inl, inr, arith, ap, ◌∙◌, List, length}
use Rattle.std.specs.Prelude.{ℤ, pos, ◌+ℤ◌, unsigned_abs, slice_set, All}
use Rattle.std.specs.Int.{int_shr}
use Rattle.std.proofs.lemmas.Bool.{cases_eq}
use Rattle.std.proofs.lemmas.Bool.Decides.{nat_tests}
use Rattle.std.proofs.lemmas.List.{get_or-set_same, get_or-set_other, length-set}
use Rattle.std.proofs.lemmas.List.Elements.{All-set}
use Rattle.fixed_math.specs.Items.{item}
use Rattle.fixed_math.proofs.ItemLemmas.{listed_from}
use Rattle.celt_synth.specs.Streams.{middle_of, first_of, second_of}

-- the first n items are mixed, and the others as before
pub record Mixing (left right new : List ℤ) (n : ℕ) : Type 0 where
  pub count : length new ≡ length left
  pub done : (p : ℕ) → p < n → item new p ≡ int_shr (item left p +ℤ item right p) 1
  pub ahead : (p : ℕ) → n ≤ p → item new p ≡ item left p
  pub sizes : All (λ v. unsigned_abs v ≤ 2 ^ 30) new

pub mixing_begun : (left right : List ℤ) → All (λ v. unsigned_abs v ≤ 2 ^ 30) left → Mixing left right left 0
mixing_begun left right h = record { count = refl; done = λ p l. absurd (omega arith); ahead = λ p l. refl; sizes = h }

pub mixing_more : (left right new : List ℤ) (n : ℕ) (v : ℤ) → n < length new → v ≡ int_shr (item new n +ℤ item right n) 1 → unsigned_abs v ≤ 2 ^ 30 → Mixing left right new n → Mixing left right (slice_set new n v) (n + 1)
mixing_more left right new n v l e h r = record {
  count = length-set new n v ∙ r.count;
  done = λ p b. elim (cases_eq p n) [
    | inl q ↦ rw q (get_or-set_same new n v (pos 0) l ∙ e ∙ ap (λ z. int_shr (z +ℤ item right n) 1) (r.ahead n (omega arith)))
    | inr q ↦ let ne : p ≢ n = q in get_or-set_other new n p v (pos 0) ne ∙ r.done p (smaller p b q)
  ];
  ahead = λ p b. let ne : p ≢ n = λ q. absurd (omega arith) in get_or-set_other new n p v (pos 0) ne ∙ r.ahead p (omega arith);
  sizes = All-set (λ z. unsigned_abs z ≤ 2 ^ 30) new n v h r.sizes;
}
  where
    smaller : (p : ℕ) → p < n + 1 → (p ≡ n → ⊥) → p < n
    smaller p b q = omega arith

pub mixed : (left right new : List ℤ) → Mixing left right new (length left) → new ≡ middle_of left right
unfolding middle_of
mixed left right new r = listed_from new (length left) (λ p. int_shr (item left p +ℤ item right p) 1) r.count r.done

pub first_mixed : (channels : ℕ) (left right new : List ℤ) → 1 < channels → new ≡ middle_of left right → new ≡ first_of 1 channels left right
unfolding first_of
first_mixed channels left right new l e = e ∙ by_test (nat_lt 1 channels) refl
  where
    by_test : (t : Bool) → nat_lt 1 channels ≡ t → middle_of left right ≡ (if t then middle_of left right else left)
    by_test true h = refl
    by_test false h = absurd (grind (arith, nat_tests))

pub first_left : (channels : ℕ) (left right : List ℤ) → channels ≤ 1 → left ≡ first_of 1 channels left right
unfolding first_of
first_left channels left right l = by_test (nat_lt 1 channels) refl
  where
    by_test : (t : Bool) → nat_lt 1 channels ≡ t → left ≡ (if t then middle_of left right else left)
    by_test true h = absurd (grind (arith, nat_tests))
    by_test false h = refl

pub second_copied : (channels : ℕ) (left right new : List ℤ) → channels ≡ 1 → new ≡ left → new ≡ second_of channels left right
unfolding second_of
second_copied channels left right new one e = rw one e

pub second_right : (channels : ℕ) (left right : List ℤ) → channels ≢ 1 → right ≡ second_of channels left right
unfolding second_of
second_right channels left right h = by_test (nat_eq channels 1) refl
  where
    by_test : (t : Bool) → nat_eq channels 1 ≡ t → right ≡ (if t then left else right)
    by_test true e = absurd (h (grind (arith, nat_tests)))
    by_test false e = refl
