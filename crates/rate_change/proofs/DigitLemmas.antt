-- Weights cut into digits.
use Rattle.std.proofs.Common.{◌≡◌, ℕ, ◌+◌, ◌^◌, ◌<◌, ◌≤◌, sym, subst, ap, ◌∙◌, arith, inl, inr, List, length}
use Rattle.std.specs.Prelude.{ℤ, pos, negsuc, ◌≤ℤ◌, ◌<ℤ◌, ◌+ℤ◌, ◌-ℤ◌, ◌*ℤ◌, unsigned_abs, FitsSigned, slice_set}
use Rattle.std.specs.Int.{w64, int_div_euclid}
use Rattle.std.proofs.lemmas.Bool.{cases_eq}
use Rattle.std.proofs.lemmas.Int.{ints, fits_signed_from_abs}
use Rattle.std.proofs.lemmas.List.{get_or-set_same, get_or-set_other, length-set}
use Rattle.fixed_math.specs.Items.{item}
use Rattle.rate_change.specs.Digits.{joined, AreDigits}

quotient_low : (a : ℤ) → (pos 4095 *ℤ int_div_euclid a (pos 4095)) ≤ℤ a
quotient_low (pos a) = omega (arith, ints)
quotient_low (negsuc a) = omega (arith, ints)

quotient_high : (a : ℤ) → a <ℤ (pos 4095 *ℤ int_div_euclid a (pos 4095) +ℤ pos 4095)
quotient_high (pos a) = omega (arith, ints)
quotient_high (negsuc a) = omega (arith, ints)

pub record CutSteps (w q : ℤ) : Type 0 where
  pub product : FitsSigned w64 (pos 4095 *ℤ q)
  pub left : FitsSigned w64 (w -ℤ pos 4095 *ℤ q)
  pub whole : pos 4095 *ℤ q +ℤ (w -ℤ pos 4095 *ℤ q) ≡ w
  pub size : unsigned_abs (w -ℤ pos 4095 *ℤ q) ≤ 2047

pub cut_steps : (w q : ℤ) → unsigned_abs w ≤ 2 ^ 34 → q ≡ int_div_euclid (w +ℤ pos 2047) (pos 4095) → CutSteps w q
cut_steps w q h e =
    let a : (pos 4095 *ℤ q) ≤ℤ (w +ℤ pos 2047) = rw e (quotient_low (w +ℤ pos 2047)) in
    let b : (w +ℤ pos 2047) <ℤ (pos 4095 *ℤ q +ℤ pos 4095) = rw e (quotient_high (w +ℤ pos 2047)) in
    record {
      product = fits_signed_from_abs w64 (pos 4095 *ℤ q) (omega (arith, ints));
      left = fits_signed_from_abs w64 (w -ℤ pos 4095 *ℤ q) (omega (arith, ints));
      whole = omega (arith, ints);
      size = omega (arith, ints);
    }

-- one place more
kept : (xs : List ℤ) (n t : ℕ) (x : ℤ) → t < n + 1 → (t ≡ n → ⊥) → item (slice_set xs n x) t ≡ item xs t
kept xs n t x l d = get_or-set_other xs n t x (pos 0) d

put : (xs : List ℤ) (n : ℕ) (x : ℤ) → length xs ≡ 32 → n < 32 → item (slice_set xs n x) n ≡ x
put xs n x e l = get_or-set_same xs n x (pos 0) (omega arith)

more_small : (xs : List ℤ) (n : ℕ) (x : ℤ) → length xs ≡ 32 → n < 32 → unsigned_abs x ≤ 2047 → ((t : ℕ) → t < n → unsigned_abs (item xs t) ≤ 2047) → (t : ℕ) → t < n + 1 → unsigned_abs (item (slice_set xs n x) t) ≤ 2047
more_small xs n x e l s h t q = elim (cases_eq t n) [
  | inl r ↦ subst (λ k. unsigned_abs (item (slice_set xs n x) k) ≤ 2047) (sym r) (subst (λ z. unsigned_abs z ≤ 2047) (sym (put xs n x e l)) s)
  | inr d ↦ subst (λ z. unsigned_abs z ≤ 2047) (sym (kept xs n t x q d)) (h t (below t n q d))
]
  where
    below : (t n : ℕ) → t < n + 1 → (t ≡ n → ⊥) → t < n
    below t n q d = omega arith

more_value : (n : ℕ) (ws hs ms ls : List ℤ) (h m l : ℤ) → n < 32 → AreDigits n ws hs ms ls → joined h m l ≡ item ws n → (t : ℕ) → t < n + 1 → joined (item (slice_set hs n h) t) (item (slice_set ms n m) t) (item (slice_set ls n l) t) ≡ item ws t
more_value n ws hs ms ls h m l s a e t q = elim (cases_eq t n) [
  | inl r ↦ subst (λ k. joined (item (slice_set hs n h) k) (item (slice_set ms n m) k) (item (slice_set ls n l) k) ≡ item ws k) (sym r)
      (ap (λ z. joined z (item (slice_set ms n m) n) (item (slice_set ls n l) n)) (put hs n h a.count_high s)
      ∙ ap (λ z. joined h z (item (slice_set ls n l) n)) (put ms n m a.count_middle s)
      ∙ ap (joined h m) (put ls n l a.count_low s)
      ∙ e)
  | inr d ↦
      ap (λ z. joined z (item (slice_set ms n m) t) (item (slice_set ls n l) t)) (kept hs n t h q d)
      ∙ ap (λ z. joined (item hs t) z (item (slice_set ls n l) t)) (kept ms n t m q d)
      ∙ ap (joined (item hs t) (item ms t)) (kept ls n t l q d)
      ∙ a.value t (below t n q d)
]
  where
    below : (t n : ℕ) → t < n + 1 → (t ≡ n → ⊥) → t < n
    below t n q d = omega arith

pub more_digits : (n : ℕ) (ws hs ms ls : List ℤ) (h m l : ℤ) → n < 32 → AreDigits n ws hs ms ls → joined h m l ≡ item ws n → unsigned_abs h ≤ 2047 → unsigned_abs m ≤ 2047 → unsigned_abs l ≤ 2047 → AreDigits (n + 1) ws (slice_set hs n h) (slice_set ms n m) (slice_set ls n l)
more_digits n ws hs ms ls h m l s a e p q r = record {
  count_high = length-set hs n h ∙ a.count_high;
  count_middle = length-set ms n m ∙ a.count_middle;
  count_low = length-set ls n l ∙ a.count_low;
  value = more_value n ws hs ms ls h m l s a e;
  small_high = more_small hs n h a.count_high s p a.small_high;
  small_middle = more_small ms n m a.count_middle s q a.small_middle;
  small_low = more_small ls n l a.count_low s r a.small_low;
}

pub next_small : (w q l : ℤ) → unsigned_abs w ≤ 2 ^ 34 → pos 4095 *ℤ q +ℤ l ≡ w → unsigned_abs l ≤ 2047 → unsigned_abs q ≤ 4195330
next_small w q l s e h = omega (arith, ints)

pub top_small : (q h m : ℤ) → unsigned_abs q ≤ 4195330 → pos 4095 *ℤ h +ℤ m ≡ q → unsigned_abs m ≤ 2047 → unsigned_abs h ≤ 1025
top_small q h m s e p = omega (arith, ints)
