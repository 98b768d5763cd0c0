-- Ratios in lowest terms, and how many samples come of how many.
use Rattle.std.proofs.Common.{◌≡◌, ℕ, zero, suc, ◌+◌, ◌-◌, ◌*◌, ◌/◌, ◌≤◌, sym, subst, ap, ◌∙◌, inl, inr, arith, refl}
use Rattle.std.specs.Prelude.{true, IsTrue}
use Rattle.std.proofs.lemmas.Nat.{mul-le}
use Rattle.std.proofs.lemmas.Bool.{cases_lt, cases_eq}
use Rattle.std.proofs.lemmas.Bool.Decides.{nat_tests}
use Rattle.std.proofs.Math.Nat.{mul-div_cancel_left}
use Rattle.rate_change.specs.Rates.{is_rate, is_ratio, IsLowest}

-- what divides two multiples that are one apart
pub apart_one : (a b n : ℕ) → a * n ≡ b * n + 1 → n ≡ 1
apart_one a b zero e = absurd (omega arith)
apart_one a b (suc zero) e = refl
apart_one a b (suc (suc n)) e = elim (cases_lt b a) [
  | inl l ↦ let m : (b + 1) * suc (suc n) ≤ a * suc (suc n) = mul-le (b + 1) (suc (suc n)) a (suc (suc n)) (omega arith) (omega arith) in absurd (omega arith)
  | inr l ↦ let m : a * suc (suc n) ≤ b * suc (suc n) = mul-le a (suc (suc n)) b (suc (suc n)) l (omega arith) in absurd (omega arith)
]

pub divides_one : (l n : ℕ) → 1 ≡ l * n → n ≡ 1
divides_one l n e = apart_one l 0 n (omega arith)

pub whole_lowest : (rate up : ℕ) → up * rate ≡ 48000 → IsLowest rate up 1
whole_lowest rate up e = record { same = omega arith; lowest = λ n k l f g. divides_one l n g }

pub part_lowest : IsLowest 44100 160 147
part_lowest = record { same = refl; lowest = λ n k l f g. apart_one (123 * l) (113 * k) n (both n k l f g) }
  where
    both : (n k l : ℕ) → 160 ≡ k * n → 147 ≡ l * n → 123 * l * n ≡ 113 * k * n + 1
    both n k l f g = omega arith

pub ratio_is : (rate r : ℕ) (p q : ℕ × ℕ) → rate ≡ r → p ≡ q → (is_rate r ≡ true) × IsLowest r q.0 q.1 → (is_rate rate ≡ true) × IsLowest rate p.0 p.1
ratio_is rate r p q e f h =
    subst (λ x. (is_rate x ≡ true) × IsLowest x p.0 p.1) (sym e) (subst (λ y. (is_rate r ≡ true) × IsLowest r y.0 y.1) (sym f) h)

-- ---- the six rates and their ratios

data Six (rate : ℕ) : Type 0 where
  AtWhole : (up : ℕ) → 1 ≤ up → up * rate ≡ 48000 → Six rate
  AtPart : rate ≡ 44100 → Six rate

six : (rate : ℕ) → IsTrue (is_rate rate) → Six rate
six rate h = elim (cases_eq rate 8000) [
  | inl e ↦ AtWhole 6 (omega arith) (omega arith)
  | inr a ↦ elim (cases_eq rate 12000) [
    | inl e ↦ AtWhole 4 (omega arith) (omega arith)
    | inr b ↦ elim (cases_eq rate 16000) [
      | inl e ↦ AtWhole 3 (omega arith) (omega arith)
      | inr d ↦ elim (cases_eq rate 24000) [
        | inl e ↦ AtWhole 2 (omega arith) (omega arith)
        | inr f ↦ elim (cases_eq rate 48000) [
          | inl e ↦ AtWhole 1 (omega arith) (omega arith)
          | inr g ↦ AtPart (grind (arith, nat_tests))
        ]
      ]
    ]
  ]
]

whole_only : (rate up u d : ℕ) → up * rate ≡ 48000 → IsLowest rate u d → (u ≡ up) × (d ≡ 1)
whole_only rate up u d e h =
    let r : 1 ≤ rate = some rate up e in
    let s : rate * u ≡ rate * (up * d) = omega (arith, h.same, ap (λ x. x * d) e) in
    let t : u ≡ up * d = sym (mul-div_cancel_left u r) ∙ ap (λ x. x / rate) s ∙ mul-div_cancel_left (up * d) r in
    let n : d ≡ 1 = h.lowest d up 1 t (omega arith) in
    (t ∙ ap (λ x. up * x) n ∙ one_times up, n)
  where
    some : (rate up : ℕ) → up * rate ≡ 48000 → 1 ≤ rate
    some zero up e = absurd (omega arith)
    some (suc r) up e = omega arith

    one_times : (n : ℕ) → n * 1 ≡ n
    one_times n = omega arith

part_only : (u d : ℕ) → IsLowest 44100 u d → (u ≡ 160) × (d ≡ 147)
part_only u d h =
    let e = h.same in
    let n : 123 * d - 113 * u ≡ 1 = h.lowest (123 * d - 113 * u) 160 147 (omega arith) (omega arith) in
    (omega arith, omega arith)

-- ---- a rate has one ratio

one_of : (rate u d v e : ℕ) → Six rate → IsLowest rate u d → IsLowest rate v e → (u ≡ v) × (d ≡ e)
one_of rate u d v e (AtWhole up s p) g h =
    let a = whole_only rate up u d p g in
    let b = whole_only rate up v e p h in
    (a.0 ∙ sym b.0, a.1 ∙ sym b.1)
one_of rate u d v e (AtPart p) g h =
    let a = part_only u d (subst (λ r. IsLowest r u d) p g) in
    let b = part_only v e (subst (λ r. IsLowest r v e) p h) in
    (a.0 ∙ sym b.0, a.1 ∙ sym b.1)

pub one_ratio : (rate u d v e : ℕ) → IsTrue (is_rate rate) → IsLowest rate u d → IsLowest rate v e → (u ≡ v) × (d ≡ e)
one_ratio rate u d v e h = one_of rate u d v e (six rate h)

-- ---- each ratio has a rate

down_of : (up down : ℕ) → IsTrue (is_ratio up down) → up ≡ 160 → down ≡ 147
down_of up down h e = grind (arith, nat_tests)

down_one : (up down : ℕ) → IsTrue (is_ratio up down) → (up ≡ 160 → ⊥) → down ≡ 1
down_one up down h n = grind (arith, nat_tests)

up_one : (up down : ℕ) → IsTrue (is_ratio up down) → (up ≡ 160 → ⊥) → (up ≡ 6 → ⊥) → (up ≡ 4 → ⊥) → (up ≡ 3 → ⊥) → (up ≡ 2 → ⊥) → up ≡ 1
up_one up down h a b d e f = grind (arith, nat_tests)

lowest_at : (rate up down : ℕ) → down ≡ 1 → up * rate ≡ 48000 → IsLowest rate up down
lowest_at rate up down e h = subst (IsLowest rate up) (sym e) (whole_lowest rate up h)

pub of_rate : (up down : ℕ) → IsTrue (is_ratio up down) → (rate : ℕ) × (IsTrue (is_rate rate)) × IsLowest rate up down
of_rate up down h = elim (cases_eq up 160) [
  | inl e ↦ (44100, refl, subst (λ u. IsLowest 44100 u down) (sym e) (subst (IsLowest 44100 160) (sym (down_of up down h e)) part_lowest))
  | inr n ↦
      let one : down ≡ 1 = down_one up down h n in
      elim (cases_eq up 6) [
        | inl e ↦ (8000, refl, lowest_at 8000 up down one (omega arith))
        | inr a ↦ elim (cases_eq up 4) [
          | inl e ↦ (12000, refl, lowest_at 12000 up down one (omega arith))
          | inr b ↦ elim (cases_eq up 3) [
            | inl e ↦ (16000, refl, lowest_at 16000 up down one (omega arith))
            | inr d ↦ elim (cases_eq up 2) [
              | inl e ↦ (24000, refl, lowest_at 24000 up down one (omega arith))
              | inr f ↦ (48000, refl, lowest_at 48000 up down one (omega (arith, up_one up down h n a b d f)))
            ]
          ]
        ]
      ]
]
