-- The logarithm in eighths: its loop, its bound, and that it never falls.
use Rattle.std.proofs.Common.{◌≡◌, ◌^◌, ℕ, zero, suc, ◌+◌, ◌-◌, ◌*◌, ◌/◌, ◌<◌, ◌≤◌, ◌⊎◌, inl, inr, refl, sym, ap, subst, arith, mul-le-mul}
use Rattle.std.specs.Prelude.{Bool, true, false, nat_le}
use Rattle.std.proofs.lemmas.Bool.{cases_lt, cases_Bool, leb-true, leb-false}
use Rattle.std.proofs.lemmas.Nat.{pow_pos, le-div}
use Rattle.std.proofs.lemmas.Bool.Decides.{nat_tests}
use Rattle.std.proofs.Math.Nat.{pow-suc, pow-le-pow_right, eq-or-lt_of_le, div-mul-le_self}
use Rattle.pulse_vectors.specs.Costs.{greatest, squared, log_digits, log_whole, log_eighths}

-- What the loop over the digits knows, s of them left.
pub record Digits (x s sum rest : ℕ) : Type 0 where
  pub value : sum + log_digits s rest ≡ log_digits 4 x
  pub low : rest ≤ 131069
  pub room : sum + 2 ^ s ≤ 16

-- A number below 4 halved, rounded up, where it has reached 2.
pub halved : ℕ → ℕ
halved x = (x + x / 65536) / 2 ^ (x / 65536)

pub digit_cases : (x : ℕ) → x ≤ 131069 → (x / 65536 ≡ 0) ⊎ (x / 65536 ≡ 1)
digit_cases x h = elim (cases_lt x 65536) [ inl low ↦ inl (omega arith) | inr high ↦ inr (omega arith) ]

pub halved-below : (x digit : ℕ) → x ≤ 131069 → digit ≡ x / 65536 → (x + digit) / 2 ^ digit ≤ 65535
halved-below x digit h e = elim (digit_cases x h) [
  | inl low ↦ let d : digit ≡ 0 = omega arith in rw d (omega arith)
  | inr high ↦ let d : digit ≡ 1 = omega arith in rw d (omega arith)
]

pub digit_small : (x : ℕ) → x ≤ 131069 → x / 65536 ≤ 1
digit_small x h = omega arith

pub square-below : (y : ℕ) → y ≤ 65535 → y * y ≤ 4294836225
square-below y h = mul-le-mul h h

pub log-suc : (s x : ℕ) → log_digits (suc s) x ≡ (x / 65536) * 2 ^ s + log_digits s (squared ((x + x / 65536) / 2 ^ (x / 65536)))
unfolding log_digits
log-suc s x = refl

pub digits-next : (x left s sum rest digit : ℕ) → left ≡ s + 1 → Digits x left sum rest → digit ≡ rest / 65536
    → Digits x s (sum + digit * 2 ^ s) (squared ((rest + digit) / 2 ^ digit))
digits-next x left s sum rest digit e d0 q =
    let l : left ≡ suc s = omega arith in
    let d = let P : ℕ → Type 0 = λ n. Digits x n sum rest in subst P l d0 in
    let digit_low : digit ≤ 1 = omega (arith, d.low) in
    let above : digit * 2 ^ s ≤ 1 * 2 ^ s = mul-le-mul digit_low (omega arith) in
    record {
      value = rw q (omega (arith, d.value, log-suc s rest));
      low = omega (arith, square-below ((rest + digit) / 2 ^ digit) (halved-below rest digit d.low q));
      room = omega (arith, d.room, pow-suc 2 s);
    }

pub digits-room : (x left s sum rest digit : ℕ) → left ≡ s + 1 → Digits x left sum rest → digit ≡ rest / 65536 → sum + digit * 2 ^ s ≤ 16
digits-room x left s sum rest digit e d q = omega (arith, (digits-next x left s sum rest digit e d q).room)

pub log-none : (x : ℕ) → 32768 < x → log_digits 0 x ≡ 1
unfolding log_digits
log-none x h = grind (arith, nat_tests)

pub log-none-low : (x : ℕ) → x ≤ 32768 → log_digits 0 x ≡ 0
unfolding log_digits
log-none-low x h = grind (arith, nat_tests)

pub digits-end-above : (x s sum rest : ℕ) → s ≡ 0 → Digits x s sum rest → 32768 < rest → sum + 1 ≡ log_digits 4 x
digits-end-above x s sum rest e d0 h =
    let d = let P : ℕ → Type 0 = λ n. Digits x n sum rest in subst P e d0 in
    omega (arith, d.value, log-none rest h)

pub digits-end : (x s sum rest : ℕ) → s ≡ 0 → Digits x s sum rest → rest ≤ 32768 → sum ≡ log_digits 4 x
digits-end x s sum rest e d0 h =
    let d = let P : ℕ → Type 0 = λ n. Digits x n sum rest in subst P e d0 in
    omega (arith, d.value, log-none-low rest h)

-- The greatest number that passes, by what passes and what does not.
pub greatest-is : (p : ℕ → Bool) (m q : ℕ) → q ≤ m → (0 < q → p q ≡ true) → ((j : ℕ) → q < j → j ≤ m → p j ≡ false) → greatest p m ≡ q
unfolding greatest
greatest-is p zero q h t f = omega arith
greatest-is p (suc m) q h t f = elim (cases_lt m q) [
  | inl last ↦
      let e : q ≡ suc m = omega arith in
      let t' = rw e at t in
      rw (t' (omega arith), e) refl
  | inr within ↦ rw (f (suc m) (omega arith) (omega arith)) (greatest-is p m q within t (λ j a b. f j a (omega arith)))
]

pub whole-is : (v w : ℕ) → 2 ^ w ≤ v → v < 2 * 2 ^ w → w < 32 → log_whole v ≡ w
unfolding log_whole
whole-is v w h b l = greatest-is (λ e. nat_le (2 ^ e) v) 31 w (omega arith) (λ z. grind (arith, nat_tests))
    (λ j a b2.
    let up : 2 ^ suc w ≤ 2 ^ j = pow-le-pow_right {n = 2} (omega arith) (omega arith) in
    let more : v < 2 ^ j = omega (arith, pow-suc 2 w) in
    grind (arith, nat_tests))

pub eighths-is : (v w e : ℕ) → 2 ^ w ≤ v → v < 2 * 2 ^ w → w < 32
    → e ≡ log_digits 4 ((v * 32768 + (2 ^ w - 1)) / 2 ^ w) → 8 * w + e ≡ log_eighths v
unfolding log_eighths
eighths-is v w e h b l q = rw (whole-is v w h b l) (ap (λ n. 8 * w + n) q)

-- The digits are fewer than 2 to their number, and never fall.
pub next-low : (x : ℕ) → x ≤ 131069 → squared ((x + x / 65536) / 2 ^ (x / 65536)) ≤ 131069
next-low x h = omega (arith, square-below ((x + x / 65536) / 2 ^ (x / 65536)) (halved-below x (x / 65536) h refl))

pub log-most : (s x : ℕ) → x ≤ 131069 → log_digits s x ≤ 2 ^ s
log-most zero x h = elim (cases_lt 32768 x) [ inl above ↦ omega (arith, log-none x above) | inr low ↦ omega (arith, log-none-low x low) ]
log-most (suc s) x h =
    let digit : (x / 65536) * 2 ^ s ≤ 1 * 2 ^ s = mul-le-mul (digit_small x h) (omega arith) in
    omega (arith, log-suc s x, pow-suc 2 s, log-most s (squared ((x + x / 65536) / 2 ^ (x / 65536))) (next-low x h))

squares_rise : (a b : ℕ) → a ≤ b → squared a ≤ squared b
squares_rise a b h = let e : a * a ≤ b * b = mul-le-mul h h in omega arith

next-rises : (x y : ℕ) → x ≤ y → y ≤ 131069 → x / 65536 ≡ y / 65536
    → squared ((x + x / 65536) / 2 ^ (x / 65536)) ≤ squared ((y + y / 65536) / 2 ^ (y / 65536))
next-rises x y h l e = squares_rise _ _ (elim (digit_cases y l) [
  | inl low ↦ let a : x / 65536 ≡ 0 = omega arith in rw (low, a) (omega arith)
  | inr high ↦ let a : x / 65536 ≡ 1 = omega arith in rw (high, a) (omega arith)
])

pub log_rises : (s x y : ℕ) → x ≤ y → y ≤ 131069 → log_digits s x ≤ log_digits s y
log_rises zero x y h l = elim (cases_lt 32768 x) [
  | inl above ↦ omega (arith, log-none x above, log-none y (omega arith))
  | inr low ↦ omega (arith, log-none-low x low)
]
log_rises (suc s) x y h l = elim (cases_lt (x / 65536) (y / 65536)) [
  | inl less ↦
      let a : x / 65536 ≡ 0 = omega (arith, digit_small y l) in
      let b : y / 65536 ≡ 1 = omega (arith, digit_small y l) in
      let x0 : (x / 65536) * 2 ^ s ≡ 0 = rw a (omega arith) in
      let y1 : (y / 65536) * 2 ^ s ≡ 2 ^ s = rw b (omega arith) in
      omega (arith, log-suc s x, log-suc s y, log-most s (squared ((x + x / 65536) / 2 ^ (x / 65536))) (next-low x (omega arith)))
  | inr more ↦
      let e : x / 65536 ≡ y / 65536 = omega arith in
      let d : (x / 65536) * 2 ^ s ≡ (y / 65536) * 2 ^ s = ap (λ n. n * 2 ^ s) e in
      omega (arith, log-suc s x, log-suc s y, log_rises s (squared ((x + x / 65536) / 2 ^ (x / 65536))) (squared ((y + y / 65536) / 2 ^ (y / 65536))) (next-rises x y h l e) (next-low y l))
]

-- Up to 2, the logarithm is at most 1.
log-two : log_digits 4 65536 ≡ 8
unfolding log_digits
log-two = refl

pub log-one : (x : ℕ) → x ≤ 65536 → log_digits 4 x ≤ 8
log-one x h = omega (arith, log_rises 4 x 65536 h (omega arith), log-two)

pub greatest-passes : (p : ℕ → Bool) (m : ℕ) → (greatest p m ≡ 0) ⊎ (p (greatest p m) ≡ true)
unfolding greatest
greatest-passes p zero = inl refl
greatest-passes p (suc m) = elim (cases_Bool (p (suc m))) [
  | inl hit ↦ inr (rw hit hit)
  | inr miss ↦ rw miss (greatest-passes p m)
]

pub greatest-within : (p : ℕ → Bool) (m : ℕ) → greatest p m ≤ m
unfolding greatest
greatest-within p zero = omega arith
greatest-within p (suc m) = elim (cases_Bool (p (suc m))) [
  | inl hit ↦ rw hit (omega arith)
  | inr miss ↦ rw miss (omega (arith, greatest-within p m))
]

pub greatest-above : (p : ℕ → Bool) (m j : ℕ) → greatest p m < j → j ≤ m → p j ≡ false
unfolding greatest
greatest-above p zero j h l = absurd (omega arith)
greatest-above p (suc m) j h l = elim (cases_Bool (p (suc m))) [
  | inl hit ↦ let h' = rw hit at h in absurd (omega arith)
  | inr miss ↦
      let h' = rw miss at h in
      elim (cases_lt m j) [
        | inl last ↦ let e : j ≡ suc m = omega arith in rw e miss
        | inr within ↦ greatest-above p m j h' within
      ]
]

-- The whole part of a logarithm.
pub record IsWhole (v w : ℕ) : Type 0 where
  pub low : 2 ^ w ≤ v
  pub high : v < 2 * 2 ^ w
  pub most : w < 32

whole-low : (v : ℕ) → 1 ≤ v → 2 ^ log_whole v ≤ v
unfolding log_whole
whole-low v h = elim (greatest-passes (λ e. nat_le (2 ^ e) v) 31) [
  | inl zero_is ↦ rw zero_is (omega arith)
  | inr hit ↦ leb-true _ _ hit
]

whole-high : (v : ℕ) → log_whole v < 31 → v < 2 * 2 ^ log_whole v
unfolding log_whole
whole-high v h =
    let w : ℕ = greatest (λ e. nat_le (2 ^ e) v) 31 in
    let miss = greatest-above (λ e. nat_le (2 ^ e) v) 31 (suc (greatest (λ e. nat_le (2 ^ e) v) 31)) (omega arith) (omega arith) in
    let less : v < 2 ^ suc (greatest (λ e. nat_le (2 ^ e) v) 31) = leb-false _ _ miss in
    omega (arith, pow-suc 2 (greatest (λ e. nat_le (2 ^ e) v) 31))

whole-most : (v : ℕ) → log_whole v ≤ 31
unfolding log_whole
whole-most v = greatest-within (λ e. nat_le (2 ^ e) v) 31

pub whole-facts : (v : ℕ) → 1 ≤ v → v < 2 ^ 32 → IsWhole v (log_whole v)
whole-facts v h b = record {
  low = whole-low v h;
  high = elim (eq-or-lt_of_le (whole-most v)) [
    | inl last ↦ rw last (omega arith)
    | inr less ↦ whole-high v less
  ];
  most = omega (arith, whole-most v);
}

-- A number over its leading power of two, rounded up, is at most 2, and rises with the number.
pub scaled-most : (v w : ℕ) → v < 2 * 2 ^ w → (v * 32768 + (2 ^ w - 1)) / 2 ^ w ≤ 65536
scaled-most v w h = elim (cases_lt ((v * 32768 + (2 ^ w - 1)) / 2 ^ w) 65537) [
  | inl low ↦ omega arith
  | inr past ↦
      let big : 65537 * 2 ^ w ≤ (v * 32768 + (2 ^ w - 1)) / 2 ^ w * 2 ^ w = mul-le-mul past (omega arith) in
      absurd (omega (arith, pow_pos w, div-mul-le_self (v * 32768 + (2 ^ w - 1)) (2 ^ w)))
]

scaled_rises : (v u w : ℕ) → v ≤ u → (v * 32768 + (2 ^ w - 1)) / 2 ^ w ≤ (u * 32768 + (2 ^ w - 1)) / 2 ^ w
scaled_rises v u w h =
    le-div ((v * 32768 + (2 ^ w - 1)) / 2 ^ w) (u * 32768 + (2 ^ w - 1)) (2 ^ w) (pow_pos w)
    (omega (arith, div-mul-le_self (v * 32768 + (2 ^ w - 1)) (2 ^ w)))

pub eighths_rise : (v u : ℕ) → 1 ≤ v → v ≤ u → u < 2 ^ 32 → log_eighths v ≤ log_eighths u
unfolding log_eighths
eighths_rise v u h l b =
    let a = whole-facts v h (omega arith) in
    let c = whole-facts u (omega arith) b in
    elim (cases_lt (log_whole v) (log_whole u)) [
      | inl less ↦ omega (arith, log-one ((v * 32768 + (2 ^ log_whole v - 1)) / 2 ^ log_whole v) (scaled-most v (log_whole v) a.high))
      | inr more ↦
          let back : 2 ^ suc (log_whole u) ≤ 2 ^ log_whole v → log_whole v ≤ log_whole u = λ z. absurd (omega (arith, pow-suc 2 (log_whole u))) in
          let same : log_whole v ≡ log_whole u = elim (eq-or-lt_of_le more) [
            | inl e ↦ sym e
            | inr past ↦ omega (arith, back (pow-le-pow_right {n = 2} (omega arith) past))
          ] in
          let scaled = scaled_rises v u (log_whole u) l in
          rw same (omega (arith, log_rises 4 ((v * 32768 + (2 ^ log_whole u - 1)) / 2 ^ log_whole u) ((u * 32768 + (2 ^ log_whole u - 1)) / 2 ^ log_whole u) scaled (omega (arith, scaled-most u (log_whole u) c.high))))
    ]
