-- The logarithm in eighths is never below the true one. Powers are taken by repeated squaring.
use Rattle.std.proofs.Common.{◌≡◌, ◌^◌, ℕ, zero, suc, ◌+◌, ◌-◌, ◌*◌, ◌/◌, ◌<◌, ◌≤◌, inl, inr, refl, sym, ◌∙◌, ap, arith, mul-le-mul}
use Rattle.std.proofs.lemmas.Bool.{cases_lt}
use Rattle.std.proofs.lemmas.Nat.{pow-add, pow_pos}
use Rattle.std.proofs.Math.Nat.{pow-suc, pow-zero, le_of_mul-le-mul_right}
use Rattle.pulse_vectors.specs.Costs.{squared, log_digits, log_whole, log_eighths}
use Rattle.pulse_vectors.proofs.Logs.{digit_cases, digit_small, log-none, log-none-low, log-suc, next-low, whole-facts, scaled-most}

-- x to the power 2 ^ s.
unfoldable up : ℕ → ℕ → ℕ
up zero x = x
up (suc s) x = up s (x * x)

up_rises : (s x y : ℕ) → x ≤ y → up s x ≤ up s y
unfolding up
up_rises zero x y h = h
up_rises (suc s) x y h = up_rises s (x * x) (y * y) (mul-le-mul h h)

up-mul : (s x y : ℕ) → up s (x * y) ≡ up s x * up s y
unfolding up
up-mul zero x y = refl
up-mul (suc s) x y =
    let e : x * y * (x * y) ≡ x * x * (y * y) = omega arith in
    rw e (up-mul s (x * x) (y * y))

up-one : (s : ℕ) → up s 1 ≡ 1
unfolding up
up-one zero = refl
up-one (suc s) = up-one s

up-square : (s x : ℕ) → up (suc s) x ≡ up s x * up s x
unfolding up
up-square s x = up-mul s x x

up_pos : (s x : ℕ) → 0 < x → 0 < up s x
up_pos s x h = omega (arith, up_rises s 1 x h, up-one s)

-- 4 to the power 2 ^ s, and no power at all where the digit is 0.
up-digit : (s b : ℕ) → b ≤ 1 → up s (4 ^ b) ≡ 4 ^ (b * 2 ^ s)
unfolding up
up-digit zero b h = let e : b * 2 ^ 0 ≡ b = omega arith in rw e refl
up-digit (suc s) b h =
    let e : b * 2 ^ suc s ≡ b * 2 ^ s + b * 2 ^ s = ap (λ n. b * n) (pow-suc 2 s) ∙ omega arith in
    up-mul s (4 ^ b) (4 ^ b) ∙ (ap (λ n. n * n) (up-digit s b h) ∙ (sym (pow-add 4 (b * 2 ^ s) (b * 2 ^ s)) ∙ ap (λ n. 4 ^ n) (sym e)))

-- The square of a number is at most 4 to its digit times what is left of it.
digit-covers : (x : ℕ) → x ≤ 131069 → x * x ≤ 4 ^ (x / 65536) * (32768 * squared ((x + x / 65536) / 2 ^ (x / 65536)))
digit-covers x h = elim (digit_cases x h) [
  | inl low ↦ rw low (let e : (x + 0) / 2 ^ 0 ≡ x = omega arith in rw e (omega arith))
  | inr high ↦ rw high (
      let half : x ≤ 2 * ((x + 1) / 2 ^ 1) = omega arith in
      let square : x * x ≤ 2 * ((x + 1) / 2 ^ 1) * (2 * ((x + 1) / 2 ^ 1)) = mul-le-mul half half in
      omega arith)
]

-- s digits cover a number: x / 2^15 to the power 2^s is at most 4 to the number that they form.
digits-cover : (s x : ℕ) → x ≤ 131069 → up s x ≤ up s 32768 * 4 ^ log_digits s x
unfolding up
digits-cover zero x h = elim (cases_lt 32768 x) [
  | inl above ↦ rw (log-none x above) (omega arith)
  | inr low ↦ rw (log-none-low x low) (omega arith)
]
digits-cover (suc s) x h =
    let covered : up s (x * x) ≤ up s (4 ^ (x / 65536) * (32768 * squared ((x + x / 65536) / 2 ^ (x / 65536)))) = up_rises s _ _ (digit-covers x h) in
    let split : up s (4 ^ (x / 65536) * (32768 * squared ((x + x / 65536) / 2 ^ (x / 65536))))
    ≡ 4 ^ (x / 65536 * 2 ^ s) * (up s 32768 * up s (squared ((x + x / 65536) / 2 ^ (x / 65536))))
    = up-mul s (4 ^ (x / 65536)) (32768 * squared ((x + x / 65536) / 2 ^ (x / 65536)))
    ∙ (ap (λ n. n * up s (32768 * squared ((x + x / 65536) / 2 ^ (x / 65536)))) (up-digit s (x / 65536) (digit_small x h))
    ∙ ap (λ n. 4 ^ (x / 65536 * 2 ^ s) * n) (up-mul s 32768 (squared ((x + x / 65536) / 2 ^ (x / 65536))))) in
    let rest = digits-cover s (squared ((x + x / 65536) / 2 ^ (x / 65536))) (next-low x h) in
    let power : 4 ^ log_digits (suc s) x ≡ 4 ^ (x / 65536 * 2 ^ s) * 4 ^ log_digits s (squared ((x + x / 65536) / 2 ^ (x / 65536)))
    = ap (λ n. 4 ^ n) (log-suc s x) ∙ pow-add 4 (x / 65536 * 2 ^ s) (log_digits s (squared ((x + x / 65536) / 2 ^ (x / 65536)))) in
    cover-step (up s (x * x)) (4 ^ (x / 65536 * 2 ^ s)) (up s 32768) (up s (squared ((x + x / 65536) / 2 ^ (x / 65536)))) (4 ^ log_digits s (squared ((x + x / 65536) / 2 ^ (x / 65536))))
    (up s (32768 * 32768)) (4 ^ log_digits (suc s) x) (rw split at covered) rest (up-mul s 32768 32768) power
  where
    cover-step : (a d u n t w p : ℕ) → a ≤ d * (u * n) → n ≤ u * t → w ≡ u * u → p ≡ d * t → a ≤ w * p
    cover-step a d u n t w p h1 h2 e1 e2 =
        let more : d * u * n ≤ d * u * (u * t) = mul-le-mul {n₁ = d * u} (omega arith) h2 in
        rw (e1, e2) (omega arith)

square-cancels : (a b : ℕ) → a * a ≤ b * b → a ≤ b
square-cancels a b h = elim (cases_lt b a) [
  | inl less ↦
      let more : suc b * suc b ≤ a * a = mul-le-mul less less in
      absurd (omega arith)
  | inr fine ↦ fine
]

four-square : (t : ℕ) → 4 ^ t ≡ 2 ^ t * 2 ^ t
four-square zero = omega arith
four-square (suc t) = omega (arith, pow-suc 4 t, ap (λ n. n * n) (pow-suc 2 t), four-square t)

eighth_power : (v : ℕ) → up 3 v ≡ v ^ 8
unfolding up
eighth_power v =
    let single : 1 * v ≡ v = omega arith in
    let one : v ^ 1 ≡ v = pow-suc v 0 ∙ (ap (λ n. n * v) (pow-zero v) ∙ single) in
    let two : v ^ 2 ≡ v * v = pow-suc v 1 ∙ ap (λ n. n * v) one in
    let four : v ^ 4 ≡ v * v * (v * v) = pow-add v 2 2 ∙ ap (λ n. n * n) two in
    sym (pow-add v 4 4 ∙ ap (λ n. n * n) four)

two_power : (e : ℕ) → up 3 (2 ^ e) ≡ 2 ^ (8 * e)
unfolding up
two_power e =
    let two : 2 ^ (e + e) ≡ 2 ^ e * 2 ^ e = pow-add 2 e e in
    let four : 2 ^ (e + e + (e + e)) ≡ 2 ^ e * 2 ^ e * (2 ^ e * 2 ^ e) = pow-add 2 (e + e) (e + e) ∙ ap (λ n. n * n) two in
    let all : e + e + (e + e) + (e + e + (e + e)) ≡ 8 * e = omega arith in
    sym (ap (λ n. 2 ^ n) (sym all) ∙ (pow-add 2 (e + e + (e + e)) (e + e + (e + e)) ∙ ap (λ n. n * n) four))

-- From the digits of v over its leading power w, rounded up, to v itself.
whole-covers : (v w x t : ℕ) → v * 32768 ≤ 2 ^ w * x → up 4 x ≤ up 4 32768 * 4 ^ t → v ^ 8 ≤ 2 ^ (8 * w + t)
whole-covers v w x t h c =
    let scaled : up 4 (v * 32768) ≤ up 4 (2 ^ w * x) = up_rises 4 _ _ h in
    let left = rw (up-mul 4 v 32768, up-mul 4 (2 ^ w) x) at scaled in
    let digits : up 4 (2 ^ w) * up 4 x ≤ up 4 (2 ^ w) * (up 4 32768 * 4 ^ t) = mul-le-mul {n₁ = up 4 (2 ^ w)} (omega arith) c in
    let cancelled : up 4 v ≤ up 4 (2 ^ w) * 4 ^ t = le_of_mul-le-mul_right {k = up 4 32768} (omega arith) (up_pos 4 32768 (omega arith)) in
    let squares : v ^ 8 * v ^ 8 ≤ 2 ^ (8 * w) * 2 ^ t * (2 ^ (8 * w) * 2 ^ t) =
    omega (
      arith,
      up-square 3 v ∙ ap (λ n. n * n) (eighth_power v),
      ap (λ n. n * 4 ^ t) (up-square 3 (2 ^ w) ∙ ap (λ n. n * n) (two_power w)),
      ap (λ n. 2 ^ (8 * w) * 2 ^ (8 * w) * n) (four-square t),
    ) in
    rw (pow-add 2 (8 * w) t) (square-cancels (v ^ 8) (2 ^ (8 * w) * 2 ^ t) squares)

pub eighths_cover : (v : ℕ) → 1 ≤ v → v < 2 ^ 32 → v ^ 8 ≤ 2 ^ log_eighths v
unfolding log_eighths
eighths_cover v h b =
    let f = whole-facts v h b in
    whole-covers v (log_whole v) ((v * 32768 + (2 ^ log_whole v - 1)) / 2 ^ log_whole v) (log_digits 4 ((v * 32768 + (2 ^ log_whole v - 1)) / 2 ^ log_whole v))
    (omega (arith, pow_pos (log_whole v)))
    (digits-cover 4 ((v * 32768 + (2 ^ log_whole v - 1)) / 2 ^ log_whole v) (omega (arith, scaled-most v (log_whole v) f.high)))
