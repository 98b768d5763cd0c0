-- Powers of two: the parts' literals and the octave's rise, by evaluation; sizes, and the logarithm.
use Rattle.std.proofs.Common.{◌≡◌, ℕ, zero, suc, ◌+◌, ◌-◌, ◌*◌, ◌/◌, ◌%◌, ◌^◌, ◌<◌, ◌≤◌, refl, sym, ap, subst, inl, inr, arith, ◌∙◌, Bool, true, false, [], ◌∷◌, get_or}
use Rattle.std.specs.Prelude.{if◌then◌else◌, nat_le, nat_lt, nat_eq, min}
use Rattle.std.proofs.lemmas.Nat.{mul-le, mul-lt, div_below, le-div, pow_pos, pow-add, shr-shr, div-mul-add, mod-mul-add, leading_top}
use Rattle.std.proofs.lemmas.Bool.{cases_lt, cases_order, ltb-true, eqb-true, leb-true, leb-false, le-leb}
use Rattle.std.proofs.Math.Nat.{mul_assoc, mul-div_cancel_left, pow-suc, mod-eq_of_lt, div-mul-le_self, pow-le-pow_right}
use Rattle.std.specs.Int.Count.{count_leading_zeros}
use Rattle.fixed_math.specs.Root.{root, root_by}
use Rattle.fixed_math.specs.Powers.{part, multiplied, power_by, fraction, mantissa, octaves, ex, power, logarithm, IsLogarithm}
use Rattle.fixed_math.specs.Search.{greatest}
use Rattle.fixed_math.specs.Octave.{IsPlace}
use Rattle.fixed_math.proofs.SearchLemmas.{greatest-found, greatest-above}
use Rattle.fixed_math.proofs.TableLemmas.{all_from, all_from-at, climbs, rises_over}

-- ---- the parts

unfoldable pub part_literal : ℕ → ℕ
part_literal k = get_or (2305843009213693952 ∷ 1630477228166597776 ∷ 1371062456318104877 ∷ 1257269815929830108 ∷ 1203965700457697122 ∷ 1178167198179750970 ∷ 1165475996665667821 ∷ 1159181754367685996 ∷ 1156047391917129429 ∷ 1154483390303177193 ∷ 1153702183144312516 ∷ []) k 0

parts_tested : all_from (λ k. nat_eq (part_literal k) (part k)) 11 0 ≡ true
unfolding part_literal part root root_by
parts_tested = refl

pub part-is : (k : ℕ) → k ≤ 10 → part_literal k ≡ part k
part-is k h =
    let e : 0 + k ≡ k = omega arith in
    subst (λ i. part_literal i ≡ part i) e (eqb-true (part_literal (0 + k)) (part (0 + k)) (all_from-at (λ i. nat_eq (part_literal i) (part i)) 11 0 k parts_tested (omega arith)))

sizes_tested : all_from (λ k. nat_lt (part_literal (suc k)) (2 ^ 61)) 10 0 ≡ true
unfolding part_literal
sizes_tested = refl

pub part_small : (k : ℕ) → k < 10 → part_literal (suc k) < 2 ^ 61
part_small k h =
    let e : 0 + k ≡ k = omega arith in
    subst (λ i. part_literal (suc i) < 2 ^ 61) e (ltb-true (part_literal (suc (0 + k))) (2 ^ 61) (all_from-at (λ i. nat_lt (part_literal (suc i)) (2 ^ 61)) 10 0 k sizes_tested h))

power_by-same : (p q : ℕ → ℕ) (n : ℕ) → ((k : ℕ) → k ≤ n → p k ≡ q k) → (k f : ℕ) → k ≤ n → power_by p k f ≡ power_by q k f
unfolding power_by
power_by-same p q n s zero f h = refl
power_by-same p q n s (suc k) f h =
    ap (λ x. multiplied (f % 2) x (p (suc k))) (power_by-same p q n s k (f / 2) (omega arith)) ∙ ap (multiplied (f % 2) (power_by q k (f / 2))) (s (suc k) h)

fraction-literal : (f : ℕ) → power_by part_literal 10 f ≡ fraction f
unfolding fraction
fraction-literal f = power_by-same part_literal part 10 part-is 10 f (omega arith)

-- ---- the octave rises

abbrev literal_mantissa : ℕ → ℕ
literal_mantissa f = power_by part_literal 10 f / 2 ^ 30

mantissa-literal : (f : ℕ) → literal_mantissa f ≡ mantissa f
unfolding mantissa
mantissa-literal f = ap (λ q. q / 2 ^ 30) (fraction-literal f)

rise_tested : all_from (λ f. nat_lt (literal_mantissa f) (literal_mantissa (suc f))) 1023 0 ≡ true
unfolding power_by part_literal
rise_tested = refl

mantissa_step : (f : ℕ) → f < 1023 → mantissa f < mantissa (suc f)
mantissa_step f h =
    let e : 0 + f ≡ f = omega arith in
    let t : literal_mantissa f < literal_mantissa (suc f) = subst (λ i. literal_mantissa i < literal_mantissa (suc i)) e (ltb-true (literal_mantissa (0 + f)) (literal_mantissa (suc (0 + f))) (all_from-at (λ i. nat_lt (literal_mantissa i) (literal_mantissa (suc i))) 1023 0 f rise_tested h)) in
    omega (arith, mantissa-literal f, mantissa-literal (suc f))

pub mantissa-rises : (f g : ℕ) → f < g → g < 1024 → mantissa f < mantissa g
mantissa-rises f g h l =
    let e : suc (f + (g - f - 1)) ≡ g = omega arith in
    subst (λ k. mantissa f < mantissa k) e (climbs mantissa 1023 f (g - f - 1) mantissa_step (omega arith))

first_literal : power_by part_literal 10 0 ≡ 2 ^ 60
unfolding power_by part_literal
first_literal = refl

last_literal : literal_mantissa 1023 ≡ 2146030504
unfolding power_by part_literal
last_literal = refl

mantissa-first : mantissa 0 ≡ 2 ^ 30
mantissa-first = sym (mantissa-literal 0) ∙ ap (λ q. q / 2 ^ 30) first_literal

mantissa-last : mantissa 1023 ≡ 2146030504
mantissa-last = sym (mantissa-literal 1023) ∙ last_literal

pub mantissa_low : (f : ℕ) → f < 1024 → 2 ^ 30 ≤ mantissa f
mantissa_low zero h = omega (arith, mantissa-first)
mantissa_low (suc f) h = omega (arith, mantissa-first, mantissa-rises 0 (suc f) (omega arith) h)

pub mantissa_high : (f : ℕ) → f < 1024 → mantissa f < 2 ^ 31
mantissa_high f h =
    elim (cases_lt f 1023) [
      | inl p ↦ omega (arith, mantissa-last, mantissa-rises f 1023 p (omega arith))
      | inr p ↦
          let e : f ≡ 1023 = omega arith in
          omega (arith, mantissa-last, ap mantissa e)
    ]

pub mantissa-fraction : (f : ℕ) → fraction f / 2 ^ 30 ≡ mantissa f
unfolding mantissa
mantissa-fraction f = refl

pub fraction_low : (f : ℕ) → f < 1024 → 2 ^ 60 ≤ fraction f
fraction_low f h = omega (arith, mantissa_low f h, mantissa-fraction f)

pub fraction_high : (f : ℕ) → f < 1024 → fraction f < 2 ^ 61
fraction_high f h = omega (arith, mantissa_high f h, mantissa-fraction f)

pub fraction_step : (f : ℕ) → f < 1023 → fraction f < fraction (suc f)
fraction_step f h = omega (arith, mantissa_step f h, mantissa-fraction f, mantissa-fraction (suc f))

pub fraction-first : fraction 0 ≡ 2 ^ 60
fraction-first = sym (fraction-literal 0) ∙ first_literal

-- ---- the code's product

even_power : (k n m : ℕ) → n ≡ m + m → power_by part (suc k) n ≡ power_by part k m
unfolding power_by
even_power k n m e =
    let b : n % 2 ≡ 0 = omega arith in
    let h : n / 2 ≡ m = omega arith in
    ap (λ i. multiplied i (power_by part k (n / 2)) (part (suc k))) b ∙ ap (power_by part k) h

-- bits that are 0 multiply by nothing
trailing : (k d m : ℕ) → power_by part (k + d) (m * 2 ^ d) ≡ power_by part k m
trailing k zero m =
    let e : k + 0 ≡ k = omega arith in
    let f : m * 2 ^ 0 ≡ m = omega arith in
    ap (λ i. power_by part i (m * 2 ^ 0)) e ∙ ap (power_by part k) f
trailing k (suc d) m =
    let e : k + suc d ≡ suc (k + d) = omega arith in
    ap (λ i. power_by part i (m * 2 ^ suc d)) e ∙ even_power (k + d) (m * 2 ^ suc d) (m * 2 ^ d) (omega (arith, ap (λ t. m * t) (pow-suc 2 d))) ∙ trailing k d m

pub prefix_small : (f k : ℕ) → f < 1024 → k ≤ 10 → power_by part k (f / 2 ^ (10 - k)) < 2 ^ 61
unfolding fraction
prefix_small f k h l =
    let d : ℕ = 10 - k in
    let e : k + d ≡ 10 = omega arith in
    let m : f / 2 ^ d * 2 ^ d ≤ f = div-mul-le_self f (2 ^ d) in
    let t : power_by part 10 (f / 2 ^ d * 2 ^ d) ≡ power_by part k (f / 2 ^ d) = subst (λ i. power_by part i (f / 2 ^ d * 2 ^ d) ≡ power_by part k (f / 2 ^ d)) e (trailing k d (f / 2 ^ d)) in
    let b : power_by part 10 (f / 2 ^ d * 2 ^ d) < 2 ^ 61 = fraction_high (f / 2 ^ d * 2 ^ d) (omega arith) in
    omega arith

pub power_step : (f k q : ℕ) → k < 10 → q ≡ power_by part k (f / 2 ^ (10 - k)) → multiplied (f / 2 ^ (9 - k) % 2) q (part (suc k)) ≡ power_by part (k + 1) (f / 2 ^ (10 - (k + 1)))
unfolding power_by
power_step f k q h e =
    let a : k + 1 ≡ suc k = omega arith in
    let b : 10 - (k + 1) ≡ 9 - k = omega arith in
    let d : 9 - k + 1 ≡ 10 - k = omega arith in
    let s : f / 2 ^ (10 - k) ≡ f / 2 ^ (9 - k) / 2 = sym (shr-shr f (9 - k) 1 ∙ ap (λ i. f / 2 ^ i) d) in
    ap (λ x. multiplied (f / 2 ^ (9 - k) % 2) x (part (suc k))) (e ∙ ap (power_by part k) s) ∙ sym (ap (λ i. power_by part (suc k) (f / 2 ^ i)) b) ∙ sym (ap (λ i. power_by part i (f / 2 ^ (10 - (k + 1)))) a)

pub power_start : (f : ℕ) → 2 ^ 60 ≡ power_by part 0 f
unfolding power_by
power_start f = refl

pub power_end : (f : ℕ) → power_by part 10 (f / 2 ^ (10 - 10)) ≡ fraction f
unfolding fraction
power_end f =
    let e : f / 1 ≡ f = omega arith in
    ap (power_by part 10) e

pub multiplied-some : (b q p : ℕ) → 0 < b → multiplied b q p ≡ q * p / 2 ^ 60
multiplied-some zero q p h = absurd (omega arith)
multiplied-some (suc b) q p h = refl

pub product_small : (q p : ℕ) → q < 2 ^ 61 → p < 2 ^ 61 → (q * p < 2 ^ 122) × (q * p / 2 ^ 60 < 2 ^ 62)
product_small q p h l =
    let m : q * p < 2 ^ 61 * 2 ^ 61 = mul-lt q p (2 ^ 61) (2 ^ 61) h l in
    (omega arith, omega arith)

pub part_entry : (k : ℕ) → k < 10 → part_literal (k + 1) ≡ part (suc k)
part_entry k h =
    let e : k + 1 ≡ suc k = omega arith in
    ap part_literal e ∙ part-is (suc k) (omega arith)

-- ---- powers over all octaves

mul-lt_pow : (a b j : ℕ) → a < b → a * 2 ^ j < b * 2 ^ j
mul-lt_pow a b j h =
    let p : 0 < 2 ^ j = pow_pos j in
    let m : suc a * 2 ^ j ≤ b * 2 ^ j = mul-le (suc a) (2 ^ j) b (2 ^ j) h (omega arith) in
    omega arith

-- the power at place f of octave j
pub power_at : (j f : ℕ) → f < 1024 → power (j * 1024 + f) ≡ fraction f * 2 ^ j / 2 ^ 60
unfolding power
power_at j f h =
    let a : (j * 1024 + f) % 1024 ≡ f = mod-mul-add j 1024 f h in
    let b : (j * 1024 + f) / 1024 ≡ j = div-mul-add j 1024 f h in
    ap (λ i. fraction i * 2 ^ ((j * 1024 + f) / 1024) / 2 ^ 60) a ∙ ap (λ i. fraction f * 2 ^ i / 2 ^ 60) b

pub power_octave : (j : ℕ) → power (j * 1024 + 0) ≡ 2 ^ j
power_octave j =
    power_at j 0 (omega arith) ∙ ap (λ q. q * 2 ^ j / 2 ^ 60) fraction-first ∙ mul-div_cancel_left (2 ^ j) (omega arith)

quotients : (a b k : ℕ) → 0 < k → a ≤ b → a / k ≤ b / k
quotients a b k p h =
    let m : a / k * k ≤ a = div-mul-le_self a k in
    le-div (a / k) b k p (omega arith)

inside : (j f : ℕ) → f < 1023 → power (j * 1024 + f) ≤ power (j * 1024 + suc f)
inside j f h =
    let a : power (j * 1024 + f) ≡ fraction f * 2 ^ j / 2 ^ 60 = power_at j f (omega arith) in
    let b : power (j * 1024 + suc f) ≡ fraction (suc f) * 2 ^ j / 2 ^ 60 = power_at j (suc f) (omega arith) in
    let r : fraction f < fraction (suc f) = fraction_step f h in
    let m : fraction f * 2 ^ j ≤ fraction (suc f) * 2 ^ j = mul-le (fraction f) (2 ^ j) (fraction (suc f)) (2 ^ j) (omega arith) (omega arith) in
    let q : fraction f * 2 ^ j / 2 ^ 60 ≤ fraction (suc f) * 2 ^ j / 2 ^ 60 = quotients (fraction f * 2 ^ j) (fraction (suc f) * 2 ^ j) (2 ^ 60) (omega arith) m in
    omega arith

across : (j : ℕ) → power (j * 1024 + 1023) ≤ power (suc j * 1024 + 0)
across j =
    let a : power (j * 1024 + 1023) ≡ fraction 1023 * 2 ^ j / 2 ^ 60 = power_at j 1023 (omega arith) in
    let b : power (suc j * 1024 + 0) ≡ 2 ^ suc j = power_octave (suc j) in
    let f : fraction 1023 < 2 ^ 61 = fraction_high 1023 (omega arith) in
    let m : fraction 1023 * 2 ^ j < 2 ^ 61 * 2 ^ j = mul-lt_pow (fraction 1023) (2 ^ 61) j f in
    let e : 2 ^ suc j ≡ 2 ^ j * 2 = pow-suc 2 j in
    let d : fraction 1023 * 2 ^ j / 2 ^ 60 < 2 ^ suc j = div_below (fraction 1023 * 2 ^ j) (2 ^ 60) (2 ^ suc j) (omega arith) (omega arith) in
    omega arith

power_next : (e : ℕ) → power e ≤ power (suc e)
power_next e =
    let j : ℕ = e / 1024 in
    let f : ℕ = e % 1024 in
    let d : j * 1024 + f ≡ e = omega arith in
    let l : f < 1024 = omega arith in
    elim (cases_lt f 1023) [
      | inl p ↦
          let n : j * 1024 + suc f ≡ suc e = omega arith in
          subst (λ k. power e ≤ power k) n (subst (λ k. power k ≤ power (j * 1024 + suc f)) d (inside j f p))
      | inr p ↦
          let n : suc j * 1024 + 0 ≡ suc e = omega arith in
          let i : j * 1024 + 1023 ≡ e = omega arith in
          subst (λ k. power e ≤ power k) n (subst (λ k. power k ≤ power (suc j * 1024 + 0)) i (across j))
    ]

pub power-over : (i k : ℕ) → i ≤ k → power i ≤ power k
power-over i k h =
    let e : i + (k - i) ≡ k = omega arith in
    subst (λ n. power i ≤ power n) e (rises_over power power_next i (k - i))

-- ---- powers down from 1

at_least : (o : ℕ) → 31 < o → 31 ≤ o
at_least o h = omega arith

-- from 31 octaves on nothing is left, so that the shift alone says it
ex-shift : (d : ℕ) → mantissa (octaves d * 1024 - d) / 2 ^ octaves d ≡ ex d
unfolding ex
ex-shift d = by_test (nat_lt 31 (octaves d)) refl
  where
    nothing : 31 < octaves d → mantissa (octaves d * 1024 - d) / 2 ^ octaves d ≡ 0
    nothing h =
        let m : mantissa (octaves d * 1024 - d) < 2 ^ 31 = mantissa_high (octaves d * 1024 - d) (omega arith) in
        let p : 2 ^ 31 ≤ 2 ^ octaves d = pow-le-pow_right {n = 2} (omega arith) (at_least (octaves d) h) in
        let b = div_below (mantissa (octaves d * 1024 - d)) (2 ^ octaves d) 1 (pow_pos (octaves d)) (omega arith) in omega arith

    by_test : (t : Bool) → nat_lt 31 (octaves d) ≡ t → mantissa (octaves d * 1024 - d) / 2 ^ octaves d ≡ (if t then 0 else mantissa (octaves d * 1024 - d) / 2 ^ octaves d)
    by_test true e = nothing (ltb-true 31 (octaves d) e)
    by_test false e = refl

-- the octaves as the code rounds them up
pub octaves-is : (d down o : ℕ) → down ≡ d → o ≡ down / 1024 + min 1 (down % 1024) → o ≡ octaves d
octaves-is d down o e h = omega arith

pub ex_at : (d o : ℕ) → o ≡ octaves d → mantissa (o * 1024 - d) / 2 ^ o ≡ ex d
ex_at d o e = ap (λ n. mantissa (n * 1024 - d) / 2 ^ n) e ∙ ex-shift d

pub ex_nothing : (d o : ℕ) → o ≡ octaves d → 31 < o → 0 ≡ ex d
ex_nothing d o e h =
    let m : mantissa (o * 1024 - d) < 2 ^ 31 = mantissa_high (o * 1024 - d) (omega arith) in
    let p : 2 ^ 31 ≤ 2 ^ o = pow-le-pow_right {n = 2} (omega arith) (at_least o h) in
    let b = div_below (mantissa (o * 1024 - d)) (2 ^ o) 1 (pow_pos o) (omega arith) in
    omega (arith, ex_at d o e)

pub ex-start : ex 0 ≡ 2 ^ 30
ex-start = sym (ex-shift 0) ∙ ap (λ n. n / 1) mantissa-first

pub ex-octave : (d : ℕ) → ex (d + 1024) ≡ ex d / 2
ex-octave d =
    let o : octaves d + 1 ≡ octaves (d + 1024) = omega arith in
    let f : (octaves d + 1) * 1024 - (d + 1024) ≡ octaves d * 1024 - d = omega arith in
    sym (ex_at (d + 1024) (octaves d + 1) o)
    ∙ ap (λ n. mantissa n / 2 ^ (octaves d + 1)) f
    ∙ sym (shr-shr (mantissa (octaves d * 1024 - d)) (octaves d) 1)
    ∙ ap (λ n. n / 2) (ex-shift d)

ex_within : (d o f : ℕ) → f < 1023 → mantissa f / 2 ^ o ≤ mantissa (suc f) / 2 ^ o
ex_within d o f h = quotients (mantissa f) (mantissa (suc f)) (2 ^ o) (pow_pos o) (omega (arith, mantissa_step f h))

ex_across : (o : ℕ) → mantissa 1023 / 2 ^ (1 + o) ≤ mantissa 0 / 2 ^ o
ex_across o =
    let a : mantissa 1023 / 2 / 2 ^ o ≡ mantissa 1023 / 2 ^ (1 + o) = shr-shr (mantissa 1023) 1 o in
    let q = quotients (mantissa 1023 / 2) (mantissa 0) (2 ^ o) (pow_pos o) (omega (arith, mantissa-last, mantissa-first)) in
    omega arith

ex_next : (d : ℕ) → ex (suc d) ≤ ex d
ex_next d = elim (cases_lt d (octaves d * 1024)) [
  | inl p ↦
      let o : octaves d ≡ octaves (suc d) = omega arith in
      let f : octaves d * 1024 - d ≡ suc (octaves d * 1024 - suc d) = omega arith in
      let e : mantissa (suc (octaves d * 1024 - suc d)) / 2 ^ octaves d ≡ ex d = ap (λ n. mantissa n / 2 ^ octaves d) (sym f) ∙ ex-shift d in
      omega (arith, e, ex_at (suc d) (octaves d) o, ex_within d (octaves d) (octaves d * 1024 - suc d) (omega arith))
  | inr p ↦
      let o : 1 + octaves d ≡ octaves (suc d) = omega arith in
      let f : (1 + octaves d) * 1024 - suc d ≡ 1023 = omega arith in
      let g : octaves d * 1024 - d ≡ 0 = omega arith in
      let e : mantissa 1023 / 2 ^ (1 + octaves d) ≡ ex (suc d) = ap (λ n. mantissa n / 2 ^ (1 + octaves d)) (sym f) ∙ ex_at (suc d) (1 + octaves d) o in
      let i : mantissa 0 / 2 ^ octaves d ≡ ex d = ap (λ n. mantissa n / 2 ^ octaves d) (sym g) ∙ ex-shift d in
      omega (arith, ex_across (octaves d))
]

ex_over : (d n : ℕ) → ex (d + n) ≤ ex d
ex_over d zero = let e : d + 0 ≡ d = omega arith in omega (arith, ap ex e)
ex_over d (suc n) = let e : suc (d + n) ≡ d + suc n = omega arith in omega (arith, ap ex e, ex_next (d + n), ex_over d n)

pub ex-falls : (d down : ℕ) → d ≤ down → ex down ≤ ex d
ex-falls d down h = let e : d + (down - d) ≡ down = omega arith in subst (λ n. ex n ≤ ex d) e (ex_over d (down - d))

pub ex-most : (d : ℕ) → ex d ≤ 2 ^ 30
ex-most d = omega (arith, ex-start, ex-falls 0 d (omega arith))

-- ---- the logarithm

pub logarithm-is : (v : ℕ) → 1 ≤ v → v < 2 ^ 60 → IsLogarithm v (logarithm v)
unfolding logarithm
logarithm-is v h l =
    let z : power 0 ≡ 1 = power_octave 0 in
    let t = λ (e : ℕ). nat_le (power e) v in
    let s : nat_le (power 0) v ≡ true = le-leb (power 0) v (omega arith) in
    record {
      within = leb-true (power (greatest t 61440)) v (greatest-found t 61440 0 (omega arith) s);
      above = λ k p. beyond k p;
    }
  where
    beyond : (k : ℕ) → greatest (λ e. nat_le (power e) v) 61440 < k → v < power k
    beyond k p =
        elim (cases_lt k 61440) [
          | inl q ↦ leb-false (power k) v (greatest-above (λ e. nat_le (power e) v) 61440 k p q)
          | inr q ↦
              let e : power 61440 ≡ 2 ^ 60 = power_octave 60 in
              omega (arith, power-over 61440 k q)
        ]

above_absurd : (v e d : ℕ) → IsLogarithm v e → IsLogarithm v d → e < d → e ≡ d
above_absurd v e d a b h =
    let p : v < power d = a.above d h in
    let q : power d ≤ v = b.within in
    absurd (omega arith)

pub IsLogarithm-unique : (v e d : ℕ) → IsLogarithm v e → IsLogarithm v d → e ≡ d
IsLogarithm-unique v e d a b =
    elim (cases_order e d) [
      | inl p ↦ p
      | inr o ↦ elim o [ inl p ↦ above_absurd v e d a b p | inr p ↦ sym (above_absurd v d e b a p) ]
    ]

pub logarithm-rises : (v w : ℕ) → 1 ≤ v → v ≤ w → w < 2 ^ 60 → logarithm v ≤ logarithm w
logarithm-rises v w h o l =
    let a : IsLogarithm v (logarithm v) = logarithm-is v h (omega arith) in
    let b : IsLogarithm w (logarithm w) = logarithm-is w (omega arith) l in
    elim (cases_lt (logarithm w) (logarithm v)) [
      | inl p ↦
          let q : w < power (logarithm v) = b.above (logarithm v) p in
          let r : power (logarithm v) ≤ v = a.within in
          absurd (omega arith)
      | inr p ↦ p
    ]

scaled : (a j : ℕ) → j ≤ 60 → a * 2 ^ (60 - j) * 2 ^ j ≡ a * 2 ^ 60
scaled a j h =
    let e : 60 - j + j ≡ 60 = omega arith in
    mul_assoc a (2 ^ (60 - j)) (2 ^ j) ∙ ap (λ t. a * t) (sym (pow-add 2 (60 - j) j)) ∙ ap (λ i. a * 2 ^ i) e

place_within : (v j f : ℕ) → j < 60 → IsPlace ((v + 1) * 2 ^ (60 - j)) f → power (j * 1024 + f) ≤ v
place_within v j f h p =
    let a : power (j * 1024 + f) ≡ fraction f * 2 ^ j / 2 ^ 60 = power_at j f p.place in
    let m : fraction f * 2 ^ j < (v + 1) * 2 ^ (60 - j) * 2 ^ j = mul-lt_pow (fraction f) ((v + 1) * 2 ^ (60 - j)) j p.below in
    let s : (v + 1) * 2 ^ (60 - j) * 2 ^ j ≡ (v + 1) * 2 ^ 60 = scaled (v + 1) j (omega arith) in
    let d : fraction f * 2 ^ j / 2 ^ 60 < v + 1 = div_below (fraction f * 2 ^ j) (2 ^ 60) (v + 1) (omega arith) (omega arith) in
    omega arith

next_above : (v j f : ℕ) → j < 60 → f < 1023 → IsPlace ((v + 1) * 2 ^ (60 - j)) f → v < power (j * 1024 + suc f)
next_above v j f h l p =
    let a : power (j * 1024 + suc f) ≡ fraction (suc f) * 2 ^ j / 2 ^ 60 = power_at j (suc f) (omega arith) in
    let i : f + 1 ≡ suc f = omega arith in
    let n : (v + 1) * 2 ^ (60 - j) ≤ fraction (suc f) = subst (λ k. (v + 1) * 2 ^ (60 - j) ≤ fraction k) i (p.last l) in
    let m : (v + 1) * 2 ^ (60 - j) * 2 ^ j ≤ fraction (suc f) * 2 ^ j = mul-le ((v + 1) * 2 ^ (60 - j)) (2 ^ j) (fraction (suc f)) (2 ^ j) n (omega arith) in
    let s : (v + 1) * 2 ^ (60 - j) * 2 ^ j ≡ (v + 1) * 2 ^ 60 = scaled (v + 1) j (omega arith) in
    let d : v + 1 ≤ fraction (suc f) * 2 ^ j / 2 ^ 60 = le-div (v + 1) (fraction (suc f) * 2 ^ j) (2 ^ 60) (omega arith) (omega arith) in
    omega arith

after_place : (v j f : ℕ) → v < 2 ^ suc j → j < 60 → IsPlace ((v + 1) * 2 ^ (60 - j)) f → v < power (suc (j * 1024 + f))
after_place v j f b h p =
    elim (cases_lt f 1023) [
      | inl l ↦
          let e : j * 1024 + suc f ≡ suc (j * 1024 + f) = omega arith in
          subst (λ k. v < power k) e (next_above v j f h l p)
      | inr l ↦
          let q : f < 1024 = p.place in
          let e : suc j * 1024 + 0 ≡ suc (j * 1024 + f) = omega arith in
          let o : power (suc j * 1024 + 0) ≡ 2 ^ suc j = power_octave (suc j) in
          subst (λ k. v < power k) e (omega arith)
    ]

pub place-is : (v j f : ℕ) → 2 ^ j ≤ v → v < 2 ^ suc j → j < 60 → IsPlace ((v + 1) * 2 ^ (60 - j)) f → IsLogarithm v (j * 1024 + f)
place-is v j f a b h p =
    let n : v < power (suc (j * 1024 + f)) = after_place v j f b h p in
    record {
      within = place_within v j f h p;
      above = λ k q. beyond k n (power-over (suc (j * 1024 + f)) k q);
    }
  where
    beyond : (k : ℕ) → v < power (suc (j * 1024 + f)) → power (suc (j * 1024 + f)) ≤ power k → v < power k
    beyond k n m = omega arith

-- the octave of a number, its limit's size, and what the place makes of it
pub record Octave (v j : ℕ) : Type 0 where
  pub small : j < 60
  pub low : 2 ^ j ≤ v
  pub high : v < 2 ^ suc j
  pub limit_low : 2 ^ 60 < (v + 1) * 2 ^ (60 - j)
  pub limit_high : (v + 1) * 2 ^ (60 - j) < 2 ^ 62

whole : (j : ℕ) → j < 60 → j + (60 - j) ≡ 60
whole j s = omega arith

doubled : (a b c : ℕ) → a * b ≡ c → a * 2 * b ≡ 2 * c
doubled a b c e = omega arith

small_octave : (j : ℕ) → 2 ^ j < 2 ^ 60 → j < 60
small_octave j h =
    elim (cases_lt j 60) [
      | inl p ↦ p
      | inr p ↦ let m : 2 ^ 60 ≤ 2 ^ j = pow-le-pow_right {n = 2} (omega arith) p in absurd (omega arith)
    ]

octave_from : (v j : ℕ) → 2 ^ j ≤ v → v < 2 ^ suc j → v < 2 ^ 60 → Octave v j
octave_from v j a b l =
    let s : j < 60 = small_octave j (omega arith) in
    let d : 2 ^ j * 2 ^ (60 - j) ≡ 2 ^ 60 = sym (pow-add 2 j (60 - j)) ∙ ap (λ i. 2 ^ i) (whole j s) in
    let p : 0 < 2 ^ (60 - j) = pow_pos (60 - j) in
    let m : suc (2 ^ j) * 2 ^ (60 - j) ≤ (v + 1) * 2 ^ (60 - j) = mul-le (suc (2 ^ j)) (2 ^ (60 - j)) (v + 1) (2 ^ (60 - j)) (omega arith) (omega arith) in
    let n : (v + 1) * 2 ^ (60 - j) ≤ 2 ^ suc j * 2 ^ (60 - j) = mul-le (v + 1) (2 ^ (60 - j)) (2 ^ suc j) (2 ^ (60 - j)) (omega arith) (omega arith) in
    let t : 2 ^ suc j * 2 ^ (60 - j) ≡ 2 * 2 ^ 60 = ap (λ x. x * 2 ^ (60 - j)) (pow-suc 2 j) ∙ doubled (2 ^ j) (2 ^ (60 - j)) (2 ^ 60) d in
    record { small = s; low = a; high = b; limit_low = omega arith; limit_high = omega arith }

pub octave-is : (v : ℕ) → 1 ≤ v → v < 2 ^ 60 → Octave v (63 - count_leading_zeros 64 v)
octave-is v h l = of_top (leading_top 64 v h (omega arith))
  where
    of_top : (j : ℕ) × (count_leading_zeros 64 v + suc j ≡ 64) × (2 ^ j ≤ v) × (v < 2 ^ suc j) → Octave v (63 - count_leading_zeros 64 v)
    of_top (j, e, a, b) =
        let i : j ≡ 63 - count_leading_zeros 64 v = omega arith in
        subst (λ k. Octave v k) i (octave_from v j a b l)

-- the code's limit does not wrap
pub limit-is : (v j : ℕ) → Octave v j → (v + 1) * 2 ^ (60 - j) % 2 ^ 64 ≡ (v + 1) * 2 ^ (60 - j)
limit-is v j o =
    let h : (v + 1) * 2 ^ (60 - j) < 2 ^ 64 = omega arith in
    mod-eq_of_lt h

-- the code's sum is the logarithm
pub logarithm_from : (v j f l : ℕ) → Octave v j → 1 ≤ v → v < 2 ^ 60 → l ≡ (v + 1) * 2 ^ (60 - j) → IsPlace l f → j * 1024 + f ≡ logarithm v
logarithm_from v j f l o a b e p =
    IsLogarithm-unique v (j * 1024 + f) (logarithm v) (place-is v j f o.low o.high o.small (subst (λ i. IsPlace i f) e p)) (logarithm-is v a b)
