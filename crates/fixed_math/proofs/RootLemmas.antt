-- Whole square roots: Newton's steps, the root by digits, and one root only. Bit lengths by powers of two.
use Rattle.std.proofs.Common.{◌≡◌, ℕ, zero, suc, ◌+◌, ◌-◌, ◌*◌, ◌/◌, ◌^◌, ◌<◌, ◌≤◌, refl, sym, ap, subst, inl, inr, arith}
use Rattle.std.specs.Prelude.{nat_le}
use Rattle.std.proofs.lemmas.Nat.{mul-le, div_below, pow_pos, pow-add, leading_length}
use Rattle.std.proofs.lemmas.Bool.{cases_lt, cases_order, cond_both, leb-true, leb-false, le-leb, lt-leb}
use Rattle.std.proofs.Math.Nat.{mul_comm, lt-mul-div-succ, mul-div-le, pow-suc, pow-le-pow_right}
use Rattle.std.specs.Int.Count.{count_leading_zeros, leading_unique}
use Rattle.fixed_math.specs.Root.{IsRoot, root_by, root, last_digit, IsBitLength, powers_within, bit_length_of}

-- a product is at most the square of half the sum
below_mean_ordered : (a d c : ℕ) → a + (a + d) ≤ c + c → a * (a + d) ≤ c * c
below_mean_ordered a d c h =
    let p : (a + (a + d)) * (a + (a + d)) ≤ (c + c) * (c + c) = mul-le (a + (a + d)) (a + (a + d)) (c + c) (c + c) h h in
    omega arith

below_mean_le : (a b c : ℕ) → a ≤ b → a + b ≤ c + c → a * b ≤ c * c
below_mean_le a b c p h =
    let e : a + (b - a) ≡ b = omega arith in
    subst (λ x. a * x ≤ c * c) e (below_mean_ordered a (b - a) c (omega arith))

pub below_mean : (a b c : ℕ) → a + b ≤ c + c → a * b ≤ c * c
below_mean a b c h =
    elim (cases_lt a b) [
      | inl p ↦ below_mean_le a b c (omega arith) h
      | inr p ↦ omega (arith, below_mean_le b a c p (omega arith), mul_comm a b)
    ]

-- a step from any number is not below the root
pub newton_above : (v x y : ℕ) → 0 < x → y ≡ (x + v / x) / 2 → v < (y + 1) * (y + 1)
newton_above v x y p e =
    let q : v < x * (v / x + 1) = lt-mul-div-succ v p in
    let s : x + (v / x + 1) ≤ (y + 1) + (y + 1) = omega arith in
    let m : x * (v / x + 1) ≤ (y + 1) * (y + 1) = below_mean x (v / x + 1) (y + 1) s in
    omega arith

-- where a step falls no further, the number is the root
pub newton_done : (v x y : ℕ) → 0 < x → v < (x + 1) * (x + 1) → y ≡ (x + v / x) / 2 → x ≤ y → IsRoot v x
newton_done v x y p above e done =
    let q : x ≤ v / x = omega arith in
    let m : x * x ≤ x * (v / x) = mul-le x x x (v / x) (omega arith) q in
    let d : x * (v / x) ≤ v = mul-div-le v x in
    record { low = omega arith; high = above }

-- the quotient of a step is hardly above the number
pub newton_quotient : (v x : ℕ) → 0 < x → v < (x + 1) * (x + 1) → v / x ≤ x + 3
newton_quotient v x p h =
    let b : v < (x + 4) * x = omega arith in
    let d : v / x < x + 4 = div_below v x (x + 4) p b in
    omega arith

pub root_positive : (v y : ℕ) → 0 < v → v < (y + 1) * (y + 1) → 0 < y
root_positive v zero p h = omega arith
root_positive v (suc y) p h = omega arith

-- the start is not below the root
pub start_above : (k v x : ℕ) → v < 2 ^ k → x ≡ 2 ^ ((k + 1 - count_leading_zeros k v) / 2) → v < (x + 1) * (x + 1)
start_above k v x h e = after (leading_length k v h)
  where
    after : (m : ℕ) × (count_leading_zeros k v + m ≡ k) × (v < 2 ^ m) × (2 ^ m ≤ 2 * v + 1) → v < (x + 1) * (x + 1)
    after (m, total, below, low) =
        let s : ℕ = (k + 1 - count_leading_zeros k v) / 2 in
        let long : m ≤ s + s = omega arith in
        let p : 2 ^ m ≤ 2 ^ (s + s) = pow-le-pow_right {n = 2} (omega arith) long in
        let q : 2 ^ (s + s) ≡ 2 ^ s * 2 ^ s = pow-add 2 s s in
        let sq : x * x ≡ 2 ^ s * 2 ^ s = ap (λ y. y * y) e in
        omega arith

pub start_small : (k h x : ℕ) → (c : ℕ) → k + k ≡ h → x ≡ 2 ^ ((h + 1 - c) / 2) → x ≤ 2 ^ k
start_small k h x c t e =
    let p : 2 ^ ((h + 1 - c) / 2) ≤ 2 ^ k = pow-le-pow_right {n = 2} (omega arith) (omega arith) in
    omega arith

-- a root of k bits
pub root_small : (v x b : ℕ) → v < b * b → x * x ≤ v → x < b
root_small v x b h low =
    elim (cases_lt x b) [
      | inl p ↦ p
      | inr p ↦ let m : b * b ≤ x * x = mul-le b b x x p p in omega arith
    ]

-- a number whose square is within v is within its root
pub root_least : (v r a : ℕ) → IsRoot v r → a * a ≤ v → a ≤ r
root_least v r a i h =
    elim (cases_lt r a) [
      | inl p ↦
          let m : (r + 1) * (r + 1) ≤ a * a = mul-le (r + 1) (r + 1) a a (omega arith) (omega arith) in
          let b : v < (r + 1) * (r + 1) = i.high in
          absurd (omega arith)
      | inr p ↦ p
    ]

pub root_no_greater : (v r s : ℕ) → IsRoot v r → IsRoot v s → r < s → r ≡ s
root_no_greater v r s a b h =
    let m : (r + 1) * (r + 1) ≤ s * s = mul-le (r + 1) (r + 1) s s (omega arith) (omega arith) in
    let low : s * s ≤ v = b.low in
    let high : v < (r + 1) * (r + 1) = a.high in
    omega arith

-- there is one root only
pub IsRoot-unique : (v r s : ℕ) → IsRoot v r → IsRoot v s → r ≡ s
IsRoot-unique v r s a b =
    elim (cases_order r s) [
      | inl e ↦ e
      | inr o ↦ elim o [ inl p ↦ root_no_greater v r s a b p | inr p ↦ sym (root_no_greater v s r b a p) ]
    ]

last_digit_is : (v r : ℕ) → IsRoot (v / 4) r → IsRoot v (last_digit v (2 * r))
last_digit_is v r h =
    let low : r * r ≤ v / 4 = h.low in
    let high : v / 4 < (r + 1) * (r + 1) = h.high in
    cond_both (nat_le ((2 * r + 1) * (2 * r + 1)) v) (2 * r + 1) (2 * r) (λ x. IsRoot v x)
    (λ e. record { low = leb-true ((2 * r + 1) * (2 * r + 1)) v e; high = omega arith })
    (λ e. record { low = omega arith; high = leb-false ((2 * r + 1) * (2 * r + 1)) v e })

-- the root by digits is the root
pub root_by-is : (n v : ℕ) → v < 4 ^ n → IsRoot v (root_by n v)
unfolding root_by
root_by-is zero v h = record { low = omega arith; high = omega arith }
root_by-is (suc n) v h =
    let p : v < 4 ^ n * 4 = omega (arith, pow-suc 4 n) in
    last_digit_is v (root_by n (v / 4)) (root_by-is n (v / 4) (div_below v 4 (4 ^ n) (omega arith) p))

pub root-is : (v : ℕ) → v < 2 ^ 128 → IsRoot v (root v)
unfolding root
root-is v h = root_by-is 64 v h

-- a number from which the root can be read
pub root_from : (v r : ℕ) → v < 2 ^ 128 → IsRoot v r → r ≡ root v
root_from v r h i = IsRoot-unique v r (root v) i (root-is v h)

-- ---- bit lengths

all_within : (n v : ℕ) → 2 ^ n ≤ v → powers_within (suc n) v ≡ suc n
unfolding powers_within
all_within zero v h = rw (le-leb 1 v h) refl
all_within (suc n) v h =
    let p : 2 ^ n ≤ v = omega (arith, pow-suc 2 n) in
    rw (le-leb (2 ^ suc n) v h, all_within n v p) (omega arith)

longest : (n v : ℕ) → 2 ^ n ≤ v → v < 2 ^ suc n → IsBitLength v (suc n)
longest n v p h =
    let e : n ≡ suc n - 1 = omega arith in
    record {
      high = h;
      low = λ q. subst (λ k. 2 ^ k ≤ v) e p;
      none = λ z. absurd (omega (arith, pow_pos n));
    }

not_within : (n v : ℕ) → v < 2 ^ n → powers_within (suc n) v ≡ powers_within n v
unfolding powers_within
not_within n v h = rw (lt-leb (2 ^ n) v h) (omega arith)

-- the powers of two within a number are as many as it has bits
pub powers_within-is : (n v : ℕ) → v < 2 ^ n → IsBitLength v (powers_within n v)
unfolding powers_within
powers_within-is zero v h = record { high = h; low = λ p. absurd (omega arith); none = λ e. refl }
powers_within-is (suc n) v h =
    elim (cases_lt v (2 ^ n)) [
      | inl p ↦ subst (λ k. IsBitLength v k) (sym (not_within n v p)) (powers_within-is n v p)
      | inr p ↦ subst (λ k. IsBitLength v k) (sym (all_within n v p)) (longest n v p h)
    ]

pub powers_within-le : (n v : ℕ) → powers_within n v ≤ n
unfolding powers_within
powers_within-le zero v = omega arith
powers_within-le (suc n) v =
    let p : powers_within n v ≤ n = powers_within-le n v in
    cond_both (nat_le (2 ^ n) v) 1 0 (λ x. powers_within n v + x ≤ suc n) (λ e. omega arith) (λ e. omega arith)

pub bit_length-is : (v : ℕ) → v < 2 ^ 32 → IsBitLength v (bit_length_of v)
unfolding bit_length_of
bit_length-is v h = powers_within-is 32 v h

bits_above : (v n : ℕ) → IsBitLength v n → 2 ^ n ≤ 2 * v + 1
bits_above v zero b = omega arith
bits_above zero (suc n) b = absurd (omega (arith, b.none refl))
bits_above (suc v) (suc n) b =
    let e : suc n - 1 ≡ n = omega arith in
    let p : 2 ^ n ≤ suc v = subst (λ k. 2 ^ k ≤ suc v) e (b.low (omega arith)) in
    omega (arith, pow-suc 2 n)

-- what is left of 32 behind the leading zeros
pub bit_length-leading : (v : ℕ) → v < 2 ^ 32 → 32 - count_leading_zeros 32 v ≡ bit_length_of v
unfolding bit_length_of
bit_length-leading v h =
    let n : ℕ = powers_within 32 v in
    let b : IsBitLength v n = powers_within-is 32 v h in
    let m : n ≤ 32 = powers_within-le 32 v in
    let e : 32 - n ≡ count_leading_zeros 32 v = leading_unique 32 v (32 - n) n (omega arith) b.high (bits_above v n b) in
    omega arith
