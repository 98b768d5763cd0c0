-- What the definitions of the distance and of the mask come to.
use Rattle.std.proofs.Common.{◌≡◌, ◌≢◌, ℕ, zero, suc, ◌+◌, ◌-◌, ◌*◌, ◌/◌, ◌%◌, ◌^◌, ◌<◌, ◌≤◌, sym, subst, inl, inr, arith, refl, ap, ◌∙◌, List, length, take, drop, Bool, true, false}
use Rattle.std.specs.Prelude.{ℤ, nat_eq, nat_lt, if◌then◌else◌}
use Rattle.std.proofs.lemmas.Nat.{pow-add, pow_pos, shr_high}
use Rattle.std.proofs.lemmas.Bool.{le-leb, le-ltb, lt-ltb, leb-true, leb-false, ne_eqb, cases_eq, both_ways}
use Rattle.std.proofs.lemmas.Grind.{pow_more}
use Rattle.std.proofs.Math.Nat.{add-mul-div_left, pow-suc}
use Rattle.spread_fold.specs.Masks.{has_pulse, block_bits, mask}
use Rattle.fixed_math.specs.Search.{first_from}
use Rattle.fixed_math.proofs.SearchLemmas.{first_passes, first_least}
use Rattle.spread_fold.specs.Spreading.{is_far, distance}

distance_is : (n blocks : ℕ) → 8 * blocks ≤ n → distance n blocks ≡ first_from (is_far n blocks) 176 1
unfolding distance
distance_is n blocks h = let e : nat_lt n (8 * blocks) ≡ false = le-ltb n (8 * blocks) h in rw e refl

pub distance_short : (n blocks : ℕ) → n < 8 * blocks → distance n blocks ≡ 0
unfolding distance
distance_short n blocks h = let e : nat_lt n (8 * blocks) ≡ true = lt-ltb n (8 * blocks) h in rw e refl

pub distance_enough : (n blocks : ℕ) → n ≤ 176 → 1 ≤ blocks → 8 * blocks ≤ n → n ≤ (distance n blocks * distance n blocks + distance n blocks) * blocks + blocks / 4
distance_enough n blocks h b l =
    let most : n ≤ (176 * 176 + 176) * blocks + blocks / 4 = omega arith in
    let p : is_far n blocks 176 ≡ true = le-leb n ((176 * 176 + 176) * blocks + blocks / 4) most in
    let q : is_far n blocks (first_from (is_far n blocks) 176 1) ≡ true = first_passes (is_far n blocks) 176 1 176 (omega arith) (omega arith) p in
    let r : is_far n blocks (distance n blocks) ≡ true = subst (λ t. is_far n blocks t ≡ true) (sym (distance_is n blocks l)) q in
    leb-true n ((distance n blocks * distance n blocks + distance n blocks) * blocks + blocks / 4) r

pub distance_least : (n blocks u : ℕ) → 8 * blocks ≤ n → 1 ≤ u → u < distance n blocks → (u * u + u) * blocks + blocks / 4 < n
distance_least n blocks u l h g =
    let e : u < first_from (is_far n blocks) 176 1 = omega (arith, distance_is n blocks l) in
    leb-false n ((u * u + u) * blocks + blocks / 4) (first_least (is_far n blocks) 176 1 u h e)

-- bits of the mask
either_below : (b : Bool) (k : ℕ) → (if b then 2 ^ k else 0) ≤ 2 ^ k
either_below true k = omega arith
either_below false k = omega arith

bits_below : (n k : ℕ) (ys : List ℤ) → block_bits n ys k < 2 ^ k
unfolding block_bits
bits_below n zero ys = omega arith
bits_below n (suc k) ys = omega (arith, pow_more 2 k, bits_below n k ys, either_below (has_pulse (take n (drop (k * n) ys))) k)

top_bit : (b : Bool) (m k : ℕ) → m < 2 ^ k → (m + (if b then 2 ^ k else 0)) / 2 ^ k % 2 ≡ (if b then 1 else 0)
top_bit true m k h =
    let e : m + 2 ^ k ≡ 1 * 2 ^ k + m = omega arith in
    rw e (ap (λ q. q % 2) (shr_high 1 k m h))
top_bit false m k h =
    let e : m + 0 ≡ 0 * 2 ^ k + m = omega arith in
    rw e (ap (λ q. q % 2) (shr_high 0 k m h))

low_bit : (b : Bool) (m i j : ℕ) → (m + (if b then 2 ^ (i + suc j) else 0)) / 2 ^ i % 2 ≡ m / 2 ^ i % 2
low_bit true m i j =
    let e : 2 ^ (i + suc j) ≡ 2 ^ i * (2 ^ j * 2) = pow-add 2 i (suc j) ∙ ap (λ q. 2 ^ i * q) (pow-suc 2 j) in
    let d : (m + 2 ^ i * (2 ^ j * 2)) / 2 ^ i ≡ m / 2 ^ i + 2 ^ j * 2 = add-mul-div_left m (2 ^ j * 2) (pow_pos i) in
    rw (e, d) (omega arith)
low_bit false m i j = let e : m + 0 ≡ m = omega arith in rw e refl

bit_of : (n k i : ℕ) (ys : List ℤ) → i < k → block_bits n ys k / 2 ^ i % 2 ≡ (if has_pulse (take n (drop (i * n) ys)) then 1 else 0)
unfolding block_bits
bit_of n zero i ys h = absurd (omega arith)
bit_of n (suc k) i ys h = elim (cases_eq i k) [
  | inl e ↦ rw e (top_bit (has_pulse (take n (drop (k * n) ys))) (block_bits n ys k) k (bits_below n k ys))
  | inr ne ↦
      let less : i < k = below i k h ne in
      let d : i + suc (k - suc i) ≡ k = omega arith in
      subst (λ q. (block_bits n ys k + (if has_pulse (take n (drop (k * n) ys)) then 2 ^ q else 0)) / 2 ^ i % 2 ≡ (if has_pulse (take n (drop (i * n) ys)) then 1 else 0)) d
      (low_bit (has_pulse (take n (drop (k * n) ys))) (block_bits n ys k) i (k - suc i) ∙ bit_of n k i ys less)
]
  where
    below : (i k : ℕ) → i < suc k → (i ≡ k → ⊥) → i < k
    below i k h n = omega arith

pub mask_bit : (blocks i : ℕ) (ys : List ℤ) → 2 ≤ blocks → i < blocks → mask blocks ys / 2 ^ i % 2 ≡ (if has_pulse (take (length ys / blocks) (drop (i * (length ys / blocks)) ys)) then 1 else 0)
unfolding mask
mask_bit blocks i ys h l =
    let ne : blocks ≢ 1 = omega arith in
    let e : nat_eq blocks 1 ≡ false = ne_eqb blocks 1 ne in
    rw e (bit_of (length ys / blocks) blocks i ys l)
