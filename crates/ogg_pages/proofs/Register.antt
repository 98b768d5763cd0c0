-- The register of the checksum: it is linear, so that a byte needs one entry of the table.
use Rattle.std.proofs.Common.{◌≡◌, ℕ, zero, suc, ◌+◌, ◌-◌, ◌*◌, ◌/◌, ◌%◌, ◌^◌, ◌<◌, ◌≤◌, List, [], ◌∷◌, ◌++◌, length, take, drop, replicate, get_or, Bool, true, false, bit_xor, refl, sym, ◌∙◌, ap, zero-add, arith, inl, inr, ◌⊎◌}
use Rattle.std.specs.Prelude.{◌==◌, ◌&&◌}
use Rattle.std.proofs.lemmas.Nat.{xor_comm, xor_lt, xor_shr, xor_block, shr_split, mul-le}
use Rattle.std.proofs.Math.Nat.{pow-succ'}
use Rattle.std.proofs.lemmas.Bool.{cases_lt, eqb-true}
use Rattle.std.proofs.lemmas.List.Sums.{fold-append}
use Rattle.std.proofs.Math.Pow.{pow_pos}
use Rattle.std.specs.Int.Bits.{xor_assoc, xor_zero_l, xor_zero_r, xor_self, xor_shifted}
use Rattle.ogg_pages.specs.Checksum.{generator, times_x, times_power, after_byte, remainder_from, checksum}
use Rattle.ogg_pages.specs.declared.checksum.TheConstants.{REMAINDERS}

-- the sum of two sums
pub xor_medial : (a b c d : ℕ) → bit_xor (bit_xor a b) (bit_xor c d) ≡ bit_xor (bit_xor a c) (bit_xor b d)
xor_medial a b c d =
    xor_assoc a b (bit_xor c d)
    ∙ ap (bit_xor a) (sym (xor_assoc b c d) ∙ ap (λ t. bit_xor t d) (xor_comm b c) ∙ xor_assoc c b d)
    ∙ sym (xor_assoc a c (bit_xor b d))

-- twice a sum
pub xor_double : (a b : ℕ) → 2 * bit_xor a b ≡ bit_xor (2 * a) (2 * b)
xor_double a b =
    let e : bit_xor (a * 2 ^ 1 + 0) (b * 2 ^ 1 + 0) ≡ bit_xor a b * 2 ^ 1 + bit_xor 0 0 = xor_block 1 a b 0 0 (omega arith) (omega arith) in
    let x : a * 2 ^ 1 + 0 ≡ 2 * a = omega arith in
    let y : b * 2 ^ 1 + 0 ≡ 2 * b = omega arith in
    let z : 2 * bit_xor a b ≡ bit_xor a b * 2 ^ 1 + 0 = omega arith in
    z ∙ sym e ∙ ap (λ t. bit_xor t (b * 2 ^ 1 + 0)) x ∙ ap (bit_xor (2 * a)) y

-- bits times a number
bit_multiple : (p q n : ℕ) → p < 2 → q < 2 → bit_xor p q * n ≡ bit_xor (p * n) (q * n)
bit_multiple zero zero n hp hq = let z : 0 * n ≡ 0 = omega arith in rw z refl
bit_multiple zero (suc zero) n hp hq = let z : 0 * n ≡ 0 = omega arith in rw z (sym (xor_zero_l (1 * n)))
bit_multiple (suc zero) zero n hp hq = let z : 0 * n ≡ 0 = omega arith in rw z (sym (xor_zero_r (1 * n)))
bit_multiple (suc zero) (suc zero) n hp hq = let z : 0 * n ≡ 0 = omega arith in rw z (sym (xor_self (1 * n)))
bit_multiple (suc (suc p)) q n hp hq = absurd (omega arith)
bit_multiple p (suc (suc q)) n hp hq = absurd (omega arith)

top_bit : (a : ℕ) → a < 2 ^ 32 → a / 2 ^ 31 < 2
top_bit a h = omega arith

pub times_x-xor : (a b : ℕ) → a < 2 ^ 32 → b < 2 ^ 32 → times_x (bit_xor a b) ≡ bit_xor (times_x a) (times_x b)
unfolding times_x
times_x-xor a b ha hb =
    ap (λ t. bit_xor t (bit_xor a b / 2 ^ 31 * generator)) (xor_double a b)
    ∙ ap (bit_xor (bit_xor (2 * a) (2 * b))) (ap (λ t. t * generator) (xor_shr a b 31) ∙ bit_multiple (a / 2 ^ 31) (b / 2 ^ 31) generator (top_bit a ha) (top_bit b hb))
    ∙ xor_medial (2 * a) (2 * b) (a / 2 ^ 31 * generator) (b / 2 ^ 31 * generator)

-- below the top bit it is doubling
times_x-small : (a : ℕ) → a < 2 ^ 31 → times_x a ≡ 2 * a
unfolding times_x
times_x-small a h =
    let q : a / 2 ^ 31 ≡ 0 = omega arith in
    let z : 0 * generator ≡ 0 = refl in
    rw (q, z, xor_zero_r) refl

times_x-large : (a : ℕ) → a < 2 ^ 32 → 2 ^ 31 ≤ a → times_x a ≡ bit_xor (2 * (a - 2 ^ 31)) 0x04c1_1db7
unfolding times_x
times_x-large a h top =
    let q : a / 2 ^ 31 ≡ 1 = omega arith in
    let low : 2 * a ≡ 1 * 2 ^ 32 + 2 * (a - 2 ^ 31) = omega arith in
    ap (λ t. bit_xor (2 * a) (t * generator)) q
    ∙ ap (λ t. bit_xor t (1 * 2 ^ 32 + 0x04c1_1db7)) low
    ∙ xor_block 32 1 1 (2 * (a - 2 ^ 31)) 0x04c1_1db7 (omega arith) (omega arith)
    ∙ zero-add (bit_xor (2 * (a - 2 ^ 31)) 0x04c1_1db7)

-- the register stays below 2 ^ 32
pub times_x-lt : (a : ℕ) → a < 2 ^ 32 → times_x a < 2 ^ 32
times_x-lt a h = by_size (cases_lt a (2 ^ 31)) where
  by_size : (a < 2 ^ 31) ⊎ (2 ^ 31 ≤ a) → times_x a < 2 ^ 32
  by_size (inl small) = rw (times_x-small a small) (omega arith)
  by_size (inr large) = rw (times_x-large a h large) (xor_lt 32 (2 * (a - 2 ^ 31)) 0x04c1_1db7 (omega arith) (omega arith))

pub times_power-lt : (k a : ℕ) → a < 2 ^ 32 → times_power k a < 2 ^ 32
unfolding times_power
times_power-lt zero a h = h
times_power-lt (suc k) a h = times_power-lt k (times_x a) (times_x-lt a h)

pub times_power-xor : (k a b : ℕ) → a < 2 ^ 32 → b < 2 ^ 32 → times_power k (bit_xor a b) ≡ bit_xor (times_power k a) (times_power k b)
unfolding times_power
times_power-xor zero a b ha hb = refl
times_power-xor (suc k) a b ha hb =
    ap (times_power k) (times_x-xor a b ha hb) ∙ times_power-xor k (times_x a) (times_x b) (times_x-lt a ha) (times_x-lt b hb)

-- what stays below 2 ^ 32 is only moved up
times_power-small : (k a : ℕ) → a * 2 ^ k < 2 ^ 32 → times_power k a ≡ a * 2 ^ k
unfolding times_power
times_power-small zero a h = omega arith
times_power-small (suc k) a h =
    let e : a * 2 ^ suc k ≡ (2 * a) * 2 ^ k = ap (λ t. a * t) (pow-succ' 2 k) ∙ regrouped a (2 ^ k) in
    let moved : (2 * a) * 2 ^ k < 2 ^ 32 = rw (← e) h in
    let one : 1 * (2 * a) ≤ 2 ^ k * (2 * a) = mul-le 1 (2 * a) (2 ^ k) (2 * a) (pow_pos k) (omega arith) in
    let small : a < 2 ^ 31 = below_half a (2 ^ k) one moved in
    ap (times_power k) (times_x-small a small) ∙ times_power-small k (2 * a) moved ∙ sym e
  where
    regrouped : (x p : ℕ) → x * (2 * p) ≡ (2 * x) * p
    regrouped x p = omega arith

    below_half : (x p : ℕ) → 1 * (2 * x) ≤ p * (2 * x) → (2 * x) * p < 2 ^ 32 → x < 2 ^ 31
    below_half x p h1 h2 = omega arith

-- the upper byte and the lower three go apart
pub after_byte-apart : (r b : ℕ) → r < 2 ^ 32 → b < 2 ^ 8 → after_byte r b ≡ bit_xor (times_power 8 (bit_xor (r / 2 ^ 24) b * 2 ^ 24)) (r % 2 ^ 24 * 256)
unfolding after_byte
after_byte-apart r b hr hb =
    let hi = r / 2 ^ 24 in
    let lo = r % 2 ^ 24 in
    let top = bit_xor hi b in
    let lo_small : lo < 2 ^ 24 = omega arith in
    let top_small : top < 2 ^ 8 = xor_lt 8 hi b (omega arith) hb in
    let split : r ≡ hi * 2 ^ 24 + lo = sym (shr_split r 24) in
    let b_is : b * 2 ^ 24 ≡ b * 2 ^ 24 + 0 = omega arith in
    let joined : bit_xor (hi * 2 ^ 24 + lo) (b * 2 ^ 24 + 0) ≡ top * 2 ^ 24 + bit_xor lo 0 = xor_block 24 hi b lo 0 lo_small (omega arith) in
    let apart : bit_xor (top * 2 ^ 24) lo ≡ top * 2 ^ 24 + lo = xor_shifted top 24 lo lo_small in
    let sum : bit_xor r (b * 2 ^ 24) ≡ bit_xor (top * 2 ^ 24) lo =
    ap (λ t. bit_xor t (b * 2 ^ 24)) split ∙ ap (bit_xor (hi * 2 ^ 24 + lo)) b_is ∙ joined ∙ ap (λ t. top * 2 ^ 24 + t) (xor_zero_r lo) ∙ sym apart in
    ap (times_power 8) sum
    ∙ times_power-xor 8 (top * 2 ^ 24) lo (omega arith) (omega arith)
    ∙ ap (bit_xor (times_power 8 (top * 2 ^ 24))) (times_power-small 8 lo (omega arith))

both_true : (a b : Bool) → (a && b) ≡ true → (a ≡ true) × (b ≡ true)
both_true true b h = (refl, h)
both_true false b h = cc

-- each entry of a list is the remainder of its place
holds_from : ℕ → List ℕ → Bool
holds_from i [] = true
holds_from i (x ∷ xs) = (x == times_power 8 (i * 2 ^ 24)) && holds_from (suc i) xs

holds_at : (xs : List ℕ) (i k : ℕ) → holds_from i xs ≡ true → k < length xs → get_or xs k 0 ≡ times_power 8 ((i + k) * 2 ^ 24)
unfolding holds_from
holds_at [] i k h inside = absurd (omega arith)
holds_at (x ∷ xs) i zero h inside =
    eqb-true x (times_power 8 (i * 2 ^ 24)) (both_true (x == times_power 8 (i * 2 ^ 24)) (holds_from (suc i) xs) h).0
    ∙ ap (λ t. times_power 8 (t * 2 ^ 24)) (let e : i ≡ i + 0 = omega arith in e)
holds_at (x ∷ xs) i (suc k) h inside =
    holds_at xs (suc i) k (both_true (x == times_power 8 (i * 2 ^ 24)) (holds_from (suc i) xs) h).1 (let l : k < length xs = omega arith in l)
    ∙ ap (λ t. times_power 8 (t * 2 ^ 24)) (let e : suc i + k ≡ i + suc k = omega arith in e)

table_holds : holds_from 0 REMAINDERS ≡ true
unfolding holds_from times_power times_x
table_holds = refl

pub remainder_at : (byte : ℕ) → byte < 256 → get_or REMAINDERS byte 0 ≡ times_power 8 (byte * 2 ^ 24)
remainder_at byte h = holds_at REMAINDERS 0 byte table_holds h ∙ ap (λ t. times_power 8 (t * 2 ^ 24)) (let e : 0 + byte ≡ byte = omega arith in e)

-- the checksum over the three parts of a page
pub checksum-parts : (page : List ℕ) (a b d : ℕ) → a ≡ remainder_from 0 (take 22 page) → b ≡ remainder_from a (replicate 4 0) → d ≡ remainder_from b (drop 26 page)
    → d ≡ checksum page
unfolding checksum
checksum-parts page a b d p q r =
    r ∙ ap (λ t. remainder_from t (drop 26 page)) (q ∙ ap (λ t. remainder_from t (replicate 4 0)) p ∙ sym (fold-append after_byte 0 (take 22 page) (replicate 4 0)))
    ∙ sym (fold-append after_byte 0 (take 22 page ++ replicate 4 0) (drop 26 page))
