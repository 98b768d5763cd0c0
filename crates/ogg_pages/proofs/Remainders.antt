-- The register is the remainder: polynomials that differ by a multiple of the generator, and what the steps of the register keep.
use Rattle.std.proofs.Common.{◌≡◌, ℕ, zero, suc, ◌+◌, ◌*◌, ◌/◌, ◌^◌, ◌<◌, ◌≤◌, List, [], ◌∷◌, Bool, true, false, not, fold, bit_xor, refl, sym, ◌∙◌, ap, subst, arith, inl, inr, ◌⊎◌}
use Rattle.std.specs.Prelude.{if◌then◌else◌}
use Rattle.std.proofs.lemmas.Nat.{xor_comm, xor_lt, xor_shr, xor_block}
use Rattle.std.proofs.Math.Nat.{pow-succ'}
use Rattle.std.proofs.Math.Pow.{pow_pos}
use Rattle.std.specs.Int.Bits.{xor_assoc, xor_zero_l, xor_zero_r, xor_self, xor_shifted}
use Rattle.ogg_pages.specs.Checksum.{generator, times_x, times_power, after_byte, remainder_from, blanked, checksum}
use Rattle.ogg_pages.specs.Remainder.{product, IsMultiple, polynomial, IsRemainder}
use Rattle.ogg_pages.specs.Spelling.{AreBytes}
use Rattle.ogg_pages.proofs.Register.{xor_medial, xor_double, times_x-lt, times_power-lt}
use Rattle.ogg_pages.proofs.ByteLists.{bytes-blanked}

-- ---- exclusive or

xor_shl : (a b k : ℕ) → bit_xor a b * 2 ^ k ≡ bit_xor (a * 2 ^ k) (b * 2 ^ k)
xor_shl a b k =
    let e : bit_xor (a * 2 ^ k + 0) (b * 2 ^ k + 0) ≡ bit_xor a b * 2 ^ k + bit_xor 0 0 = xor_block k a b 0 0 (pow_pos k) (pow_pos k) in
    let x : a * 2 ^ k + 0 ≡ a * 2 ^ k = omega arith in
    let y : b * 2 ^ k + 0 ≡ b * 2 ^ k = omega arith in
    let z : bit_xor a b * 2 ^ k ≡ bit_xor a b * 2 ^ k + 0 = omega arith in
    z ∙ sym e ∙ ap (λ t. bit_xor t (b * 2 ^ k + 0)) x ∙ ap (bit_xor (a * 2 ^ k)) y

-- what stands in both parts goes
xor_middle : (a b c : ℕ) → bit_xor (bit_xor a b) (bit_xor b c) ≡ bit_xor a c
xor_middle a b c = xor_assoc a b (bit_xor b c) ∙ ap (bit_xor a) (sym (xor_assoc b b c) ∙ ap (λ t. bit_xor t c) (xor_self b) ∙ xor_zero_l c)

xor_last : (a b c : ℕ) → bit_xor (bit_xor a c) (bit_xor b c) ≡ bit_xor a b
xor_last a b c = ap (bit_xor (bit_xor a c)) (xor_comm b c) ∙ xor_middle a c b

-- ---- multiples of the generator

either : Bool → Bool → Bool
either c d = if c then not d else d

sum_of : List Bool → List Bool → List Bool
sum_of [] ds = ds
sum_of (c ∷ cs) [] = c ∷ cs
sum_of (c ∷ cs) (d ∷ ds) = either c d ∷ sum_of cs ds

times_either : (c d : Bool) (p : ℕ) → if either c d then p else 0 ≡ bit_xor (if c then p else 0) (if d then p else 0)
unfolding either
times_either true true p = sym (xor_self p)
times_either true false p = sym (xor_zero_r p)
times_either false true p = sym (xor_zero_l p)
times_either false false p = refl

product-sum : (cs ds : List Bool) (p : ℕ) → product (sum_of cs ds) p ≡ bit_xor (product cs p) (product ds p)
unfolding product sum_of
product-sum [] ds p = sym (xor_zero_l (product ds p))
product-sum (c ∷ cs) [] p = sym (xor_zero_r (product (c ∷ cs) p))
product-sum (c ∷ cs) (d ∷ ds) p =
    ap (λ t. bit_xor t (2 * product (sum_of cs ds) p)) (times_either c d p)
    ∙ ap (λ t. bit_xor (bit_xor (if c then p else 0) (if d then p else 0)) (2 * t)) (product-sum cs ds p)
    ∙ ap (bit_xor (bit_xor (if c then p else 0) (if d then p else 0))) (xor_double (product cs p) (product ds p))
    ∙ xor_medial (if c then p else 0) (if d then p else 0) (2 * product cs p) (2 * product ds p)

multiple_sum : (a b : ℕ) → IsMultiple a → IsMultiple b → IsMultiple (bit_xor a b)
multiple_sum a b m n = record {
  factor = sum_of m.factor n.factor;
  equal = ap (λ t. bit_xor t b) m.equal ∙ ap (bit_xor (product m.factor generator)) n.equal ∙ sym (product-sum m.factor n.factor generator);
}

multiple_nil : IsMultiple 0
unfolding product
multiple_nil = record { factor = []; equal = refl }

multiple_one : IsMultiple generator
unfolding product
multiple_one = record { factor = true ∷ []; equal = refl }

multiple_double : (a : ℕ) → IsMultiple a → IsMultiple (2 * a)
unfolding product
multiple_double a m = record { factor = false ∷ m.factor; equal = ap (λ t. 2 * t) m.equal ∙ sym (xor_zero_l (2 * product m.factor generator)) }

multiple_shl : (k a : ℕ) → IsMultiple a → IsMultiple (a * 2 ^ k)
multiple_shl zero a m = let e : a ≡ a * 2 ^ 0 = omega arith in subst IsMultiple e m
multiple_shl (suc k) a m =
    let e : 2 * (a * 2 ^ k) ≡ a * 2 ^ suc k = regrouped a (2 ^ k) ∙ ap (λ t. a * t) (sym (pow-succ' 2 k)) in
    subst IsMultiple e (multiple_double (a * 2 ^ k) (multiple_shl k a m))
  where
    regrouped : (x p : ℕ) → 2 * (x * p) ≡ x * (2 * p)
    regrouped x p = omega arith

multiple_bit : (q : ℕ) → q < 2 → IsMultiple (q * generator)
multiple_bit zero h = let e : 0 ≡ 0 * generator = refl in subst IsMultiple e multiple_nil
multiple_bit (suc zero) h = let e : generator ≡ 1 * generator = refl in subst IsMultiple e multiple_one
multiple_bit (suc (suc q)) h = absurd (omega arith)

-- a multiple that is not 0 has a degree of 32 at least
multiple_large : (cs : List Bool) → (product cs generator ≡ 0) ⊎ (2 ^ 32 ≤ product cs generator)
unfolding product
multiple_large [] = inl refl
multiple_large (c ∷ cs) = by_bit c (multiple_large cs) where
  top : (m : ℕ) → 2 ^ 32 ≤ m → 2 ^ 32 ≤ bit_xor generator (2 * m)
  top m h =
      let e : bit_xor generator (2 * m) / 2 ^ 33 ≡ bit_xor 0 (2 * m / 2 ^ 33) = xor_shr generator (2 * m) 33 in
      let z = xor_zero_l (2 * m / 2 ^ 33) in
      omega arith

  by_bit : (c : Bool) → (product cs generator ≡ 0) ⊎ (2 ^ 32 ≤ product cs generator)
      → (product (c ∷ cs) generator ≡ 0) ⊎ (2 ^ 32 ≤ product (c ∷ cs) generator)
  by_bit true (inl e) = inr (rw e (omega arith))
  by_bit true (inr h) = inr (top (product cs generator) h)
  by_bit false (inl e) = inl (rw e refl)
  by_bit false (inr h) = inr (rw xor_zero_l (omega arith))

multiple_small : (a : ℕ) → IsMultiple a → a < 2 ^ 32 → a ≡ 0
multiple_small a m h = by_size (multiple_large m.factor) where
  by_size : (product m.factor generator ≡ 0) ⊎ (2 ^ 32 ≤ product m.factor generator) → a ≡ 0
  by_size (inl e) = m.equal ∙ e
  by_size (inr l) = let e = m.equal in absurd (omega arith)

-- ---- equal but for a multiple of the generator

abbrev Congruent : ℕ → ℕ → Type 0
Congruent a b = IsMultiple (bit_xor a b)

congruent_self : (a b : ℕ) → a ≡ b → Congruent a b
congruent_self a b e = subst IsMultiple (sym (xor_self a) ∙ ap (bit_xor a) e) multiple_nil

congruent_trans : (a b c : ℕ) → Congruent a b → Congruent b c → Congruent a c
congruent_trans a b c m n = subst IsMultiple (xor_middle a b c) (multiple_sum (bit_xor a b) (bit_xor b c) m n)

congruent_shl : (k a b : ℕ) → Congruent a b → Congruent (a * 2 ^ k) (b * 2 ^ k)
congruent_shl k a b m = subst IsMultiple (xor_shl a b k) (multiple_shl k (bit_xor a b) m)

congruent_times_x : (r : ℕ) → r < 2 ^ 32 → Congruent (times_x r) (2 * r)
unfolding times_x
congruent_times_x r h =
    let q = r / 2 ^ 31 * generator in
    let e : bit_xor (bit_xor (2 * r) q) (2 * r) ≡ q =
    ap (λ t. bit_xor t (2 * r)) (xor_comm (2 * r) q) ∙ xor_assoc q (2 * r) (2 * r) ∙ ap (bit_xor q) (xor_self (2 * r)) ∙ xor_zero_r q in
    subst IsMultiple (sym e) (multiple_bit (r / 2 ^ 31) (omega arith))

congruent_times_power : (k r : ℕ) → r < 2 ^ 32 → Congruent (times_power k r) (r * 2 ^ k)
unfolding times_power
congruent_times_power zero r h = congruent_self r (r * 2 ^ 0) (omega arith)
congruent_times_power (suc k) r h =
    let e : 2 * r * 2 ^ k ≡ r * 2 ^ suc k = regrouped r (2 ^ k) ∙ ap (λ t. r * t) (sym (pow-succ' 2 k)) in
    let moved : Congruent (times_x r * 2 ^ k) (r * 2 ^ suc k) = subst (Congruent (times_x r * 2 ^ k)) e (congruent_shl k (times_x r) (2 * r) (congruent_times_x r h)) in
    congruent_trans (times_power k (times_x r)) (times_x r * 2 ^ k) (r * 2 ^ suc k) (congruent_times_power k (times_x r) (times_x-lt r h)) moved
  where
    regrouped : (x p : ℕ) → 2 * x * p ≡ x * (2 * p)
    regrouped x p = omega arith

-- one more byte
after_byte-lt : (r b : ℕ) → r < 2 ^ 32 → b < 256 → after_byte r b < 2 ^ 32
unfolding after_byte
after_byte-lt r b hr hb = times_power-lt 8 (bit_xor r (b * 2 ^ 24)) (xor_lt 32 r (b * 2 ^ 24) hr (omega arith))

congruent_after_byte : (r b p : ℕ) → r < 2 ^ 32 → b < 256 → Congruent r (p * 2 ^ 32) → Congruent (after_byte r b) ((p * 256 + b) * 2 ^ 32)
unfolding after_byte
congruent_after_byte r b p hr hb m =
    let s = bit_xor r (b * 2 ^ 24) in
    let low = b * 2 ^ 32 in
    let up : bit_xor (p * 2 ^ 40) low ≡ p * 2 ^ 40 + low = xor_shifted p 40 low (omega arith) in
    let moved_byte : b * 2 ^ 24 * 2 ^ 8 ≡ low = omega arith in
    let moved_front : p * 2 ^ 32 * 2 ^ 8 ≡ p * 2 ^ 40 = omega arith in
    let front : s * 2 ^ 8 ≡ bit_xor (r * 2 ^ 8) low = xor_shl r (b * 2 ^ 24) 8 ∙ ap (bit_xor (r * 2 ^ 8)) moved_byte in
    let more : (p * 256 + b) * 2 ^ 32 ≡ bit_xor (p * 2 ^ 32 * 2 ^ 8) low =
    (let e : (p * 256 + b) * 2 ^ 32 ≡ p * 2 ^ 40 + low = omega arith in e) ∙ sym up ∙ ap (λ t. bit_xor t low) (sym moved_front) in
    let same : bit_xor (s * 2 ^ 8) ((p * 256 + b) * 2 ^ 32) ≡ bit_xor (r * 2 ^ 8) (p * 2 ^ 32 * 2 ^ 8) =
    ap (λ t. bit_xor t ((p * 256 + b) * 2 ^ 32)) front ∙ ap (bit_xor (bit_xor (r * 2 ^ 8) low)) more ∙ xor_last (r * 2 ^ 8) (p * 2 ^ 32 * 2 ^ 8) low in
    let eight : Congruent (s * 2 ^ 8) ((p * 256 + b) * 2 ^ 32) = subst IsMultiple (sym same) (congruent_shl 8 r (p * 2 ^ 32) m) in
    congruent_trans (times_power 8 s) (s * 2 ^ 8) ((p * 256 + b) * 2 ^ 32) (congruent_times_power 8 s (xor_lt 32 r (b * 2 ^ 24) hr (omega arith))) eight

-- all bytes, from a front p whose remainder is r
pub remainder_from-lt : (bytes : List ℕ) (r : ℕ) → r < 2 ^ 32 → AreBytes bytes → remainder_from r bytes < 2 ^ 32
remainder_from-lt [] r h small = h
remainder_from-lt (b ∷ bytes) r h small = remainder_from-lt bytes (after_byte r b) (after_byte-lt r b h (small 0)) (λ k. small (suc k))

congruent_from : (bytes : List ℕ) (r p : ℕ) → r < 2 ^ 32 → AreBytes bytes → Congruent r (p * 2 ^ 32)
    → Congruent (remainder_from r bytes) (fold (λ p byte. p * 256 + byte) p bytes * 2 ^ 32)
congruent_from [] r p h small m = m
congruent_from (b ∷ bytes) r p h small m =
    congruent_from bytes (after_byte r b) (p * 256 + b) (after_byte-lt r b h (small 0)) (λ k. small (suc k)) (congruent_after_byte r b p h (small 0) m)

pub is_remainder : (bytes : List ℕ) → AreBytes bytes → IsRemainder bytes (remainder_from 0 bytes)
unfolding polynomial
is_remainder bytes small =
    let r = remainder_from 0 bytes in
    let start : Congruent 0 (0 * 2 ^ 32) = congruent_self 0 (0 * 2 ^ 32) refl in
    record {
      degree = remainder_from-lt bytes 0 (omega arith) small;
      multiple = subst IsMultiple (xor_comm r (polynomial bytes * 2 ^ 32)) (congruent_from bytes 0 0 (omega arith) small start);
    }

pub checksum-lt : (page : List ℕ) → AreBytes page → checksum page < 2 ^ 32
unfolding checksum
checksum-lt page small = remainder_from-lt (blanked page) 0 (omega arith) (bytes-blanked page small)

pub checksum_is_remainder : (page : List ℕ) → AreBytes page → IsRemainder (blanked page) (checksum page)
unfolding checksum
checksum_is_remainder page small = is_remainder (blanked page) (bytes-blanked page small)

-- two remainders differ by a multiple below 2 ^ 32, which is 0
pub one_remainder : (bytes : List ℕ) (q r : ℕ) → IsRemainder bytes q → IsRemainder bytes r → q ≡ r
one_remainder bytes q r a b =
    let p = polynomial bytes * 2 ^ 32 in
    let e : bit_xor (bit_xor p q) (bit_xor p r) ≡ bit_xor q r = ap (λ t. bit_xor t (bit_xor p r)) (xor_comm p q) ∙ xor_middle q p r in
    let both : IsMultiple (bit_xor q r) = subst IsMultiple e (multiple_sum (bit_xor p q) (bit_xor p r) a.multiple b.multiple) in
    let none : bit_xor q r ≡ 0 = multiple_small (bit_xor q r) both (xor_lt 32 q r a.degree b.degree) in
    sym (xor_zero_r q) ∙ ap (bit_xor q) (sym (xor_self r)) ∙ sym (xor_assoc q r r) ∙ ap (λ t. bit_xor t r) none ∙ xor_zero_l r
