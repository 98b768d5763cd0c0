-- The amounts of an angle, step by step.
use Rattle.std.proofs.Common.{◌≡◌, ◌≢◌, ℕ, ◌+◌, ◌-◌, ◌*◌, ◌/◌, ◌%◌, ◌^◌, ◌<◌, ◌≤◌, Bool, true, false, ◌&&◌, ◌||◌, if◌then◌else◌, nat_lt, nat_eq, refl, ◌∙◌, ap, arith}
use Rattle.std.specs.Prelude.{ℤ, pos, negsuc, ◌+ℤ◌, ◌-ℤ◌, ◌*ℤ◌, ◌≤ℤ◌, ◌<ℤ◌, unsigned_abs, int_le, int_div, nat_le, FitsSigned, slice_index}
use Rattle.std.specs.Int.{w32, int_shr}
use Rattle.std.proofs.Math.Nat.{div-le_self}
use Rattle.std.proofs.lemmas.Bool.Decides.{nat_tests}
use Rattle.std.proofs.lemmas.Int.{ints, fits_signed_from_abs}
use Rattle.std.proofs.lemmas.Bool.{and_parts}
use Rattle.celt_base.proofs.Below.{all_below, at_each}
use Rattle.band_plan.specs.declared.angles.TheConstants.{POWERS}
use Rattle.celt_tables.specs.declared.bands.TheConstants.{WIDTH_LOGARITHMS}
use Rattle.band_plan.specs.Angles.{lesser, price_of, numbers_of, shift_of, capacity_of, eighths_of, steps_at, steps_for, steps_of, gain_of, delta_of, short_delta}
use Rattle.celt_base.specs.Questions.{IsEven}
use Rattle.fixed_math.specs.Bitexact.{log2_tangent}
use Rattle.fixed_math.specs.Rounding.{rounded}
use Rattle.fixed_math.proofs.RoundingLemmas.{product_within, quotient_within, shr_within}

logarithm_fits : ℕ → Bool
logarithm_fits band = nat_le (slice_index WIDTH_LOGARITHMS band) 36

logarithms_fit : all_below logarithm_fits 21 ≡ true
unfolding logarithm_fits
logarithms_fit = refl

pub logarithms_most : (band : ℕ) → band ≤ 20 → slice_index WIDTH_LOGARITHMS band ≤ 36
unfolding logarithm_fits
logarithms_most band most = let t : nat_le (slice_index WIDTH_LOGARITHMS band) 36 ≡ true = at_each logarithm_fits 21 band logarithms_fit (omega (arith, most)) in grind (arith, nat_tests, t)

pub price-is : (band level : ℕ) → pos (slice_index WIDTH_LOGARITHMS band + 8 * level) -ℤ pos 8 ≡ price_of band level
unfolding price_of
price-is band level = refl

pub shift-pair : (pair : Bool) (price : ℤ) → pair ≡ true → int_shr price 1 -ℤ pos 16 ≡ shift_of pair price
unfolding shift_of
shift-pair pair price e = rw e refl

pub shift-other : (pair : Bool) (price : ℤ) → pair ≡ false → int_shr price 1 -ℤ pos 4 ≡ shift_of pair price
unfolding shift_of
shift-other pair price e = rw e refl

pub shift_fits : (price : ℤ) (k : ℕ) → unsigned_abs price ≤ 70 → k ≤ 16 → FitsSigned w32 (int_shr price 1 -ℤ pos k)
shift_fits price k most small =
    let s = shr_within price 1 70 most in fits_signed_from_abs w32 (int_shr price 1 -ℤ pos k) (omega (arith, ints, s, small))

pub record CapacitySteps (numbers : ℕ) (shift bits : ℤ) : Type 0 where
  pub product : FitsSigned w32 (pos numbers *ℤ shift)
  pub sum : FitsSigned w32 (bits +ℤ pos numbers *ℤ shift)
  pub quotient : FitsSigned w32 (capacity_of numbers shift bits)
  pub size : unsigned_abs (capacity_of numbers shift bits) ≤ 2 ^ 30 + 21060

pub capacity_steps : (numbers : ℕ) (shift bits : ℤ) → numbers ≤ 351 → unsigned_abs shift ≤ 60 → unsigned_abs bits ≤ 2 ^ 30 → CapacitySteps numbers shift bits
unfolding capacity_of
capacity_steps numbers shift bits n s b =
    let p = product_within (pos numbers) shift 351 60 n s in
    let sum : unsigned_abs (bits +ℤ pos numbers *ℤ shift) ≤ 2 ^ 30 + 21060 = omega (arith, ints, p, b) in
    let q = quotient_within (bits +ℤ pos numbers *ℤ shift) (pos numbers) (2 ^ 30 + 21060) sum in
    record {
      product = fits_signed_from_abs w32 (pos numbers *ℤ shift) (omega (arith, p));
      sum = fits_signed_from_abs w32 (bits +ℤ pos numbers *ℤ shift) (omega (arith, sum));
      quotient = fits_signed_from_abs w32 (int_div (bits +ℤ pos numbers *ℤ shift) (pos numbers)) (omega (arith, q));
      size = q;
    }

pub capacity-is : (numbers : ℕ) (shift bits : ℤ) → int_div (bits +ℤ pos numbers *ℤ shift) (pos numbers) ≡ capacity_of numbers shift bits
unfolding capacity_of
capacity-is numbers shift bits = refl

pub eighths-is : (pair : Bool) (n numbers : ℕ) (price shift bits capacity inner result : ℤ) → numbers ≡ numbers_of pair n → shift ≡ shift_of pair price → capacity ≡ capacity_of numbers shift bits
    → inner ≡ lesser ((bits -ℤ price) -ℤ pos 32) capacity
    → result ≡ lesser (pos 64) inner
    → result ≡ eighths_of pair n price bits
unfolding eighths_of
eighths-is pair n numbers price shift bits capacity inner result a b c d e =
    e ∙ ap (lesser (pos 64)) (d ∙ ap (lesser ((bits -ℤ price) -ℤ pos 32)) (c ∙ ap (λ m. capacity_of m shift bits) a ∙ ap (λ z. capacity_of (numbers_of pair n) z bits) b))

pub eighths_most : (pair : Bool) (n : ℕ) (price bits : ℤ) → eighths_of pair n price bits ≤ℤ pos 64
unfolding eighths_of
eighths_most pair n price bits = below (lesser ((bits -ℤ price) -ℤ pos 32) (capacity_of (numbers_of pair n) (shift_of pair price) bits))
  where
    below : (z : ℤ) → lesser (pos 64) z ≤ℤ pos 64
    below z = by_test (int_le (pos 64) z) refl
      where
        by_test : (b : Bool) → int_le (pos 64) z ≡ b → (if b then pos 64 else z) ≤ℤ pos 64
        by_test true e = omega (arith, ints)
        by_test false e = grind (arith, ints, e)

steps_fit : ℕ → Bool
steps_fit q = nat_lt q 4 || (nat_eq (steps_at q % 2) 0 && (nat_le 2 (steps_at q) && nat_le (steps_at q) 256))

steps_all_fit : all_below steps_fit 65 ≡ true
unfolding steps_fit steps_at
steps_all_fit = refl

pub steps_even : (q : ℕ) → 4 ≤ q → q ≤ 64 → IsEven (steps_at q)
unfolding steps_fit
steps_even q low high =
    let t : steps_fit q ≡ true = at_each steps_fit 65 q steps_all_fit (omega (arith, high)) in
    by_test (nat_lt q 4) refl t
  where
    by_test : (b : Bool) → nat_lt q 4 ≡ b → (b || (nat_eq (steps_at q % 2) 0 && (nat_le 2 (steps_at q) && nat_le (steps_at q) 256))) ≡ true → IsEven (steps_at q)
    by_test true e t = absurd (grind (arith, nat_tests, e, low))
    by_test false e t =
        let a = and_parts (nat_eq (steps_at q % 2) 0) (nat_le 2 (steps_at q) && nat_le (steps_at q) 256) t in
        let b = and_parts (nat_le 2 (steps_at q)) (nat_le (steps_at q) 256) a.1 in
        let x = a.0 in
        let y = b.0 in
        let z = b.1 in
        (grind (arith, nat_tests, x), grind (arith, nat_tests, y), grind (arith, nat_tests, z))

pub steps-is : (q : ℕ) → (slice_index POWERS (q % 8) / 2 ^ (14 - q / 8) + 1) / 2 * 2 ≡ steps_at q
unfolding steps_at
steps-is q = refl

pub steps-of : (pair : Bool) (band level n result : ℕ) (price bits eighths : ℤ) → price ≡ price_of band level → eighths ≡ eighths_of pair n price bits → result ≡ steps_for eighths → result ≡ steps_of pair band level n bits
unfolding steps_of
steps-of pair band level n result price bits eighths a b c = c ∙ ap steps_for (b ∙ ap (λ p. eighths_of pair n p bits) a)

pub delta_none : (n theta : ℕ) → theta ≡ 0 → negsuc 16383 ≡ delta_of n theta
unfolding delta_of
delta_none n theta e = rw e refl

pub delta_right : (n theta : ℕ) → theta ≡ 16384 → pos 16384 ≡ delta_of n theta
unfolding delta_of
delta_right n theta e = rw e refl

pub delta_some : (n theta : ℕ) (mid side tangent : ℤ) → theta ≢ 0 → theta ≢ 16384 → mid ≡ gain_of theta → side ≡ gain_of (16384 - theta) → tangent ≡ log2_tangent (unsigned_abs side) (unsigned_abs mid)
    → rounded (pos ((n - 1) * 128) *ℤ tangent) 15 ≡ delta_of n theta
unfolding delta_of
delta_some n theta mid side tangent some less m s e =
    let t : nat_eq theta 0 ≡ false = grind (arith, nat_tests) in
    let u : nat_eq theta 16384 ≡ false = grind (arith, nat_tests) in
    rw (t, u) (ap (λ z. rounded (pos ((n - 1) * 128) *ℤ z) 15) (e ∙ ap (λ z. log2_tangent (unsigned_abs z) (unsigned_abs mid)) s ∙ ap (λ z. log2_tangent (unsigned_abs (gain_of (16384 - theta))) (unsigned_abs z)) m))

pub grown_small : (level n : ℕ) → level ≤ 3 → n ≤ 176 → 8 * n / 2 ^ (6 - level) ≤ 1408
grown_small level n low small = let d = div-le_self (8 * n) (2 ^ (6 - level)) in omega (arith, d, small)

pub short_high : (level n theta : ℕ) (delta : ℤ) → 8192 < theta → delta -ℤ int_shr delta (5 - level) ≡ short_delta level n theta delta
unfolding short_delta
short_high level n theta delta high = let t : nat_lt 8192 theta ≡ true = grind (arith, nat_tests) in rw t refl

pub short_low : (level n theta : ℕ) (delta raised : ℤ) → theta ≤ 8192 → raised ≡ delta +ℤ pos (8 * n / 2 ^ (6 - level)) → raised <ℤ pos 0 → raised ≡ short_delta level n theta delta
unfolding short_delta
short_low level n theta delta raised low e neg =
    let t : nat_lt 8192 theta ≡ false = grind (arith, nat_tests) in
    let u : int_le raised (pos 0) ≡ true = grind (arith, ints, neg) in
    rw t (lesser_first raised (pos 0) u ∙ ap (λ z. lesser z (pos 0)) e)
  where
    lesser_first : (a b : ℤ) → int_le a b ≡ true → a ≡ lesser a b
    lesser_first a b u = rw u refl

pub short_none : (level n theta : ℕ) (delta raised : ℤ) → theta ≤ 8192 → raised ≡ delta +ℤ pos (8 * n / 2 ^ (6 - level)) → pos 0 ≤ℤ raised → pos 0 ≡ short_delta level n theta delta
unfolding short_delta
short_none level n theta delta raised low e high =
    let t : nat_lt 8192 theta ≡ false = grind (arith, nat_tests) in
    rw t (lesser_last raised high ∙ ap (λ z. lesser z (pos 0)) e)
  where
    lesser_last : (a : ℤ) → pos 0 ≤ℤ a → pos 0 ≡ lesser a (pos 0)
    lesser_last a h = by_test (int_le a (pos 0)) refl
      where
        by_test : (b : Bool) → int_le a (pos 0) ≡ b → pos 0 ≡ (if b then a else pos 0)
        by_test true u = let l : a ≤ℤ pos 0 = grind (arith, ints, u) in omega (arith, ints, l, h)
        by_test false u = refl
