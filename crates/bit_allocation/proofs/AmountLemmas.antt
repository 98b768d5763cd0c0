-- Bounds of a band's amounts.
use Rattle.std.proofs.Common.{◌≡◌, ℕ, zero, suc, ◌+◌, ◌-◌, ◌*◌, ◌/◌, ◌%◌, ◌^◌, ◌<◌, ◌≤◌, Bool, true, false, nat_le, nat_eq, if◌then◌else◌, refl, subst, arith}
use Rattle.std.specs.Prelude.{ℤ, pos, negsuc, ◌+ℤ◌, ◌-ℤ◌, ◌*ℤ◌, ◌≤ℤ◌, ◌<ℤ◌, ◌≢◌, unsigned_abs, IsTrue}
use Rattle.std.proofs.lemmas.Bool.Decides.{nat_tests}
use Rattle.celt_base.specs.Ends.{is_band_end}
use Rattle.std.specs.Int.{int_shr, w32, cast_signed as to_z, cast_unsigned as of_z}
use Rattle.std.proofs.lemmas.Int.{ints, unsigned_abs-mul}
use Rattle.std.proofs.lemmas.Nat.{mul-le}
use Rattle.std.proofs.Math.Nat.{pow-le-pow_right}
use Rattle.bit_allocation.specs.declared.request.Request.{Request}
use Rattle.bit_allocation.specs.Amounts.{raised, tilted, bit_each, most_of, tilt_of, less_of, offset_of, usual_of, value_of}
use Rattle.bit_allocation.specs.Requests.{IsTrim, IsBoost, quantum_of}
use Rattle.celt_base.specs.declared.kind.Kind.{Kind}
use Rattle.celt_base.proofs.Below.{at_each, less, at_most}
use Rattle.celt_base.proofs.BandEnds.{end_most}
use Rattle.celt_tables.proofs.Entries.{caps_most, allocation_rises, edges_rise}
use Rattle.celt_tables.specs.Tables.{caps_entry, allocation_entry, width_of, size_of, coefficients_of}

-- no entry of the greatest amounts is below 37
pub caps_least : (row i : ℕ) → row < 8 → i < 21 → 37 ≤ caps_entry row i
caps_least row i below inside =
    let at = at_each (λ k. nat_le 37 (caps_entry (k / 21) (k % 21))) 168 (21 * row + i) refl (omega arith) in
    let row_is : (21 * row + i) / 21 ≡ row = omega arith in
    let place_is : (21 * row + i) % 21 ≡ i = omega arith in
    at_most 37 (caps_entry row i)
    (subst (λ n. nat_le 37 (caps_entry row n) ≡ true) place_is (subst (λ n. nat_le 37 (caps_entry n ((21 * row + i) % 21)) ≡ true) row_is at))

-- the greatest amount of some coefficients
pub most_least : (entry coefficients channels : ℕ) → 37 ≤ entry → channels ≤ coefficients → 8 * channels ≤ (entry + 64) * coefficients / 4
most_least entry coefficients channels least some =
    let p = mul-le 101 coefficients (entry + 64) coefficients (omega arith) (omega arith) in
    omega (arith, p)

pub most_most : (entry coefficients : ℕ) → entry ≤ 240 → coefficients ≤ 352 → (entry + 64) * coefficients / 4 ≤ 26752
most_most entry coefficients most all =
    let p = mul-le (entry + 64) coefficients 304 352 (omega arith) all in
    omega (arith, p)

-- a coefficient in each channel at least
pub some_coefficients : (channels size : ℕ) → 1 ≤ size → channels ≤ channels * size
some_coefficients channels size some = let p = mul-le channels 1 channels size (omega arith) some in omega (arith, p)

-- a shifted product
pub product_within : (tilt : ℕ) (steps : ℤ) → tilt ≤ 56320 → unsigned_abs steps ≤ 8 → unsigned_abs (pos tilt *ℤ steps) ≤ 450560
product_within tilt steps most few =
    let e = unsigned_abs-mul (pos tilt) steps in
    let p = mul-le tilt (unsigned_abs steps) 56320 8 most few in
    omega (arith, e, p)

pub shifted_within : (z : ℤ) → unsigned_abs z ≤ 450560 → unsigned_abs (int_shr z 6) ≤ 7041
shifted_within (pos n) most = omega arith
shifted_within (negsuc n) most = omega arith

pub with_none : (offset : ℤ) (amount : ℕ) → amount ≡ 0 → 0 ≡ tilted offset amount
unfolding tilted
with_none offset zero e = refl
with_none offset (suc n) e = absurd (omega (arith, e))

pub with_some : (offset : ℤ) (amount : ℕ) → amount ≢ 0 → raised (pos amount +ℤ offset) ≡ tilted offset amount
unfolding tilted
with_some offset zero ne = absurd (ne refl)
with_some offset (suc n) ne = refl

pub raised_low : (z : ℤ) → z <ℤ pos 0 → 0 ≡ raised z
raised_low (pos n) low = absurd (omega (arith, ints, low))
raised_low (negsuc n) low = refl

pub raised_high : (z : ℤ) → pos 0 ≤ℤ z → unsigned_abs z ≡ raised z
raised_high (pos n) high = refl
raised_high (negsuc n) high = absurd (omega (arith, ints, high))

-- a difference of a number and a small one
pub less_apart : (z : ℤ) (less : ℕ) → unsigned_abs z ≤ 7041 → less ≤ 16 → to_z w32 (of_z w32 (z -ℤ pos less)) ≡ z -ℤ pos less
less_apart z less size few = omega (arith, ints)

-- facts of every band
pub edges_width : (band : ℕ) → band < 21 → 1 ≤ width_of band
edges_width band inside = let e = edges_rise band inside in omega (arith, e)

width_most : (band : ℕ) → band < 21 → width_of band ≤ 22
width_most band inside = at_most (width_of band) 22 (at_each (λ k. nat_le (width_of k) 22) 21 band refl inside)

power_least : (lm : ℕ) → 1 ≤ 2 ^ lm
power_least zero = omega arith
power_least (suc lm) = let p = power_least lm in omega (arith, p)

power_most : (lm : ℕ) → lm ≤ 3 → 2 ^ lm ≤ 8
power_most lm most = pow-le-pow_right {n = 2} (omega arith) most

pub size_least : (kind : Kind) (band : ℕ) → band < 21 → 1 ≤ size_of kind band
size_least kind band inside =
    let p = mul-le 1 1 (width_of band) (2 ^ kind.lm) (edges_width band inside) (power_least kind.lm) in omega (arith, p)

pub size_most : (kind : Kind) (band : ℕ) → band < 21 → size_of kind band ≤ 176
size_most kind band inside =
    let p = mul-le (width_of band) (2 ^ kind.lm) 22 8 (width_most band inside) (power_most kind.lm kind.sized) in omega (arith, p)

pub most_of_least : (kind : Kind) (band : ℕ) → band < 21 → bit_each kind ≤ most_of kind band
most_of_least kind band inside =
    most_least (caps_entry (2 * kind.lm + kind.channels - 1) band) (coefficients_of kind band) kind.channels
    (caps_least (2 * kind.lm + kind.channels - 1) band (omega (arith, kind.sized, kind.two_channels)) inside)
    (some_coefficients kind.channels (size_of kind band) (size_least kind band inside))

pub most_of_most : (kind : Kind) (band : ℕ) → band < 21 → most_of kind band ≤ 26752
most_of_most kind band inside =
    let p = mul-le kind.channels (size_of kind band) 2 176 kind.two_channels (size_most kind band inside) in
    most_most (caps_entry (2 * kind.lm + kind.channels - 1) band) (coefficients_of kind band)
    (caps_most (2 * kind.lm + kind.channels - 1) band (omega (arith, kind.sized, kind.two_channels)) inside)
    (omega (arith, p))

pub band_inside : (kind : Kind) (band : ℕ) → band < kind.end → band < 21
band_inside kind band below = let e = end_most kind in omega (arith, e)

-- the offset
less_few : (kind : Kind) (band : ℕ) → less_of kind band ≤ 16
less_few kind band = few (nat_eq (size_of kind band) 1)
  where
    few : (b : Bool) → (if b then bit_each kind else 0) ≤ 16
    few true = let t = kind.two_channels in omega (arith, t)
    few false = omega arith

pub offset_within : (kind : Kind) (trim : ℤ) (band : ℕ) → band < 21 → IsTrim trim → unsigned_abs (offset_of kind trim band) < 2 ^ 14
unfolding offset_of
offset_within kind trim band inside is =
    let e = end_most kind in
    let p = mul-le kind.channels (size_of kind band) 2 176 kind.two_channels (size_most kind band inside) in
    let q = mul-le (8 * coefficients_of kind band) (kind.end - band - 1) 2816 20 (omega (arith, p)) (omega (arith, e)) in
    let l = is.least in
    let m = is.most in
    let k = kind.sized in
    let n = product_within (tilt_of kind band) (trim -ℤ pos (5 + kind.lm)) (omega (arith, q)) (omega (arith, ints, l, m, k)) in
    let s = shifted_within (pos (tilt_of kind band) *ℤ (trim -ℤ pos (5 + kind.lm))) n in
    let f = less_few kind band in
    omega (arith, ints, s, f)

-- a boost
pub boost_within : (kind : Kind) (band : ℕ) (boost : ℤ) → band < 21 → IsBoost kind band boost → unsigned_abs boost < 2 ^ 15
boost_within kind band boost inside is =
    let c = most_of_most kind band inside in
    let p = mul-le kind.channels (size_of kind band) 2 176 kind.two_channels (size_most kind band inside) in
    let q : quantum_of (coefficients_of kind band) ≤ 2816 = omega (arith, p) in
    let l = is.least in
    let m = is.most in
    omega (arith, ints, c, q, l, m)

-- amounts rise from a quality to the next
raised_more : (z w : ℤ) → z ≤ℤ w → raised z ≤ raised w
raised_more (pos n) (pos m) le = omega (arith, ints)
raised_more (pos n) (negsuc m) le = absurd (omega (arith, ints))
raised_more (negsuc n) (pos m) le = omega arith
raised_more (negsuc n) (negsuc m) le = omega arith

tilted_more : (offset : ℤ) (a b : ℕ) → a ≤ b → tilted offset a ≤ tilted offset b
unfolding tilted
tilted_more offset zero b le = omega arith
tilted_more offset (suc a) zero le = absurd (omega arith)
tilted_more offset (suc a) (suc b) le = raised_more (pos (suc a) +ℤ offset) (pos (suc b) +ℤ offset) (omega (arith, ints))

pub usual_is : (kind : Kind) (quality band : ℕ) → quality ≤ 10 → usual_of kind quality band ≡ coefficients_of kind band * allocation_entry quality band / 4
usual_is kind quality band inside = let t : nat_le quality 10 ≡ true = grind (arith, nat_tests) in rw t refl

usual_rises : (kind : Kind) (quality band : ℕ) → quality < 10 → band < 21 → usual_of kind quality band ≤ usual_of kind (quality + 1) band
usual_rises kind quality band below inside =
    let p = mul-le (coefficients_of kind band) (allocation_entry quality band) (coefficients_of kind band) (allocation_entry (quality + 1) band) (omega arith) (allocation_rises quality band below inside) in
    let a = usual_is kind quality band (omega arith) in
    let b = usual_is kind (quality + 1) band (omega arith) in
    omega (arith, a, b, p)

pub value_rises : (r : Request) (quality band : ℕ) → quality < 10 → band < 21 → value_of r quality band ≤ value_of r (quality + 1) band
unfolding value_of
value_rises r quality band below inside =
    tilted_more (offset_of r.kind r.trim band) (usual_of r.kind quality band) (usual_of r.kind (quality + 1) band) (usual_rises r.kind quality band below inside)

pub same_number : (z : ℤ) → unsigned_abs z < 2 ^ 14 → to_z w32 (of_z w32 z) ≡ z
same_number z small = omega (arith, ints)

pub end_least : (kind : Kind) → 0 < kind.end
end_least kind = ended kind.end kind.ended
  where
    ended : (n : ℕ) → IsTrue (is_band_end n) → 0 < n
    ended n e = grind (arith, nat_tests)
